-- A list of cells is known by the contents of its cells.
use Rattle.std.proofs.Common.{◌≡◌, ℕ, zero, suc, ◌<◌, true, false, List, [], ◌∷◌, length, map, Some}
use Rattle.std.proofs.Common.{None, refl, sym, ap, ◌∙◌, inl, inr, arith}
use Rattle.std.specs.Prelude.{ℤ, pos, Bool, slice_get}
use Rattle.std.specs.Option.{option_map}
use Rattle.std.proofs.lemmas.Bool.{cases_lt}
use Rattle.std.proofs.lemmas.List.{get_or_past}
use Rattle.test_shapes.specs.Cell.{Cell, IsUsed, IsAmong, AreSameAt, Owns, contents_at}
use Rattle.point_pool.specs.declared.slot.Slot.{Slot}
use Rattle.point_pool.specs.Walk.{no_slot, slot_at, walk, knots_at, cell_of, AreUsed}

-- a list of cells is the same where its slots are
pub walk_same : (slots slots' : List Slot) (n head : ℕ) →
    ((m : ℕ) → IsAmong m (walk slots head n) → slot_at slots' m ≡ slot_at slots m) →
    walk slots' head n ≡ walk slots head n
walk_same slots slots' zero head h = refl
walk_same slots slots' (suc n) head h =
    let e : (slot_at slots' head).next ≡ (slot_at slots head).next =
    ap (λ s. s.next) (h head (inl refl)) in
    ap (λ xs. head ∷ xs) (ap (λ k. walk slots' k n) e ∙ walk_same slots slots' n
    (slot_at slots head).next (λ m a. h m (inr a)))

pub knots_same : (slots slots' : List Slot) (own : List ℕ) →
    ((m : ℕ) → IsAmong m own → slot_at slots' m ≡ slot_at slots m) →
    knots_at slots' own ≡ knots_at slots own
knots_same slots slots' [] h = refl
knots_same slots slots' (x ∷ xs) h =
    let e : (slot_at slots' x).knot ≡ (slot_at slots x).knot = ap (λ s. s.knot) (h x (inl refl)) in
    let r = knots_same slots slots' xs (λ m a. h m (inr a)) in cc

pub length-walk : (slots : List Slot) (n head : ℕ) → length (walk slots head n) ≡ n
length-walk slots zero head = refl
length-walk slots (suc n) head = ap suc (length-walk slots n (slot_at slots head).next)

pub differ : {b : Bool} → b ≡ true → b ≡ false → ⊥
differ p q = cc

pub inside_if_used : (slots : List Slot) (n : ℕ) → (slot_at slots n).in_use ≡ true →
    n < length slots
inside_if_used slots n h =
    elim (cases_lt n (length slots)) [
      | inl l ↦ l
      | inr past ↦ absurd (differ h (ap (λ s. s.in_use) (get_or_past slots n no_slot past)))
    ]

-- ---- cells and slots

pub cell_at : (slots : List Slot) (n : ℕ) → n < length slots →
    slice_get (map cell_of slots) n ≡ Some (cell_of (slot_at slots n))
cell_at [] n h = absurd (omega arith)
cell_at (s ∷ ss) zero h = refl
cell_at (s ∷ ss) (suc n) h = cell_at ss n (omega arith)

cell_some : (slots : List Slot) (n : ℕ) (c : Cell) → slice_get (map cell_of slots) n ≡ Some c →
    c ≡ cell_of (slot_at slots n)
cell_some [] n c h = let e : None ≡ Some c = h in cc
cell_some (s ∷ ss) zero c h = let e : Some (cell_of s) ≡ Some c = h in cc
cell_some (s ∷ ss) (suc n) c h = cell_some ss n c h

pub slot_if_used : (slots : List Slot) (n : ℕ) → IsUsed (map cell_of slots) n →
    (slot_at slots n).in_use ≡ true
slot_if_used slots n u = ap (λ c. c.in_use) (sym (cell_some slots n u.0 u.1)) ∙ u.2

pub used_if_slot : (slots : List Slot) (n : ℕ) → (slot_at slots n).in_use ≡ true →
    IsUsed (map cell_of slots) n
used_if_slot slots n u = (cell_of (slot_at slots n), cell_at slots n (inside_if_used slots n u), u)

-- slots that are equal where they are in use have equal cells
pub same_cell : (slots slots' : List Slot) (n : ℕ) → (slot_at slots n).in_use ≡ true →
    slot_at slots' n ≡ slot_at slots n →
    slice_get (map cell_of slots') n ≡ slice_get (map cell_of slots) n
same_cell slots slots' n used e =
    cell_at slots' n (inside_if_used slots' n (ap (λ s. s.in_use) e ∙ used)) ∙ ap
    (λ s. Some (cell_of s)) e ∙ sym (cell_at slots n (inside_if_used slots n used))

-- ---- lists are known by the contents of their cells

-- the number of the next cell, and the breakpoint, are equal
pub record AreAlike (s t : Slot) : Type 0 where
  pub next : s.next ≡ t.next
  pub knot : s.knot ≡ t.knot

first_is : {a b : ℕ} {x y u v : ℤ} → pos a ∷ x ∷ u ∷ [] ≡ pos b ∷ y ∷ v ∷ [] → a ≡ b
first_is e = cc

second_is : {a b : ℕ} {x y u v : ℤ} → pos a ∷ x ∷ u ∷ [] ≡ pos b ∷ y ∷ v ∷ [] → x ≡ y
second_is e = cc

third_is : {a b : ℕ} {x y u v : ℤ} → pos a ∷ x ∷ u ∷ [] ≡ pos b ∷ y ∷ v ∷ [] → u ≡ v
third_is e = cc

alike_by_contents : (s t : Slot) → (cell_of s).contents ≡ (cell_of t).contents → AreAlike s t
alike_by_contents s t e =
    let l : pos s.next ∷ s.knot.at ∷ s.knot.value ∷ [] ≡ pos t.next ∷ t.knot.at ∷ t.knot.value
    ∷ [] = e in
    let at : s.knot.at ≡ t.knot.at = second_is l in
    let value : s.knot.value ≡ t.knot.value = third_is l in
    record { next = first_is l; knot = λ i. record { at = at i; value = value i } }

contents_some : (slots : List Slot) (n : ℕ) (l : List ℤ) →
    contents_at (map cell_of slots) n ≡ Some l → (cell_of (slot_at slots n)).contents ≡ l
contents_some [] n l h = let e : None ≡ Some l = h in cc
contents_some (s ∷ ss) zero l h = let e : Some (cell_of s).contents ≡ Some l = h in cc
contents_some (s ∷ ss) (suc n) l h = contents_some ss n l h

pub alike_at : (slots slots' : List Slot) (n : ℕ) → (slot_at slots n).in_use ≡ true →
    contents_at (map cell_of slots') n ≡ contents_at (map cell_of slots) n →
    AreAlike (slot_at slots' n) (slot_at slots n)
alike_at slots slots' n used e =
    let there : contents_at (map cell_of slots) n ≡ Some (cell_of (slot_at slots n)).contents =
    ap (option_map (λ (c : Cell). c.contents))
    (cell_at slots n (inside_if_used slots n used)) in
    alike_by_contents _ _ (contents_some slots' n (cell_of (slot_at slots n)).contents (e ∙ there))

walk_alike : (slots slots' : List Slot) (n head : ℕ) →
    ((m : ℕ) → IsAmong m (walk slots head n) → AreAlike (slot_at slots' m) (slot_at slots m)) →
    walk slots' head n ≡ walk slots head n
walk_alike slots slots' zero head h = refl
walk_alike slots slots' (suc n) head h =
    let e : (slot_at slots' head).next ≡ (slot_at slots head).next = (h head (inl refl)).next in
    ap (λ xs. head ∷ xs) (ap (λ k. walk slots' k n) e ∙ walk_alike slots slots' n
    (slot_at slots head).next (λ m a. h m (inr a)))

knots_alike : (slots slots' : List Slot) (own : List ℕ) →
    ((m : ℕ) → IsAmong m own → AreAlike (slot_at slots' m) (slot_at slots m)) →
    knots_at slots' own ≡ knots_at slots own
knots_alike slots slots' [] h = refl
knots_alike slots slots' (x ∷ xs) h =
    let e : (slot_at slots' x).knot ≡ (slot_at slots x).knot = (h x (inl refl)).knot in
    let r = knots_alike slots slots' xs (λ m a. h m (inr a)) in cc

-- where the contents at a list's numbers are equal in two states, it is the same list of the same
-- breakpoints
pub record IsSameList (slots slots' : List Slot) (head n : ℕ) : Type 0 where
  pub numbers : walk slots' head n ≡ walk slots head n
  pub knots : knots_at slots' (walk slots' head n) ≡ knots_at slots (walk slots head n)

pub same_by_contents : (slots slots' : List Slot) (head n : ℕ) → AreUsed slots (walk slots head n) →
    AreSameAt (walk slots head n) (map cell_of slots) (map cell_of slots') →
    IsSameList slots slots' head n
same_by_contents slots slots' head n used same =
    let alike : (m : ℕ) → IsAmong m (walk slots head n) →
    AreAlike (slot_at slots' m) (slot_at slots m) =
    λ m a. alike_at slots slots' m (used.used m a) (same m a) in
    let e = walk_alike slots slots' n head alike in
    record {
      numbers = e;
      knots = ap (knots_at slots') e ∙ knots_alike slots slots' (walk slots head n) alike;
    }

-- and where its slots are equal
pub same_by_slots : (slots slots' : List Slot) (head n : ℕ) →
    ((m : ℕ) → IsAmong m (walk slots head n) → slot_at slots' m ≡ slot_at slots m) →
    IsSameList slots slots' head n
same_by_slots slots slots' head n same =
    let e = walk_same slots slots' n head same in
    record {
      numbers = e;
      knots = ap (knots_at slots') e ∙ knots_same slots slots' (walk slots head n) same;
    }

pub owns_of : (slots : List Slot) (own : List ℕ) → AreUsed slots own → Owns (map cell_of slots) own
owns_of slots own used =
    record { used = λ n a. used_if_slot slots n (used.used n a); distinct = used.distinct }

-- a home that counts isn't one that doesn't
pub counted : {P : Type 0} → true ≡ false → P
counted e = cc
