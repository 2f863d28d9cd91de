-- Lists of cells that are taken, stored and given back.
use Rattle.point_pool.proofs.Common.{◌≡◌, ◌≢◌, ℕ, zero, suc, ◌+◌, ◌-◌, ◌<◌, ◌≤◌, Bool, true, false, List, [], ◌∷◌, ◌++◌}
use Rattle.point_pool.proofs.Common.{length, refl, sym, ap, ◌∙◌, subst, inl, inr, arith, set, get_or-set_same}
use Rattle.point_pool.proofs.Common.{get_or-set_other, eqb, ◌⊎◌, length-set, length-append, IsAmong, AreDistinct, Knot}
use Rattle.point_pool.proofs.Common.{Slot, no_slot, slot_at, walk, knots_at, AreUsed, AreFree, Stored, Released}
use Rattle.point_pool.proofs.Common.{Changes, Replaced, walk_same, knots_same, length-walk, differ, inside_if_used}
use Rattle.std.specs.List.{AllByRecursion, IsDistinct, list_any}
use Rattle.std.proofs.lemmas.Bool.{cases_eq}
use Rattle.std.proofs.lemmas.Bool.Decides.{eqb_tells}
use Rattle.std.proofs.lemmas.Map.Steps.{length-le_from_distinct_below}

pub walk_more : (slots : List Slot) (n head : ℕ) → 0 < n →
    walk slots head n ≡ head ∷ walk slots (slot_at slots head).next (n - 1)
walk_more slots zero head h = absurd (omega arith)
walk_more slots (suc n) head h = ap (λ k. head ∷ walk slots (slot_at slots head).next k) (omega arith)

-- after a write, another slot is as it was
pub other_slot : (slots : List Slot) (i m : ℕ) (s : Slot) → m ≢ i → slot_at (set slots i s) m ≡ slot_at slots m
other_slot slots i m s h = get_or-set_other slots i m s no_slot h

-- a free list without its first slot
pub free_tail : (slots : List Slot) (head n : ℕ) (s : Slot) →
    AreFree slots (head ∷ walk slots (slot_at slots head).next n)
    → AreFree (set slots head s) (walk (set slots head s) (slot_at slots head).next n)
free_tail slots head n s free =
    let next = (slot_at slots head).next in
    let same : (m : ℕ) → IsAmong m (walk slots next n) → slot_at (set slots head s) m ≡ slot_at slots m =
    λ m a. other_slot slots head m s (λ e. free.distinct.0 (subst (λ k. IsAmong k (walk slots next n)) e a)) in
    let e = walk_same slots (set slots head s) n next same in
    rw e (record {
      inside = λ m a. omega (arith, free.inside m (inr a), length-set slots head s);
      unused = λ m a. ap (λ t. t.in_use) (same m a) ∙ free.unused m (inr a);
      distinct = free.distinct.1;
    })

-- a free list with one more slot, which was in use
pub free_cons : (slots : List Slot) (free n i : ℕ) (s : Slot) → AreFree slots (walk slots free n) →
    (slot_at slots i).in_use ≡ true → s.in_use ≡ false → s.next ≡ free
    → AreFree (set slots i s) (walk (set slots i s) i (n + 1))
free_cons slots free n i s list used unused next =
    let inside : i < length slots = inside_if_used slots i used in
    let here : slot_at (set slots i s) i ≡ s = get_or-set_same slots i s no_slot inside in
    let apart : (m : ℕ) → IsAmong m (walk slots free n) → m ≢ i =
    λ m a e. differ used (subst (λ k. (slot_at slots k).in_use ≡ false) e (list.unused m a)) in
    let same : (m : ℕ) → IsAmong m (walk slots free n) → slot_at (set slots i s) m ≡ slot_at slots m =
    λ m a. other_slot slots i m s (apart m a) in
    let after : (slot_at (set slots i s) i).next ≡ free = ap (λ t. t.next) here ∙ next in
    let e : walk (set slots i s) i (n + 1) ≡ i ∷ walk slots free n =
    walk_more (set slots i s) (n + 1) i (omega arith)
    ∙ ap (λ xs. i ∷ xs) (ap (λ k. walk (set slots i s) k ((n + 1) - 1)) after ∙
    ap (walk (set slots i s) free) (omega arith) ∙ walk_same slots (set slots i s) n free same) in
    rw e (record {
      inside = λ m a. elim a [
        | inl first ↦ omega (arith, first, length-set slots i s)
        | inr rest ↦ omega (arith, list.inside m rest, length-set slots i s)
      ];
      unused = λ m a. elim a [
        | inl first ↦ ap (λ k. (slot_at (set slots i s) k).in_use) first ∙ ap (λ t. t.in_use) here ∙ unused
        | inr rest ↦ ap (λ t. t.in_use) (same m rest) ∙ list.unused m rest
      ];
      distinct = (λ a. apart i a refl, list.distinct);
    })

-- ---- lists of different cells are no longer than the pool

apart_from : (x : ℕ) (xs : List ℕ) → (IsAmong x xs → ⊥) → AllByRecursion (λ y. eqb x y ≡ false) xs
apart_from x [] h = tt
apart_from x (y ∷ ys) h =
    (elim (eqb_tells x y) [ inl p ↦ absurd (h (inl p.1)) | inr p ↦ p.0 ], apart_from x ys (λ a. h (inr a)))

distinct_is : (xs : List ℕ) → AreDistinct xs → IsDistinct eqb xs
unfolding IsDistinct
distinct_is [] h = tt
distinct_is (x ∷ xs) h = (apart_from x xs h.0, distinct_is xs h.1)

among_if_any : (q : ℕ) (xs : List ℕ) → list_any (eqb q) xs ≡ true → IsAmong q xs
among_if_any q [] h = absurd (differ h refl)
among_if_any q (x ∷ xs) h =
    elim (eqb_tells q x) [
      | inl p ↦ inl p.1
      | inr p ↦ inr (among_if_any q xs (rw p.0 at h))
    ]

pub length_if_free : (slots : List Slot) (own : List ℕ) → AreFree slots own → length own ≤ length slots
length_if_free slots own free = length-le_from_distinct_below own (length slots) (distinct_is own free.distinct)
    (λ q h. free.inside q (among_if_any q own h))

pub length_if_used : (slots : List Slot) (own : List ℕ) → AreUsed slots own → length own ≤ length slots
length_if_used slots own used = length-le_from_distinct_below own (length slots) (distinct_is own used.distinct)
    (λ q h. inside_if_used slots q (used.used q (among_if_any q own h)))

-- ---- a list in use and the free list have room beside each other

among_both : (n : ℕ) (xs ys : List ℕ) → IsAmong n (xs ++ ys) → IsAmong n xs ⊎ IsAmong n ys
among_both n [] ys a = inr a
among_both n (x ∷ xs) ys a = elim a [
  | inl e ↦ inl (inl e)
  | inr b ↦ elim (among_both n xs ys b) [ inl c ↦ inl (inr c) | inr c ↦ inr c ]
]

distinct_both : (xs ys : List ℕ) → AreDistinct xs → AreDistinct ys → ((n : ℕ) → IsAmong n xs → IsAmong n ys → ⊥) →
    AreDistinct (xs ++ ys)
distinct_both [] ys a b apart = b
distinct_both (x ∷ xs) ys a b apart = (
  λ h. elim (among_both x xs ys h) [ inl c ↦ a.0 c | inr c ↦ apart x (inl refl) c ],
  distinct_both xs ys a.1 b (λ n c d. apart n (inr c) d),
)

pub both_fit : (slots : List Slot) (own free : List ℕ) → AreUsed slots own → AreFree slots free →
    length own + length free ≤ length slots
both_fit slots own free used unused =
    let distinct = distinct_both own free used.distinct unused.distinct
    (λ n a b. differ (used.used n a) (unused.unused n b)) in
    let most = length-le_from_distinct_below (own ++ free) (length slots) (distinct_is (own ++ free) distinct)
    (λ q h. elim (among_both q own free (among_if_any q (own ++ free) h)) [
      | inl a ↦
          inside_if_used slots q (used.used q a)
      | inr b ↦ unused.inside q b
    ]) in
    let len = length-append own free in
    omega (arith, most, len)

-- a list of so many cells in use, beside so many that are spare
pub lists_fit : (slots : List Slot) (head count free spare : ℕ) → AreUsed slots (walk slots head count) →
    AreFree slots (walk slots free spare) → count + spare ≤ length slots
lists_fit slots head count free spare used unused =
    let most = both_fit slots (walk slots head count) (walk slots free spare) used unused in
    omega (arith, most, length-walk slots count head, length-walk slots spare free)

-- ---- storing

bool_is : (b : Bool) → (b ≡ true) ⊎ (b ≡ false)
bool_is true = inl refl
bool_is false = inr refl

pub stored_none : (slots : List Slot) → Stored slots slots [] []
stored_none slots = record {
  used = record { used = λ n a. absurd a; distinct = tt };
  holds = refl;
  fresh = λ n a. absurd a;
  kept = λ n h. refl;
}

-- one more breakpoint, in a cell that was not in use
pub stored_more : (slots now : List Slot) (head count number : ℕ) (knots : List Knot) (knot : Knot) →
    Stored slots now (walk now head count) knots
    → number < length now → (slot_at now number).in_use ≡ false
    → (s : Slot) → s.in_use ≡ true → s.next ≡ head → s.knot ≡ knot
    → Stored slots (set now number s) (walk (set now number s) number (count + 1)) (knot ∷ knots)
stored_more slots now head count number knots knot old inside unused s is_used is_next is_knot =
    let own = walk now head count in
    let here : slot_at (set now number s) number ≡ s = get_or-set_same now number s no_slot inside in
    let apart : (m : ℕ) → IsAmong m own → m ≢ number =
    λ m a e. differ (subst (λ k. (slot_at now k).in_use ≡ true) e (old.used.used m a)) unused in
    let same : (m : ℕ) → IsAmong m own → slot_at (set now number s) m ≡ slot_at now m =
    λ m a. other_slot now number m s (apart m a) in
    let after : (slot_at (set now number s) number).next ≡ head = ap (λ t. t.next) here ∙ is_next in
    let e : walk (set now number s) number (count + 1) ≡ number ∷ own =
    walk_more (set now number s) (count + 1) number (omega arith)
    ∙ ap (λ xs. number ∷ xs) (ap (λ k. walk (set now number s) k ((count + 1) - 1)) after ∙
    ap (walk (set now number s) head) (omega arith) ∙ walk_same now (set now number s) count head same) in
    rw e (record {
      used = record {
        used = λ m a. elim a [
          | inl first ↦ ap (λ k. (slot_at (set now number s) k).in_use) first ∙ ap (λ t. t.in_use) here ∙ is_used
          | inr rest ↦ ap (λ t. t.in_use) (same m rest) ∙ old.used.used m rest
        ];
        distinct = (λ a. apart number a refl, old.used.distinct);
      };
      holds =
          let first : (slot_at (set now number s) number).knot ≡ knot = ap (λ t. t.knot) here ∙ is_knot in
          let rest : knots_at (set now number s) own ≡ knots = knots_same now (set now number s) own same ∙ old.holds in
          cc;
      fresh = λ m a. elim a [
        | inl first ↦ elim (bool_is (slot_at slots m).in_use) [
          | inr free ↦ free
          | inl used ↦ absurd
              (differ (ap (λ t. t.in_use) (old.kept m used) ∙ used) (ap (λ k. (slot_at now k).in_use) first ∙ unused))
        ]
        | inr rest ↦ old.fresh m rest
      ];
      kept = λ m used.
          let was = old.kept m used in
          let ne : m ≢ number = λ e. differ (ap (λ t. t.in_use) was ∙ used)
          (ap (λ k. (slot_at now k).in_use) e ∙ unused) in
          other_slot now number m s ne ∙ was;
    })

-- ---- giving back

-- of the slots of a list, those from one on are still to be given back
pub record Releasing (slots now : List Slot) (own rest : List ℕ) : Type 0 where
  pub used : AreUsed now rest
  pub within : (n : ℕ) → IsAmong n rest → IsAmong n own
  pub done : (n : ℕ) → IsAmong n own → IsAmong n rest ⊎ ((slot_at now n).in_use ≡ false)
  pub kept : (n : ℕ) → (slot_at slots n).in_use ≡ true → (IsAmong n own → ⊥) → slot_at now n ≡ slot_at slots n
  pub free : (n : ℕ) → (slot_at slots n).in_use ≡ false → (slot_at now n).in_use ≡ false

pub releasing_none : (slots : List Slot) (own : List ℕ) → AreUsed slots own → Releasing slots slots own own
releasing_none slots own used =
    record { used = used; within = λ n a. a; done = λ n a. inl a; kept = λ n h k. refl; free = λ n h. h }

pub releasing_all : (slots now : List Slot) (own : List ℕ) → Releasing slots now own [] → Released slots now own
releasing_all slots now own r = record {
  unused = λ n a. elim (r.done n a) [ inl none ↦ absurd none | inr free ↦ free ];
  kept = r.kept;
  free = r.free;
}

pub releasing_more : (slots now : List Slot) (own : List ℕ) (at count : ℕ) →
    Releasing slots now own (at ∷ walk now (slot_at now at).next count) → (s : Slot) → s.in_use ≡ false
    → Releasing slots (set now at s) own (walk (set now at s) (slot_at now at).next count)
releasing_more slots now own at count r s unused =
    let next = (slot_at now at).next in
    let rest = walk now next count in
    let inside : at < length now = inside_if_used now at (r.used.used at (inl refl)) in
    let here : slot_at (set now at s) at ≡ s = get_or-set_same now at s no_slot inside in
    let apart : (m : ℕ) → IsAmong m rest → m ≢ at = λ m a e. r.used.distinct.0 (subst (λ k. IsAmong k rest) e a) in
    let same : (m : ℕ) → IsAmong m rest → slot_at (set now at s) m ≡ slot_at now m =
    λ m a. other_slot now at m s (apart m a) in
    let e : walk (set now at s) next count ≡ rest = walk_same now (set now at s) count next same in
    rw e (record {
      used = record {
        used = λ m a. ap (λ t. t.in_use) (same m a) ∙ r.used.used m (inr a);
        distinct =
            r.used.distinct.1;
      };
      within = λ m a. r.within m (inr a);
      done = λ m a. elim (cases_eq m at) [
        | inl is ↦ inr (ap (λ k. (slot_at (set now at s) k).in_use) is ∙ ap (λ t. t.in_use) here ∙ unused)
        | inr ne ↦ elim (r.done m a) [
          | inl among ↦ elim among [ inl is ↦ absurd (ne is) | inr in_rest ↦ inl in_rest ]
          | inr free ↦ inr (ap (λ t. t.in_use) (other_slot now at m s ne) ∙ free)
        ]
      ];
      kept = λ m used out.
          let ne : m ≢ at = λ is. out (subst (λ k. IsAmong k own) (sym is) (r.within at (inl refl))) in
          other_slot now at m s ne ∙ r.kept m used out;
      free = λ m was. elim (cases_eq m at) [
        | inl is ↦ ap (λ k. (slot_at (set now at s) k).in_use) is ∙ ap (λ t. t.in_use) here ∙ unused
        | inr ne ↦ ap (λ t. t.in_use) (other_slot now at m s ne) ∙ r.free m was
      ];
    })

-- ---- a list that is given back, and one that is stored in its place

pub changes_stored : (slots slots' : List Slot) (own : List ℕ) (knots : List Knot) → Stored slots slots' own knots →
    Changes slots slots' [] own
changes_stored slots slots' own knots s =
    record { kept = λ n used out. s.kept n used; gains = λ n a out used. differ used (s.fresh n a) }

pub changes_released : (slots slots' : List Slot) (own : List ℕ) → Released slots slots' own →
    Changes slots slots' own []
changes_released slots slots' own r = record { kept = r.kept; gains = λ n a out used. absurd a }

pub replaced_by : (slots mid slots' : List Slot) (own own' : List ℕ) (knots : List Knot) → Released slots mid own →
    Stored mid slots' own' knots → Replaced slots slots' own own' knots
replaced_by slots mid slots' own own' knots r s = record {
  changes = record {
    kept = λ n used out. let m = r.kept n used out in s.kept n (ap (λ t. t.in_use) m ∙ used) ∙ m;
    gains = λ n a out used. differ (ap (λ t. t.in_use) (r.kept n used out) ∙ used) (s.fresh n a);
  };
  used = s.used;
  holds = s.holds;
}
