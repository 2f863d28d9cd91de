-- What is read off a list of cells, cell by cell.
use Rattle.point_pool.proofs.Common.{◌≡◌, ℕ, zero, suc, ◌+◌, ◌-◌, ◌<◌, true, List, [], ◌∷◌, length, refl, sym, ap, ◌∙◌}
use Rattle.point_pool.proofs.Common.{subst, inl, inr, arith, ℤ, ◌≤ℤ◌, ◌<ℤ◌, Option, MatchOption, int_min, int_max, ints}
use Rattle.point_pool.proofs.Common.{length-map, IsAmong, value_of, HasNone, IsLeast, IsLeastIn, Knot, knot, height}
use Rattle.point_pool.proofs.Common.{IsRun, TurnIsLeast, NearestIsLeast, function_of, IsBreakList, Slot, inside_if_used}
use Rattle.point_pool.proofs.Common.{length-walk, slot_at, walk, knots_at, AreUsed}
use Rattle.ramp_step.specs.Window.{IsTurn}
use Rattle.point_pool.specs.Turn.{IsAtTurn}

-- ---- the cell at an index

abbrev pub number_at : List Slot → ℕ → ℕ → ℕ
number_at slots head zero = head
number_at slots head (suc k) = number_at slots (slot_at slots head).next k

pub number_first : (slots : List Slot) (head : ℕ) → number_at slots head 0 ≡ head
number_first slots head = refl

pub number_next : (slots : List Slot) (head k : ℕ) →
    number_at slots head (suc k) ≡ (slot_at slots (number_at slots head k)).next
number_next slots head zero = refl
number_next slots head (suc k) = number_next slots (slot_at slots head).next k

among_at : (slots : List Slot) (head n k : ℕ) → k < n → IsAmong (number_at slots head k) (walk slots head n)
among_at slots head zero k h = absurd (omega arith)
among_at slots head (suc n) zero h = inl refl
among_at slots head (suc n) (suc k) h = inr (among_at slots (slot_at slots head).next n k (omega arith))

knot_at : (slots : List Slot) (head n k : ℕ) → k < n →
    knot (knots_at slots (walk slots head n)) k ≡ (slot_at slots (number_at slots head k)).knot
knot_at slots head zero k h = absurd (omega arith)
knot_at slots head (suc n) zero h = refl
knot_at slots head (suc n) (suc k) h = knot_at slots (slot_at slots head).next n k (omega arith)

-- the number is that of the cell at an index of the list
pub record IsCellAt (slots : List Slot) (head n k number : ℕ) : Type 0 where
  pub is : number ≡ number_at slots head k
  pub inside : number < length slots
  pub knot : knot (knots_at slots (walk slots head n)) k ≡ (slot_at slots number).knot

IsCellAt-number : (slots : List Slot) (head n k number : ℕ) → AreUsed slots (walk slots head n) → k < n →
    number ≡ number_at slots head k → IsCellAt slots head n k number
IsCellAt-number slots head n k number used h is = record {
  is = is;
  inside = inside_if_used slots number
      (subst (λ m. (slot_at slots m).in_use ≡ true) (sym is)
      (used.used (number_at slots head k) (among_at slots head n k h)));
  knot = knot_at slots head n k h ∙ ap (λ m. (slot_at slots m).knot) (sym is);
}

pub IsCellAt-first : (slots : List Slot) (head n : ℕ) → AreUsed slots (walk slots head n) → 0 < n →
    IsCellAt slots head n 0 head
IsCellAt-first slots head n used some = IsCellAt-number slots head n 0 head used some (sym (number_first slots head))

pub IsCellAt-next : (slots : List Slot) (head n k k' number : ℕ) → AreUsed slots (walk slots head n) →
    IsCellAt slots head n k number → k' ≡ suc k → k' < n → IsCellAt slots head n k' (slot_at slots number).next
IsCellAt-next slots head n k k' number used cell e h =
    IsCellAt-number slots head n k' _ used h
    (ap (λ m. (slot_at slots m).next) cell.is ∙ sym (number_next slots head k) ∙ ap (number_at slots head) (sym e))

pub length-knots : (slots : List Slot) (head n : ℕ) → length (knots_at slots (walk slots head n)) ≡ n
length-knots slots head n = length-map (walk slots head n) (λ m. (slot_at slots m).knot) ∙ length-walk slots n head

-- ---- cells that were read

-- the cell after one that was read
pub next_read : (slots : List Slot) (head n done at : ℕ) (slot : Slot) → AreUsed slots (walk slots head n) →
    IsCellAt slots head n (done - 1) at
    → 0 < done → done < n → slot ≡ slot_at slots at → IsCellAt slots head n done slot.next
next_read slots head n done at slot used cell some inside read =
    subst (λ m. IsCellAt slots head n done m) (sym (ap (λ (s : Slot). s.next) read))
    (IsCellAt-next slots head n (done - 1) done at used cell (omega arith) inside)

-- two breakpoints are neighbours in the list
pub record AreNeighbours (ks : List Knot) (n k : ℕ) (p q : Knot) : Type 0 where
  pub bound : k + 1 < n
  pub first : p ≡ knot ks k
  pub second : q ≡ knot ks (k + 1)

-- as are those of a cell and of the one after it
pub neighbours_read : (slots : List Slot) (head n done at : ℕ) (slot next : Slot) → AreUsed slots (walk slots head n) →
    IsCellAt slots head n (done - 1) at
    → 0 < done → done < n → slot ≡ slot_at slots at → next ≡ slot_at slots slot.next
    → AreNeighbours (knots_at slots (walk slots head n)) n (done - 1) slot.knot next.knot
neighbours_read slots head n done at slot next used cell some inside read read-next =
    let more = next_read slots head n done at slot used cell some inside read in
    record {
      bound = omega arith;
      first = ap (λ (s : Slot). s.knot) read ∙ sym cell.knot;
      second = ap (λ (s : Slot). s.knot) read-next ∙ sym more.knot ∙
          ap (knot (knots_at slots (walk slots head n))) (omega arith);
    }

-- ---- two neighbours, and one breakpoint, as runs of the list

pub IsRun-pair : (ks : List Knot) (n k : ℕ) (p q : Knot) → length ks ≡ n → AreNeighbours ks n k p q →
    IsRun ks (length ks) k (p ∷ q ∷ []) 2
IsRun-pair ks n k p q len two = record { inside = let bound = two.bound in omega arith; some = omega arith; knots = at }
  where
    at : (j : ℕ) → j < 2 → knot (p ∷ q ∷ []) j ≡ knot ks (k + j)
    at zero h = two.first ∙ ap (knot ks) (omega arith)
    at (suc zero) h = two.second ∙ ap (knot ks) (omega arith)
    at (suc (suc j)) h = absurd (omega arith)

pub IsRun-last : (ks : List Knot) (n k : ℕ) (q : Knot) → length ks ≡ n → k + 1 ≡ n → q ≡ knot ks k →
    IsRun ks (length ks) k (q ∷ []) 1
IsRun-last ks n k q len end is = record { inside = omega arith; some = omega arith; knots = at }
  where
    at : (j : ℕ) → j < 1 → knot (q ∷ []) j ≡ knot ks (k + j)
    at zero h = is ∙ ap (knot ks) (omega arith)
    at (suc j) h = absurd (omega arith)

-- ---- the turn, cell by cell

pub IsAtTurn-here : (ks : List Knot) (n k : ℕ) (q : Knot) → k < n → (0 < k → height ks k <ℤ height ks (k - 1)) →
    (k + 1 < n → height ks k ≤ℤ height ks (k + 1)) → q ≡ knot ks k → IsAtTurn ks n q
IsAtTurn-here ks n k q inside falls rise there = record {
  turn = k;
  is = record {
    inside = inside;
    falls = λ i e. let f = falls (omega arith) in
        let same : height ks (k - 1) ≡ height ks i = ap (height ks) (omega arith) in omega (arith, ints);
    rises = rise;
  };
  there = there;
}

-- ---- the least value of a list

module _ (ks : List Knot) (n : ℕ) (len : length ks ≡ n) (b : IsBreakList ks) (q : Knot) (a : IsAtTurn ks n q) where
  turns : IsTurn ks (length ks) a.turn
  turns = subst (λ (m : ℕ). IsTurn ks m a.turn) (sym len) a.is

  pub IsLeast-turn : TurnIsLeast → IsLeast (function_of ks) q.value q.at
  IsLeast-turn law = subst (λ (p : Knot). IsLeast (function_of ks) p.value p.at) (sym a.there)
      (law ks (length ks) a.turn b turns)

  -- what the value at the nearest power to it from lo to hi says
  pub nearest : NearestIsLeast → (lo hi : ℤ) → lo ≤ℤ hi → (o : Option ℤ) →
      o ≡ value_of (function_of ks) (int_max lo (int_min hi q.at))
      → MatchOption o (HasNone lo hi (function_of ks))
      (λ v. IsLeastIn lo hi (function_of ks) v (int_max lo (int_min hi q.at)))
  nearest law lo hi order o h =
      let Says : Knot → Option ℤ → Type 0 = λ p o. MatchOption o (HasNone lo hi (function_of ks))
      (λ v. IsLeastIn lo hi (function_of ks) v (int_max lo (int_min hi p.at))) in
      subst (Says q) (sym h) (subst (λ (p : Knot). Says p (value_of (function_of ks) (int_max lo (int_min hi p.at))))
      (sym a.there) (law ks (length ks) a.turn lo hi b turns order))
