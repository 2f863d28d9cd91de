-- Running totals: one more answer adds what it gives and earns to the totals of its proposal, since the missing answer
-- gives and earns nothing. So totals that run while answers come in are those of the row at its closing.
use Rattle.board_store.proofs.Common.{◌≡◌, ℕ, zero, suc, ◌+◌, ◌-◌, ◌<◌, ◌≤◌, ℤ, pos, ◌+ℤ◌, inl, inr, Some, List, []}
use Rattle.board_store.proofs.Common.{◌∷◌, length, map, refl, sym, ap, ◌∙◌, subst, arith, cases_lt, ints}
use Rattle.board_store.proofs.Common.{range_with_len, slice_get, AnyUnit, Thermal, Flat, Bid, Schedule, supply_in}
use Rattle.board_store.proofs.Common.{reserve_in, total, zip_with, total_power, total_reserve, slice_get_within}
use Rattle.board_store.proofs.Common.{Answer, no_answer, schedules_in, earned_in}
use Rattle.board_store.proofs.Fronts.{map_range_same}
use Rattle.board_store.specs.Totals.{TotalsRun}

no_supply : (u : AnyUnit) (k : ℕ) → supply_in u no_answer.schedule (suc k) ≡ pos 0
no_supply (Thermal g) k = refl
no_supply (Flat r) k = refl
no_supply (Bid b) k = refl

no_reserve : (k : ℕ) → reserve_in no_answer.schedule (suc k) ≡ pos 0
no_reserve k = refl

-- one place of a list over units changes from nothing to x
module _ (z : AnyUnit → Answer → ℤ) (f f2 : ℕ → Answer) (u : ℕ) (x : AnyUnit) (nothing : z x (f u) ≡ pos 0)
    (other : (v : ℕ) → (v ≡ u → ⊥) → f2 v ≡ f v) where
  unit_one : (us : List AnyUnit) (a n : ℕ) → length us ≡ n → a ≤ u → slice_get us (u - a) ≡ Some x →
      total (zip_with z us (map f2 (range_with_len a n))) ≡ total (zip_with z us (map f (range_with_len a n))) +ℤ z x
      (f2 u)
  unit_one [] a n h low is = (cc)
  unit_one (y ∷ us) a zero h low is = absurd (omega (arith, h))
  unit_one (y ∷ us) a (suc n) h low is =
      elim (cases_lt a u) [
        | inl above ↦
            let e : f2 a ≡ f a = other a (λ i. omega (arith, i, above)) in
            let t = ap (z y) e in
            let k : u - a ≡ suc (u - (a + 1)) = omega (arith, above) in
            let r = unit_one us (a + 1) n (omega (arith, h)) (omega (arith, above))
            (subst (λ (j : ℕ). slice_get (y ∷ us) j ≡ Some x) k is) in
            omega (arith, ints, t, r)
        | inr below ↦
            let same : a ≡ u = omega (arith, low, below) in
            let k : u - a ≡ 0 = omega (arith, same) in
            let first : Some y ≡ Some x = subst (λ (j : ℕ). slice_get (y ∷ us) j ≡ Some x) k is in
            let e : y ≡ x = cc first in
            let r : map f2 (range_with_len (a + 1) n) ≡ map f (range_with_len (a + 1) n) =
            map_range_same f2 f (a + 1) n (λ v l j. other v (λ i. omega (arith, i, l, same))) in
            let s = ap (λ (xs : List Answer). total (zip_with z us xs)) r in
            let here : z y (f2 a) ≡ z x (f2 u) = ap (λ (w : AnyUnit). z w (f2 a)) e ∙ ap (λ (j : ℕ). z x (f2 j)) same in
            let before : z y (f a) ≡ pos 0 = ap (λ (w : AnyUnit). z w (f a)) e ∙ ap (λ (j : ℕ). z x (f j)) same ∙
            nothing in
            omega (arith, ints, s, here, before)
      ]

zip_map : {X Y Z W : Type 0} (z : X → Z → W) (s : Y → Z) (xs : List X) (ys : List Y) →
    zip_with z xs (map s ys) ≡ zip_with (λ x y. z x (s y)) xs ys
zip_map z s [] ys = refl
zip_map z s (x ∷ xs) [] = refl
zip_map {X} {Y} {Z} {W} z s (x ∷ xs) (y ∷ ys) = ap (λ (ws : List W). z x (s y) ∷ ws) (zip_map z s xs ys)

module _ (us : List AnyUnit) (f f2 : ℕ → Answer) (u n : ℕ) (x : AnyUnit) (long : length us ≡ n)
    (is : slice_get us u ≡ Some x) (missing : f u ≡ no_answer) (other : (v : ℕ) → (v ≡ u → ⊥) → f2 v ≡ f v) where
  power_more : (k : ℕ) → total_power us (schedules_in (map f2 (range_with_len 0 n))) k ≡ total_power us
      (schedules_in (map f (range_with_len 0 n))) k +ℤ supply_in x (f2 u).schedule (suc k)
  power_more k =
      let z : AnyUnit → Schedule → ℤ = λ w s. supply_in w s (suc k) in
      ap total (zip_map z (λ (a : Answer). a.schedule) us (map f2 (range_with_len 0 n)))
      ∙ unit_one (λ w a. supply_in w a.schedule (suc k)) f f2 u x
      (ap (λ (a : Answer). supply_in x a.schedule (suc k)) missing ∙ no_supply x k) other us 0 n long (omega arith)
      (let e : u - 0 ≡ u = omega arith in subst (λ (j : ℕ). slice_get us j ≡ Some x) (sym e) is)
      ∙ ap (λ (t : ℤ). t +ℤ supply_in x (f2 u).schedule (suc k))
      (sym (ap total (zip_map z (λ (a : Answer). a.schedule) us (map f (range_with_len 0 n)))))

  reserve_more : (k : ℕ) → total_reserve us (schedules_in (map f2 (range_with_len 0 n))) k ≡ total_reserve us
      (schedules_in (map f (range_with_len 0 n))) k +ℤ reserve_in (f2 u).schedule (suc k)
  reserve_more k =
      let z : AnyUnit → Schedule → ℤ = λ w s. reserve_in s (suc k) in
      ap total (zip_map z (λ (a : Answer). a.schedule) us (map f2 (range_with_len 0 n)))
      ∙ unit_one (λ w a. reserve_in a.schedule (suc k)) f f2 u x
      (ap (λ (a : Answer). reserve_in a.schedule (suc k)) missing) other us 0 n long (omega arith)
      (let e : u - 0 ≡ u = omega arith in subst (λ (j : ℕ). slice_get us j ≡ Some x) (sym e) is)
      ∙ ap (λ (t : ℤ). t +ℤ reserve_in (f2 u).schedule (suc k))
      (sym (ap total (zip_map z (λ (a : Answer). a.schedule) us (map f (range_with_len 0 n)))))

earned_one : (f f2 : ℕ → Answer) (u : ℕ) → f u ≡ no_answer → ((v : ℕ) → (v ≡ u → ⊥) → f2 v ≡ f v) → (a n : ℕ) → a ≤ u →
    u < a + n →
    total (earned_in (map f2 (range_with_len a n))) ≡ total (earned_in (map f (range_with_len a n))) +ℤ (f2 u).earned
earned_one f f2 u missing other a zero low high = absurd (omega (arith, low, high))
earned_one f f2 u missing other a (suc n) low high =
    elim (cases_lt a u) [
      | inl above ↦
          let e = ap (λ (x : Answer). x.earned) (other a (λ i. omega (arith, i, above))) in
          let r = earned_one f f2 u missing other (a + 1) n (omega (arith, above)) (omega (arith, high)) in
          omega (arith, ints, e, r)
      | inr below ↦
          let same : a ≡ u = omega (arith, low, below) in
          let r : map f2 (range_with_len (a + 1) n) ≡ map f (range_with_len (a + 1) n) =
          map_range_same f2 f (a + 1) n (λ v l j. other v (λ i. omega (arith, i, l, same))) in
          let s = ap (λ (xs : List Answer). total (earned_in xs)) r in
          let here : (f2 a).earned ≡ (f2 u).earned = ap (λ (j : ℕ). (f2 j).earned) same in
          let before : (f a).earned ≡ pos 0 = ap (λ (j : ℕ). (f j).earned) same ∙
          ap (λ (y : Answer). y.earned) missing in
          omega (arith, ints, s, here, before)
    ]

pub totals_run : TotalsRun
totals_run us f f2 u n x long is missing other = record {
  power = power_more us f f2 u n x long is missing other;
  reserve = reserve_more us f f2 u n x long is missing other;
  earned = earned_one f f2 u missing other 0 n (omega arith)
      (let w = slice_get_within us u x is in omega (arith, w, long));
}
