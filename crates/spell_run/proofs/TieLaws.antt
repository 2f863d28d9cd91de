-- A way on from the power before a spell is a best dispatch, and the first of those of its cost.
use Rattle.spell_run.proofs.Common
use Common.{◌≡◌, ℕ, zero, suc, ◌+◌, ◌-◌, ◌<◌, ◌≤◌, inl, inr, ℤ, pos, ◌+ℤ◌, ◌*ℤ◌, ◌≤ℤ◌, eqb, length, refl, sym, ap}
use Common.{◌∙◌, subst, arith, cases_lt, IsPoint, same_some, Table, ThermalUnit, PriceLists, Schedule}
use Common.{IsThermalUnit, ArePrices, power_in, reserve_in, int_at, sum_below, stops_at, HasBestReserve, IsWayFrom}
use Common.{IsDispatch, net_cost_at, net_cost, spell_cost, IsBestDispatch, IsFirstDispatch, cap_at, level, signed}
use Rattle.spell_run.specs.Laws.{IsBestReserve}
use Rattle.spell_run.proofs.ReserveLaws.{reserve_is_best}
use Rattle.spell_run.proofs.RunLaws.{level_before, level_within, move_same, reserve_not_negative}
use Rattle.spell_run.proofs.WayLaws.{move_of}

-- where sums of terms that are no greater are equal, so are the terms
same_terms : (n : ℕ) (f g : ℕ → ℤ) → ((i : ℕ) → i < n → f i ≤ℤ g i) → sum_below n f ≡ sum_below n g → (i : ℕ) → i < n →
    f i ≡ g i
same_terms zero f g le same i low = absurd (omega arith)
same_terms (suc n) f g le same i low =
    let rest = sums_le n f g (λ j h. le j (omega arith)) in
    let last = le n (omega arith) in
    let whole : sum_below n f +ℤ f n ≡ sum_below n g +ℤ g n = same in
    elim (cases_lt i n) [
      | inl less ↦ same_terms n f g (λ j h. le j (omega arith)) (omega signed) i less
      | inr most ↦ let z : n ≡ i = omega arith in let e : f n ≡ g n = omega signed in subst (λ j. f j ≡ g j) z e
    ]
  where
    sums_le : (n : ℕ) (f g : ℕ → ℤ) → ((i : ℕ) → i < n → f i ≤ℤ g i) → sum_below n f ≤ℤ sum_below n g
    sums_le zero f g le = omega signed
    sums_le (suc n) f g le = let a = sums_le n f g (λ j h. le j (omega arith)) in let b = le n (omega arith) in
        omega signed

module _ {g : ThermalUnit} {π : PriceLists} {first last : ℕ} (unit : IsThermalUnit g) (prices : ArePrices π)
    (end : last ≤ length π.energy) (d : Schedule) {other : Schedule}
    (dispatch : IsDispatch g (length π.energy) first last other)
    (best : (j : ℕ) → first ≤ suc j → j < last → HasBestReserve g π first last d j)
    (same : (j : ℕ) → first ≤ suc j → j < last → power_in other (suc j) ≡ power_in d (suc j)) where
  level_shared : (j : ℕ) → j < last → level g first other j ≡ level g first d j
  level_shared j low = elim (cases_lt j first) [
    | inl before ↦ level_before g first other j before ∙ sym (level_before g first d j before)
    | inr inside ↦ level_inside j low inside
  ]
    where
      level_inside : (j : ℕ) → j < last → first ≤ j → level g first other j ≡ level g first d j
      level_inside zero low inside = level_within g first other 0 inside ∙ sym (level_within g first d 0 inside)
      level_inside (suc i) low inside =
          let e = same i inside (omega arith) in
          let a = level_within g first other (suc i) inside in
          let b = level_within g first d (suc i) inside in
          omega signed

  abbrev cap_here : ℕ → ℤ
  cap_here j = cap_at g (eqb first (suc j)) (stops_at last (length π.energy) j)

  -- the reserve of d is the best at its powers, where the other one may be kept too
  best_law : (j : ℕ) → first ≤ suc j → j < last → IsBestReserve (int_at π.reserve j) (cap_here j) g.ramp_up
      (level g first d j) (power_in d (suc j)) (reserve_in other (suc j))
  best_law j from low =
      let n = move_same (level_shared j low) (same j from low) refl (move_of unit last from (omega arith) dispatch) in
      reserve_is_best (int_at π.reserve j) (cap_here j) g.ramp_up (level g first d j) (power_in d (suc j))
      (reserve_in other (suc j)) (prices.reserve j (pos 0) (omega arith)).at_least
      (record { least = reserve_not_negative other j; greatest = n.greatest; ramp = n.ramp_up })

  net_parts : (j : ℕ) → first ≤ suc j → j < last → net_cost g π other (suc j) ≡ net_cost_at g π j (power_in d (suc j))
      (reserve_in other (suc j))
  net_parts j from low = ap (λ p. net_cost_at g π j p (reserve_in other (suc j))) (same j from low)

  net_le : (t : ℕ) → first ≤ t → t ≤ last → net_cost g π d t ≤ℤ net_cost g π other t
  net_le zero from low = omega signed
  net_le (suc j) from low =
      let e = net_parts j from (omega arith) in
      let b = (best_law j from (omega arith)).best in
      let worth = ap (λ r. int_at π.reserve j *ℤ r) (best j from (omega arith)) in
      omega signed

  pub reserve_first : spell_cost g π first last other ≡ spell_cost g π first last d → (k : ℕ) → first ≤ suc k →
      k < last → reserve_in d (suc k) ≤ℤ reserve_in other (suc k)
  reserve_first cost k from low =
      let terms = same_terms (suc last - first) (λ i. net_cost g π d (first + i)) (λ i. net_cost g π other (first + i))
      (λ i h. net_le (first + i) (omega arith) (omega arith)) (sym cost) (suc k - first)
      (omega arith) in
      let at : first + (suc k - first) ≡ suc k = omega arith in
      let net : net_cost g π d (suc k) ≡ net_cost g π other (suc k) = subst
      (λ t. net_cost g π d t ≡ net_cost g π other t) at terms in
      let e = net_parts k from low in
      let is = best k from low in
      let worth = ap (λ r. int_at π.reserve k *ℤ r) is in
      let least = (best_law k from low).least (omega signed) in
      omega signed

-- ---- a whole spell

module _ {g : ThermalUnit} {π : PriceLists} {first b last : ℕ} {base : ℤ} {f : Table} {d : Schedule} {y c : ℤ}
    (unit : IsThermalUnit g) (prices : ArePrices π) (point : IsPoint base (pos 0) f)
    (none : (k : ℕ) → first ≤ suc k → suc k ≤ b → ⊥) (start : (k : ℕ) → first ≤ suc k →
    b ≤ k) (at : level g first d b ≡ base) (cost_none : spell_cost g π first b d ≡ pos 0)
    (end : last ≤ length π.energy) (way : IsWayFrom g π first b last f d y c) where
  whole : IsDispatch g (length π.energy) first last d × (spell_cost g π first last d ≡ c) × ((j : ℕ) → b ≤ j →
      j < last → HasBestReserve g π first last d j)
  whole =
      let e = point.only y way.before way.there in
      let z : way.before ≡ pos 0 = same_some (cc) point.there in
      let r = way.completes d (λ k from until. absurd (none k from until)) (at ∙ sym e)
      (record { power = λ j low high. refl; reserve = λ j low high. refl }) in
      (r.0, omega signed, r.2)

  pub of_way : IsBestDispatch g π (length π.energy) first last d c × IsFirstDispatch g π (length π.energy) first last d
      c
  of_way = (
    record { keeps = whole.0; cost = whole.1; least = way.least },
    record {
      power = λ other dispatch cost k from low same. way.first_after other dispatch cost k (start k from) low same;
      reserve = λ other dispatch cost same.
          reserve_first unit prices end d dispatch (λ j from low. whole.2 j (start j from) low) same
          (cost ∙ sym whole.1);
    },
  )
