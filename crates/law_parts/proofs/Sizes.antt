-- Answered rows are far from the limits of their types.
use Rattle.law_parts.proofs.Common.{◌≡◌, ℕ, ℤ, List, [], ◌∷◌, map, length, sym, subst, arith}
use Rattle.law_parts.proofs.Common.{length-map-range_with_len, get_or-map-range_with_len, All, AllZip, range_with_len}
use Rattle.law_parts.proofs.Common.{AnyUnit, PriceLists, Schedule, units, IsUnit, IsTotal, Fits, total_power}
use Rattle.law_parts.proofs.Common.{total_reserve, All-head, All-tail, AnsweredRowsAreWithin}
use Rattle.uc_model.specs.BoundLaws.{GivesWithin, UnitsAreWithin, OutputsAreWithin, PowerAndReserveTotalsAreWithin}
use Rattle.uc_model.specs.BoundLaws.{DualValuesAreWithin}

answers_give : OutputsAreWithin → (π : PriceLists) (us : List AnyUnit) (ss : List Schedule) → All IsUnit us →
    AllZip (λ u s. Fits u π s) us ss → AllZip (λ u s. (k : ℕ) → GivesWithin u s k) us ss
answers_give law π [] [] h z = tt
answers_give law π [] (s ∷ ss) h z = absurd z
answers_give law π (u ∷ us) [] h z = absurd z
answers_give law π (u ∷ us) (s ∷ ss) h z = (
  law u s (length π.energy) (All-head IsUnit u us h) z.0.best.feasible,
  answers_give law π us ss (All-tail IsUnit u us h) z.1,
)

listed : (f : ℕ → ℤ) (n : ℕ) (xs : List ℤ) → ((k : ℕ) → IsTotal (f k)) → xs ≡ map f (range_with_len 0 n) →
    All IsTotal xs
listed f n xs h e =
    subst (All IsTotal) (sym e)
    (λ k d lt.
    let count = length-map-range_with_len f 0 n in
    subst IsTotal (sym (get_or-map-range_with_len f 0 n k k d (omega (arith, lt, count)) (omega arith))) (h k))

pub rows_within : UnitsAreWithin → OutputsAreWithin → PowerAndReserveTotalsAreWithin → DualValuesAreWithin →
    AnsweredRowsAreWithin
rows_within units_law outputs_law totals_law values_law m r market prices h =
    let give = answers_give outputs_law r.prices (units m) h.schedules (units_law m market) h.answers in
    record {
      row = record {
        horizon = h.horizon;
        supply = listed (total_power (units m) h.schedules) m.periods r.supply
            (λ k. (totals_law m h.schedules market give k).0) h.totals.supply;
        reserve = listed (total_reserve (units m) h.schedules) m.periods r.reserve
            (λ k. (totals_law m h.schedules market give k).1) h.totals.reserve;
      };
      value = values_law m r.prices r.value market prices h.horizon h.value;
    }
