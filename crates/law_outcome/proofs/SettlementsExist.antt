-- A settlement at any prices: of each unit the least of its best responses, and what follows from them.
use Rattle.law_outcome.proofs.Common.{◌≡◌, ℕ, ℤ, List, [], ◌∷◌, length, refl, sym, subst}
use Rattle.law_outcome.proofs.Common.{PriceLists, Market, Schedule, Settled, IsSettledAt}
use Rattle.std.proofs.Common.{◌-ℤ◌, map}
use Rattle.std.specs.List.{AllZip, range_with_len}
use Rattle.plain_lists.specs.Sums.{total, zip_with}
use Rattle.uc_model.specs.Data.{AnyUnit, units}
use Rattle.uc_model.specs.Earnings.{earnings, IsTop}
use Rattle.uc_model.specs.Runs.{Fits}
use Rattle.uc_model.specs.Schedules.{IsFeasible}
use Rattle.uc_model.specs.Systems.{total_power, total_reserve, worth_of_demand, surplus_value}
use Rattle.right_report.specs.Existence.{BestResponsesExist}
use Rattle.law_outcome.specs.Existence.{SettlementsExist}

module _ (π : PriceLists) where
  abbrev Fit : List AnyUnit → List Schedule → Type 0
  Fit us rs = AllZip (λ (u : AnyUnit) (r : Schedule). Fits u π r) us rs

  abbrev earned_by : List AnyUnit → List Schedule → List ℤ
  earned_by us ss = zip_with (λ (u : AnyUnit) (s : Schedule). earnings u π s) us ss

  answers : BestResponsesExist → (n : ℕ) → length π.energy ≡ n → (us : List AnyUnit) (ss : List Schedule) →
      AllZip (λ (u : AnyUnit) (s : Schedule). IsFeasible u n s) us ss → (rs : List Schedule) × Fit us rs
  answers best n long [] [] h = ([], tt)
  answers best n long [] (s ∷ ss) h = absurd h
  answers best n long (u ∷ us) [] h = absurd h
  answers best n long (u ∷ us) (s ∷ ss) h =
      let here = best u π s (subst (λ (i : ℕ). IsFeasible u i s) (sym long) h.0) in
      let rest = answers best n long us ss h.1 in
      (here.0 ∷ rest.0, (here.1, rest.1))

  tops : (us : List AnyUnit) (rs : List Schedule) → Fit us rs →
      AllZip (λ (u : AnyUnit) (e : ℤ). IsTop u π e) us (earned_by us rs)
  tops [] [] h = tt
  tops [] (r ∷ rs) h = absurd h
  tops (u ∷ us) [] h = absurd h
  tops (u ∷ us) (r ∷ rs) h = (record { schedule = r; best = h.0.best; earns = refl }, tops us rs h.1)

module _ (m : Market) (plan : List Schedule) (π : PriceLists) (responses : List Schedule) where
  settlement_of : Settled
  settlement_of =
      let earned = earned_by π (units m) responses in
      let scheduled = earned_by π (units m) plan in
      let payments = zip_with (λ (e s : ℤ). e -ℤ s) earned scheduled in
      record {
        row = record {
          prices = π;
          value = worth_of_demand m π -ℤ total earned;
          supply = map (total_power (units m) responses) (range_with_len 0 m.periods);
          reserve = map (total_reserve (units m) responses) (range_with_len 0 m.periods);
        };
        responses = responses;
        earned = earned;
        scheduled = scheduled;
        payments = payments;
        surplus = surplus_value m plan π;
        sum = total payments;
      }

  is_settlement : Fit π (units m) responses → IsSettledAt m plan π settlement_of
  unfolding settlement_of
  is_settlement fit =
      let best = tops π (units m) responses fit in
      record {
        prices = refl;
        value = record { tops = earned_by π (units m) responses; best = best; is = refl };
        answers = fit;
        totals = record { supply = refl; reserve = refl };
        earnings_are = refl;
        settled = record {
          tops = earned_by π (units m) responses;
          best = best;
          scheduled_is = refl;
          payments_are = refl;
          surplus_is = refl;
          sum_is = refl;
        };
      }

pub settlements_exist : BestResponsesExist → SettlementsExist
settlements_exist best m plan π feasible long =
    let found = answers π best m.periods long (units m) plan feasible.feasible in
    (settlement_of m plan π found.0, is_settlement m plan π found.0 found.1)
