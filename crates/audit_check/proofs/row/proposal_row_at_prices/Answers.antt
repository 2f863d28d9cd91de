use Rattle.audit_check.proofs.Common.{sym, ap, ◌∙◌, refl, rules, FitsSigned, ◌-ℤ◌, to_z-of_z, w128, units, market_of}
use Rattle.audit_check.proofs.Common.{prices_of, total_power, total_reserve, worth_of_demand}
use Rattle.audit_check.proofs.Lemmas.{earned_sum, tops, as_long}
use Rattle.audit_check.proofs.row.proposal_row_at_prices.Goals as goal

pub dual_value-value-requires-clause-earned : goal.dual_value-value-requires-clause-earned
dual_value-value-requires-clause-earned g c =
    let f : FitsSigned w128 c.in_ok-sums.sums.earned = search rules in
    rw (to_z-of_z w128 c.in_ok-sums.sums.earned f)
    (earned_sum (market_of c.args.case.now) (prices_of c.args.prices) c.units_are_within.ensures
    c.earnings_are_within.ensures c.earned_sums_are_within.ensures
    c.args.case.now.valid c.args.prices.valid c.in_ok-sums.sums c.in_ok-sums.ensures.sums)

pub invariant_of-result : goal.invariant_of-result
invariant_of-result g c =
    let m = market_of c.args.case.now in
    let all = c.in_ok-sums.ensures.sums in
    record {
      supply_length = as_long m.periods (total_power (units m) all.schedules) c.in_ok-sums.sums.supply.items all.supply
          ∙ sym c.requires.horizon;
      reserve_length = as_long m.periods (total_reserve (units m) all.schedules) c.in_ok-sums.sums.reserve.items
          all.reserve ∙ sym c.requires.horizon;
    }

pub returns-clause-row : goal.returns-clause-row
returns-clause-row g c =
    let m = market_of c.args.case.now in
    let π = prices_of c.args.prices in
    let all = c.in_ok-sums.ensures.sums in
    let f : FitsSigned w128 c.in_ok-sums.sums.earned = search rules in
    let fits : FitsSigned w128 c.dual_value-value.result = search rules in
    let value = rw (to_z-of_z w128 c.in_ok-sums.sums.earned f) at c.dual_value-value.ensures in
    record {
      prices = refl;
      value = record {
        tops = _;
        best = tops m π (units m) all.schedules all.fit;
        is =
            rw (to_z-of_z w128 c.dual_value-value.result fits) (value ∙ ap (λ z. worth_of_demand m π -ℤ z) all.earned);
      };
      schedules = all.schedules;
      answers = all.fit;
      totals = record { supply = all.supply; reserve = all.reserve };
    }
