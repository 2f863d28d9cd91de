use Rattle.plan_settle.proofs.Common.{ℤ, List, length, map, refl, sym, ap, ◌∙◌, ◌-ℤ◌, subst, arith, rules, w128}
use Rattle.plan_settle.proofs.Common.{FitsSigned, to_z-of_z, length-map-range_with_len, All, AllZip, total, units}
use Rattle.plan_settle.proofs.Common.{IsTop, IsEarned, IsSum, market_of, prices_of, schedule_of, worth_of_demand}
use Rattle.plan_settle.proofs.Common.{total_power, total_reserve}
use Rattle.plan_settle.proofs.Answered.{AreAll, whole_answers}
use Rattle.plan_settle.proofs.Earned.{tops_of, all_earned, count_of}
use Rattle.price_space.proofs.EarnedSums.{few_units}
use Rattle.price_settle.proofs.Settlements.{shape_of, all_feasible}
use Rattle.plan_settle.proofs.settle.settle_plan_at_prices_into_buffers.Goals as goal
use Rattle.plan_settle.proofs.settle.settle_plan_at_prices_into_buffers.Goals.{After-answer_each_unit_at_prices}

-- the answers of all units
answered : (c : After-answer_each_unit_at_prices) → AreAll (market_of c.args.case.now) (prices_of c.args.prices)
    (map schedule_of c.answer_each_unit_at_prices.new.responses.items) c.answer_each_unit_at_prices.new.earned.items
answered c = whole_answers c.unit_numbers_go_by_kind.ensures (market_of c.args.case.now) (prices_of c.args.prices)
    (map schedule_of c.answer_each_unit_at_prices.new.responses.items) c.answer_each_unit_at_prices.new.earned.items
    c.answer_each_unit_at_prices.ensures.answers

-- what they earn is within the limits
within : (c : After-answer_each_unit_at_prices) → All IsEarned c.answer_each_unit_at_prices.new.earned.items
within c =
    let m = market_of c.args.case.now in
    let all = answered c in
    subst (λ (xs : List ℤ). All IsEarned xs) (sym all.earned)
    (all_earned c.earnings_are_within.ensures (prices_of c.args.prices) c.args.prices.valid (units m)
    (map schedule_of c.answer_each_unit_at_prices.new.responses.items)
    (c.units_are_within.ensures m c.args.case.now.valid) all.fit)

tops : (c : After-answer_each_unit_at_prices) → AllZip (λ u e. IsTop u (prices_of c.args.prices) e)
    (units (market_of c.args.case.now))
    c.answer_each_unit_at_prices.new.earned.items
tops c =
    let m = market_of c.args.case.now in
    let all = answered c in
    subst (λ (xs : List ℤ). AllZip (λ u e. IsTop u (prices_of c.args.prices) e) (units m) xs) (sym all.earned)
    (tops_of (prices_of c.args.prices) (units m) (map schedule_of c.answer_each_unit_at_prices.new.responses.items)
    all.fit)

pub write_totals_of_responses-requires-clause-shape : goal.write_totals_of_responses-requires-clause-shape
write_totals_of_responses-requires-clause-shape c =
    let m = market_of c.args.case.now in
    let rs = map schedule_of c.answer_each_unit_at_prices.new.responses.items in
    let all = whole_answers c.unit_numbers_go_by_kind.ensures m (prices_of c.args.prices) rs
    c.answer_each_unit_at_prices.new.earned.items
    c.answer_each_unit_at_prices.ensures.answers in
    shape_of c.feasible_plans_have_shape.ensures m rs
    (all_feasible (prices_of c.args.prices) m.periods (units m) rs c.requires.horizon all.fit)

pub earned_sum-requires-clause-count : goal.earned_sum-requires-clause-count
earned_sum-requires-clause-count c =
    let m = market_of c.args.case.now in
    let rs = map schedule_of c.answer_each_unit_at_prices.new.responses.items in
    let count = count_of c.unit_numbers_go_by_kind.ensures m (prices_of c.args.prices) rs
    c.answer_each_unit_at_prices.new.earned.items
    (answered (goal.at.earned_sum-requires-clause-count c).After-answer_each_unit_at_prices) in
    let few = few_units m c.args.case.now.valid in
    let lent = ap length c.as_slice.ensures in
    omega (arith, count, few, lent)

pub earned_sum-requires-clause-bound : goal.earned_sum-requires-clause-bound
earned_sum-requires-clause-bound c = subst (λ (xs : List ℤ). All IsEarned xs) (sym c.as_slice.ensures)
    (within (goal.at.earned_sum-requires-clause-bound c).After-answer_each_unit_at_prices)

pub dual_value-value-requires-clause-earned : goal.dual_value-value-requires-clause-earned
dual_value-value-requires-clause-earned c =
    let m = market_of c.args.case.now in
    let rs = map schedule_of c.answer_each_unit_at_prices.new.responses.items in
    let es = c.answer_each_unit_at_prices.new.earned.items in
    let at = (goal.at.dual_value-value-requires-clause-earned c).After-answer_each_unit_at_prices in
    let f : FitsSigned w128 c.earned_sum.result = search rules in
    let count = count_of c.unit_numbers_go_by_kind.ensures m (prices_of c.args.prices) rs es (answered at) in
    let whole = (c.unit_numbers_go_by_kind.ensures m).count in
    let sum = c.earned_sums_are_within.ensures m es c.args.case.now.valid (omega (arith, count, whole)) (within at) in
    subst IsSum (sym (to_z-of_z w128 c.earned_sum.result f ∙ c.earned_sum.ensures ∙ ap total c.as_slice.ensures)) sum

pub settle-requires-clause-best : goal.settle-requires-clause-best
settle-requires-clause-best c =
    subst (λ (xs : List ℤ). AllZip (λ u e. IsTop u (prices_of c.args.prices) e) (units (market_of c.args.case.now)) xs)
    (sym c.as_slice-2.ensures) (tops (goal.at.settle-requires-clause-best c).After-answer_each_unit_at_prices)

pub invariant_of-row : goal.invariant_of-row
invariant_of-row c =
    let m = market_of c.args.case.now in
    let rs = map schedule_of c.answer_each_unit_at_prices.new.responses.items in
    record {
      supply_length = ap length c.write_totals_of_responses.ensures.supply ∙
          length-map-range_with_len (total_power (units m) rs) 0 m.periods ∙ sym c.requires.horizon;
      reserve_length = ap length c.write_totals_of_responses.ensures.reserve ∙
          length-map-range_with_len (total_reserve (units m) rs) 0 m.periods ∙ sym c.requires.horizon;
    }

pub returns-clause-settled : goal.returns-clause-settled
returns-clause-settled c =
    let m = market_of c.args.case.now in
    let π = prices_of c.args.prices in
    let at = (goal.at.returns-clause-settled c).After-answer_each_unit_at_prices in
    let all = answered at in
    let f : FitsSigned w128 c.earned_sum.result = search rules in
    let fits : FitsSigned w128 c.dual_value-value.result = search rules in
    let value = rw (to_z-of_z w128 c.earned_sum.result f) at c.dual_value-value.ensures in
    record {
      prices = refl;
      value = record {
        tops = c.answer_each_unit_at_prices.new.earned.items;
        best = tops at;
        is = to_z-of_z w128 c.dual_value-value.result fits ∙ value ∙
            ap (λ z. worth_of_demand m π -ℤ z) (c.earned_sum.ensures ∙ ap total c.as_slice.ensures);
      };
      answers = all.fit;
      totals = record {
        supply = c.write_totals_of_responses.ensures.supply;
        reserve =
            c.write_totals_of_responses.ensures.reserve;
      };
      earnings_are = all.earned;
      settled = c.settle.ensures.settled;
    }
