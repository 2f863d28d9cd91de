use Rattle.convex_search.proofs.Common.{arith, rules, subst, sym, ◌∙◌, FitsSigned, to_z-of_z}
use Rattle.convex_search.proofs.Common.{IsSum, market_of, prices_of}
use Rattle.convex_search.proofs.Earning.{all_earned, earned_count, few_earned}
use Rattle.std.specs.Int.{w128}
use Rattle.uc_model.specs.Limits.{IsWorth}
use Rattle.convex_search.proofs.search.value_at.Goals as goal

pub earned_sum-requires-clause-count : goal.earned_sum-requires-clause-count
earned_sum-requires-clause-count c =
    few_earned c.unit_numbers_go_by_kind.ensures (market_of c.args.case.now) (prices_of c.args.prices.now)
    c.args.earned.now
    c.args.case.now.valid c.requires.tops

pub earned_sum-requires-clause-bound : goal.earned_sum-requires-clause-bound
earned_sum-requires-clause-bound c =
    all_earned c.earnings_are_within.ensures (market_of c.args.case.now) (prices_of c.args.prices.now) c.args.earned.now
    c.args.prices.now.valid (c.units_are_within.ensures (market_of c.args.case.now) c.args.case.now.valid)
    c.requires.tops

pub dual_value-requires-clause-earned : goal.dual_value-requires-clause-earned
dual_value-requires-clause-earned c =
    let m = market_of c.args.case.now in
    let π = prices_of c.args.prices.now in
    let fits : FitsSigned w128 c.earned_sum.result = search rules in
    let count = earned_count m π c.args.earned.now c.requires.tops in
    let sum = c.earned_sums_are_within.ensures m c.args.earned.now c.args.case.now.valid (omega (arith, count))
    (all_earned c.earnings_are_within.ensures m π c.args.earned.now c.args.prices.now.valid
    (c.units_are_within.ensures m c.args.case.now.valid) c.requires.tops) in
    subst IsSum (sym (to_z-of_z w128 c.earned_sum.result fits ∙ c.earned_sum.ensures)) sum

pub returns-clause-size : goal.returns-clause-size
returns-clause-size c =
    let m = market_of c.args.case.now in
    let π = prices_of c.args.prices.now in
    let fits : FitsSigned w128 c.earned_sum.result = search rules in
    let value_fits : FitsSigned w128 c.dual_value.result = search rules in
    let is = rw (to_z-of_z w128 c.earned_sum.result fits, c.earned_sum.ensures) at c.dual_value.ensures in
    subst IsWorth (sym (to_z-of_z w128 c.dual_value.result value_fits))
    (c.dual_values_are_within.ensures m π c.dual_value.result c.args.case.now.valid c.args.prices.now.valid
    c.requires.horizon (record { tops = c.args.earned.now; best = c.requires.tops; is = is }))
