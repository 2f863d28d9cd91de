use Rattle.price_space.proofs.Common.{rules, ℤ, ◌-ℤ◌, FitsSigned, sym, subst, to_z-of_z, w64, market_of, int_at}
use Rattle.price_space.proofs.Common.{priced_units_of, renewable_power_of, IsStartPrice}
use Rattle.price_space.proofs.Lemmas.{giving, rising_outputs, rising_count}
use Rattle.price_space.proofs.RuleLaws.{start_is, start_moved}
use Rattle.price_space.proofs.start.start_price_of_period.Goals as goal

pub full_load_price_covering_demand-requires-clause-powers : goal.full_load_price_covering_demand-requires-clause-powers
full_load_price_covering_demand-requires-clause-powers c =
    rising_outputs (market_of c.args.case.now) c.args.units.now c.args.case.now.valid c.requires.units

pub full_load_price_covering_demand-requires-clause-count : goal.full_load_price_covering_demand-requires-clause-count
full_load_price_covering_demand-requires-clause-count c =
    rising_count (market_of c.args.case.now) c.args.units.now c.args.case.now.valid c.requires.units

pub returns : goal.returns
returns c =
    let m = market_of c.args.case.now in
    let a : FitsSigned w64 c.residual_demand.result = search rules in
    let b : FitsSigned w64 c.full_load_price_covering_demand.result = search rules in
    let found = simp to_z-of_z at c.full_load_price_covering_demand.ensures in
    let start = subst (λ (z : ℤ). IsStartPrice c.args.units.now z c.full_load_price_covering_demand.result)
    c.residual_demand.ensures found in
    let own = start_moved (priced_units_of m) c.args.units.now
    (int_at m.demand c.args.k -ℤ renewable_power_of m c.args.k) c.full_load_price_covering_demand.result
    c.requires.units.permutation start in
    simp to_z-of_z (sym (start_is m c.args.k c.full_load_price_covering_demand.result (giving m c.args.case.now.valid)
    own))
