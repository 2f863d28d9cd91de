use Rattle.unit_table.proofs.Common.{rules, ◌≡◌, Some, FitsSigned, w64, OnTrue_at, OnTrue_from, to_z-of_z, state_of}
use Rattle.unit_table.proofs.Common.{live_at}
use Rattle.unit_table.proofs.Common.{IsUnder, Going}
use Rattle.unit_table.proofs.Lemmas.{live_from}
use Rattle.unit_table.proofs.running_spell.is_running_spell_of_period_cheaper.Goals as goal

pub is_spell_cheaper_at_power-requires-clause-bound : goal.is_spell_cheaper_at_power-requires-clause-bound
is_spell_cheaper_at_power-requires-clause-bound c = (c.requires.small c.args.first _
    (live_from c.args.spells.now c.args.first _ c.running_spell_of_first_period-spell.ensures
    c.if-not-spell.false)).cost

pub is_spell_cheaper_at_power-requires-clause-values : goal.is_spell_cheaper_at_power-requires-clause-values
is_spell_cheaper_at_power-requires-clause-values c = (c.requires.small c.args.first _
    (live_from c.args.spells.now c.args.first _ c.running_spell_of_first_period-spell.ensures
    c.if-not-spell.false)).values

pub returns : goal.returns
returns c =
    let x = c.running_spell_of_first_period-spell.result.now in
    let fits_power : FitsSigned w64 c.args.power = search rules in
    let fits_cost : FitsSigned w64 c.args.cost = search rules in
    OnTrue_from c.is_spell_cheaper_at_power.result
    ((r : Going) × (live_at c.args.spells.now c.args.first ≡ Some r) × IsUnder c.args.power c.args.cost r)
    (λ t.
    let under : IsUnder c.args.power c.args.cost (state_of x) = simp to_z-of_z at
    (OnTrue_at t c.is_spell_cheaper_at_power.ensures) in (
      state_of x,
      live_from c.args.spells.now c.args.first _ c.running_spell_of_first_period-spell.ensures c.if-not-spell.false,
      under,
    ))
