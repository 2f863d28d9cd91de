use Rattle.unit_table.proofs.Common.{◌∙◌, arith, OnTrue_at, thermal_of, live_at}
use Rattle.unit_table.proofs.Lemmas.{live_from, on_from, early_goes, kept_none}
use Rattle.unit_table.proofs.running_spell.stop_spell_if_dominated.Goals as goal

pub running_spell_of_first_period-requires : goal.running_spell_of_first_period-requires
running_spell_of_first_period-requires c = (let late = rw c.in-Some.is at c.requires.late in omega arith)

pub is_dominated_by_later_spell-requires-clause-late : goal.is_dominated_by_later_spell-requires-clause-late
is_dominated_by_later_spell-requires-clause-late c =
    let late = rw c.in-Some.is at c.requires.late in
    let on = on_from c.args.spells.now c.in-Some.first _ c.running_spell_of_first_period.ensures late.2.0 late.2.1 in
    (c.requires.small c.in-Some.first _ (live_from c.args.spells.now c.in-Some.first _
    c.running_spell_of_first_period.ensures on)).cost

pub is_dominated_by_later_spell-requires-clause-early : goal.is_dominated_by_later_spell-requires-clause-early
is_dominated_by_later_spell-requires-clause-early c = (c.requires.small c.args.early _
    (live_from c.args.spells.now c.args.early _ c.running_spell_of_first_period-spell.ensures
    c.if-not-spell.false)).cost

pub returns-then-is_dominated_by_later_spell-clause-late : goal.returns-then-is_dominated_by_later_spell-clause-late
returns-then-is_dominated_by_later_spell-clause-late c =
    let late = rw c.in-Some.is at c.requires.late in (
      omega arith,
      late.1,
      (late.2.0, c.stop_running_spell_at.ensures.others c.in-Some.first (λ z. omega arith) ∙ late.2.1),
    )

pub returns-then-is_dominated_by_later_spell-clause-stands : goal.returns-then-is_dominated_by_later_spell-clause-stands
returns-then-is_dominated_by_later_spell-clause-stands c = λ π limits ends n now.
    let late = rw c.in-Some.is at c.requires.late in
    let on = on_from c.args.spells.now c.in-Some.first _ c.running_spell_of_first_period.ensures late.2.0 late.2.1 in
    early_goes (thermal_of c.args.unit.now) π limits ends c.args.period (live_at c.args.spells.now) _ n
    c.args.early c.in-Some.first _ _ now
    (live_from c.args.spells.now c.args.early _ c.running_spell_of_first_period-spell.ensures c.if-not-spell.false)
    (live_from c.args.spells.now c.in-Some.first _ c.running_spell_of_first_period.ensures on)
    late.0 late.1 (OnTrue_at c.if-is_dominated_by_later_spell.true c.is_dominated_by_later_spell.ensures.long)
    (OnTrue_at c.if-is_dominated_by_later_spell.true c.is_dominated_by_later_spell.ensures.below)
    c.stop_running_spell_at.ensures.off c.stop_running_spell_at.ensures.others

pub returns-else-is_dominated_by_later_spell-clause-late : goal.returns-else-is_dominated_by_later_spell-clause-late
returns-else-is_dominated_by_later_spell-clause-late c = (
  omega arith,
  c.requires.early,
  (_, live_from c.args.spells.now c.args.early _ c.running_spell_of_first_period-spell.ensures c.if-not-spell.false),
)

pub returns-in_default-clause-late : goal.returns-in_default-clause-late
returns-in_default-clause-late c = (
  omega arith,
  c.requires.early,
  (_, live_from c.args.spells.now c.args.early _ c.running_spell_of_first_period-spell.ensures c.if-not-spell.false),
)

pub returns-then-not-spell-clause-kept : goal.returns-then-not-spell-clause-kept
returns-then-not-spell-clause-kept c = kept_none c.args.spells.now

pub returns-else-is_dominated_by_later_spell-clause-kept : goal.returns-else-is_dominated_by_later_spell-clause-kept
returns-else-is_dominated_by_later_spell-clause-kept c = kept_none c.args.spells.now

pub returns-in_default-clause-kept : goal.returns-in_default-clause-kept
returns-in_default-clause-kept c = kept_none c.args.spells.now
