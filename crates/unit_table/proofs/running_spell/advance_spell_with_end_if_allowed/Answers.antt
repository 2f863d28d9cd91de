use Rattle.unit_table.proofs.Common.{shown}
use Rattle.unit_table.proofs.Common.{◌≡◌, suc, ◌+◌, ◌<◌, ◌≤◌, arith, unit_of, periods_in, on_time}
use Rattle.unit_table.proofs.Lemmas.{always}
use Rattle.unit_table.proofs.running_spell.advance_spell_with_end_if_allowed.Goals as goal

pub returns-then-may_end_spell-clause-may : goal.returns-then-may_end_spell-clause-may
returns-then-may_end_spell-clause-may c =
    let u = unit_of c.args.period.now.question.now in
    let next : c.args.period.now.index + 1 ≡ suc c.args.period.now.index = omega arith in
    always c.advance_spell_and_find_end_cost.result.end
    (suc c.args.period.now.index < periods_in c.args.period.now.question.now →
    u.min_up ≤ on_time u c.args.first (suc c.args.period.now.index))
    (λ low. rw next at (c.may_end_spell.ensures.yes c.if-may_end_spell.true (omega arith)))

pub returns-then-may_end_spell-clause-noted : goal.returns-then-may_end_spell-clause-noted
returns-then-may_end_spell-clause-noted c = λ x v there.
    (shown c.advance_spell_and_find_end_cost.new.running, c.advance_spell_and_find_end_cost.ensures.noted x v there)

pub returns-else-may_end_spell-clause-noted : goal.returns-else-may_end_spell-clause-noted
returns-else-may_end_spell-clause-noted c = λ x v there.
    (shown c.advance_spell_over_period-note.new.running, c.advance_spell_over_period-note.ensures.noted x v there)
