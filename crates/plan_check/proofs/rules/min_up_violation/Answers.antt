use Rattle.plan_check.proofs.Common.{◌+◌, sym, ap, ◌∙◌, thermal_of, schedule_of, run_broken}
use Rattle.plan_check.proofs.Lemmas.{min_up-ends, min_up-none}
use Rattle.plan_check.proofs.rules.min_up_violation.Goals as goal

pub returns-then-not-stops_at : goal.returns-then-not-stops_at
returns-then-not-stops_at c =
    let g = thermal_of c.args.unit.now in
    let s = schedule_of c.args.response.now in
    sym (min_up-none g s c.args.index (sym c.if-not-stops_at.ensures))

pub returns : goal.returns
returns c =
    let g = thermal_of c.args.unit.now in
    let s = schedule_of c.args.response.now in
    c.minimum_run_violation.ensures ∙ ap (λ o. run_broken o (c.args.index + 1) g.min_up)
    c.last_change_before_period.ensures ∙
    sym (min_up-ends g s c.args.index (sym c.if-not-stops_at.ensures))
