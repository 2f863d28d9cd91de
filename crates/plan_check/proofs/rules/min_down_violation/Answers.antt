use Rattle.plan_check.proofs.Common.{◌+◌, sym, ap, ◌∙◌, thermal_of, schedule_of, run_broken}
use Rattle.plan_check.proofs.Lemmas.{min_down-ends, min_down-none}
use Rattle.plan_check.proofs.rules.min_down_violation.Goals as goal

pub returns-then-not-starts_at : goal.returns-then-not-starts_at
returns-then-not-starts_at c =
    let g = thermal_of c.args.unit.now in
    let s = schedule_of c.args.response.now in
    sym (min_down-none g s c.args.index (sym c.if-not-starts_at.ensures))

pub returns : goal.returns
returns c =
    let g = thermal_of c.args.unit.now in
    let s = schedule_of c.args.response.now in
    c.minimum_run_violation.ensures ∙ ap (λ o. run_broken o (c.args.index + 1) g.min_down)
    c.last_change_before_period.ensures ∙
    sym (min_down-ends g s c.args.index (sym c.if-not-starts_at.ensures))
