use Rattle.plan_check.proofs.Common.{length, err_from_is_err_and, thermal_of, schedule_of, MustRun, rule_refusals}
use Rattle.plan_check.proofs.Lemmas.{flat_map_on, flat_map_first}
use Rattle.plan_check.proofs.check.check_rules.Goals as goal

pub returns-in_err-check_rule : goal.returns-in_err-check_rule
returns-in_err-check_rule c =
    let f = rule_refusals (length c.args.response.now.on.items) c.args.number (thermal_of c.args.unit.now)
    (schedule_of c.args.response.now) in
    let first = flat_map_first f c.args.rules.now c.loop-rule.rule-index MustRun c.loop-rule-test.true
    c.loop-rule.invariant in
    let p = err_from_is_err_and c.from_residual.result c.from_residual.ensures.1 in
    rw (p.1, p.2) (first _ c.in_err-check_rule.ensures)

pub loop-rule-preserved : goal.loop-rule-preserved
loop-rule-preserved c =
    let f = rule_refusals (length c.args.response.now.on.items) c.args.number (thermal_of c.args.unit.now)
    (schedule_of c.args.response.now) in
    flat_map_on f c.args.rules.now c.loop-rule.rule-index MustRun c.loop-rule-test.true c.loop-rule.invariant
    c.in_ok-check_rule.ensures
