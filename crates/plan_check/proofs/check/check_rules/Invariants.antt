use Rattle.plan_check.proofs.Common.{◌≡◌, [], length, take, flat_map, thermal_of, schedule_of, rule_refusals}
use Rattle.plan_check.proofs.check.check_rules.Given as goal

abbrev pub invariant-loop-rule : goal.invariant-loop-rule
invariant-loop-rule l =
    flat_map (rule_refusals (length (schedule_of l.response).on) l.number (thermal_of l.unit) (schedule_of l.response))
    (take l.rule-index l.rules) ≡ []
