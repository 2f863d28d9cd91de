use Rattle.plan_check.proofs.Common.{sym, subst, thermal_of, schedule_of, IsStateIn}
use Rattle.plan_check.proofs.rules.state_in_period.Goals as goal

pub returns-then-period-eq0 : goal.returns-then-period-eq0
returns-then-period-eq0 c =
    subst (λ t. IsStateIn (thermal_of c.args.unit.now) (schedule_of c.args.response.now) t
    c.state_before_horizon.result)
    (sym c.if-period-eq0.true) (c.state_before_horizon.ensures (schedule_of c.args.response.now))
