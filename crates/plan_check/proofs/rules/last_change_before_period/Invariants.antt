use Rattle.plan_check.proofs.Common.{◌≡◌, ◌≤◌, thermal_of, schedule_of, changed_in, on_in}
use Rattle.plan_check.proofs.rules.last_change_before_period.Given as goal

abbrev pub invariant-back : goal.invariant-back
invariant-back l = record {
  within : l.since ≤ l.period;
  on : on_in (thermal_of l.unit) (schedule_of l.response) l.since ≡ l.on;
  since : changed_in (thermal_of l.unit) (schedule_of l.response) l.period ≡ changed_in (thermal_of l.unit)
      (schedule_of l.response) l.since;
}

abbrev pub decreases-back : goal.decreases-back
decreases-back l = l.since
