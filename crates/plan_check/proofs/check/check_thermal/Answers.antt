use Rattle.plan_check.proofs.Common.{length, sym, subst, thermal_of, schedule_of}
use Rattle.plan_check.specs.Checks.{Finds}
use Rattle.plan_check.proofs.Lemmas.{thermal_rules}
use Rattle.plan_check.proofs.check.check_thermal.Goals as goal

pub returns : goal.returns
returns c =
    subst (λ list. Finds list c.check_rules.result)
    (sym (thermal_rules (length c.args.response.now.on.items) c.args.number (thermal_of c.args.unit.now)
    (schedule_of c.args.response.now))) c.check_rules.ensures
