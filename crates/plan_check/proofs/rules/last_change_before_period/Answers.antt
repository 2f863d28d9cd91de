use Rattle.plan_check.proofs.Common.{rules, ◌≡◌, sym, ◌∙◌, arith, thermal_of, schedule_of}
use Rattle.plan_check.proofs.Lemmas.{changed_here, changed_back}
use Rattle.plan_check.proofs.rules.last_change_before_period.Goals as goal

pub returns-then-on_in_period-on : goal.returns-then-on_in_period-on
returns-then-on_in_period-on c =
    let known = c.back.invariant in
    let differ : c.on_in_period.result ≡ c.on_in_period-on.result → ⊥ = search rules in
    sym (changed_here (thermal_of c.args.unit.now) (schedule_of c.args.response.now) c.back.since (search rules)
    (λ e. differ (c.on_in_period.ensures ∙ e ∙ known.on))) ∙ sym known.since

pub back-preserved : goal.back-preserved
back-preserved c =
    let known = c.back.invariant in
    let same : c.on_in_period.result ≡ c.on_in_period-on.result = search rules in
    let on = sym c.on_in_period.ensures ∙ same in
    record {
      within = omega arith;
      on = on;
      since = known.since ∙ changed_back (thermal_of c.args.unit.now) (schedule_of c.args.response.now) c.back.since
          (search rules) (on ∙ sym known.on);
    }
