use Rattle.plan_check.proofs.Common.{rules, ◌≡◌, suc, ℤ, Bool, true, false, cond, None, sym, ap, ◌∙◌, w64, FitsSigned}
use Rattle.plan_check.proofs.Common.{to_z-of_z, int_le, int_min, thermal_of, schedule_of, unless, output_in, on_in}
use Rattle.plan_check.proofs.Lemmas.{stops_from}
use Rattle.plan_check.proofs.rules.stop_limit_violation.Goals as goal

pub returns : goal.returns
returns c =
    let g = thermal_of c.args.unit.now in
    let s = schedule_of c.args.response.now in
    let t = c.args.period in
    let on : on_in (thermal_of c.args.unit.now) (schedule_of c.args.response.now) c.args.period ≡ true = search rules in
    let off : on_in (thermal_of c.args.unit.now) (schedule_of c.args.response.now) (suc c.args.period) ≡ false =
    search rules in
    let l = int_min g.stop_limit g.max_power in
    let f : FitsSigned w64 c.args.unit.now.stop_limit = search rules in
    let limit = simp to_z-of_z at c.limit_within_capacity.ensures in
    let f1 : FitsSigned w64 c.state_in_period-last.result.output = search rules in
    let f2 : FitsSigned w64 c.limit_within_capacity.result = search rules in
    let told = simp to_z-of_z at c.violation_above_limit.ensures in
    told ∙ ap (λ (o : ℤ). unless (int_le o c.limit_within_capacity.result) o c.limit_within_capacity.result)
    c.state_in_period-last.ensures.output
    ∙ ap (λ (x : ℤ). unless (int_le (output_in g s t) x) (output_in g s t) x) limit
    ∙ sym (ap (λ (b : Bool). cond b (unless (int_le (output_in g s t) l) (output_in g s t) l) None)
    (stops_from g s t on off))
