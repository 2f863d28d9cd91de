use Rattle.plan_check.proofs.Common.{rules, ◌≡◌, suc, ℤ, true, List, sym, ◌∙◌, subst, w64, FitsSigned, to_z-of_z, Spans}
use Rattle.plan_check.proofs.Common.{thermal_of, schedule_of, on_in, power_in}
use Rattle.uc_model.specs.declared.units.Point.{Point}
use Rattle.plan_check.proofs.Lemmas.{power_spans}
use Rattle.plan_check.proofs.costs.power_cost.Goals as goal

pub envelope_cost_with_cached_piece-requires-clause-within : goal.envelope_cost_with_cached_piece-requires-clause-within
envelope_cost_with_cached_piece-requires-clause-within c =
    let g = thermal_of c.args.unit.now in
    let s = schedule_of c.args.response.now in
    let on : on_in (thermal_of c.args.unit.now) (schedule_of c.args.response.now) (suc c.args.index) ≡ true =
    search rules in
    let spans = power_spans g s c.args.index c.args.unit.now.valid c.requires.feasible c.requires.within on in
    let f : FitsSigned w64 c.power_at.result = search rules in
    let x_is = to_z-of_z w64 c.power_at.result f ∙ c.power_at.ensures.value in
    subst (λ (x : ℤ). Spans c.as_slice.result.now x x) (sym x_is)
    (subst (λ (ps : List Point). Spans ps (power_in s (suc c.args.index)) (power_in s (suc c.args.index)))
    (sym c.as_slice.ensures) spans)

-- (found at once by this search alone, and slowly by all that is tried without an answer)
pub returns-clause-value : goal.returns-clause-value
returns-clause-value c = search rules

pub returns-clause-limit : goal.returns-clause-limit
returns-clause-limit c = search rules

pub returns-clause-near : goal.returns-clause-near
returns-clause-near c = search rules

pub envelope_cost_with_cached_piece-requires-clause-points : goal.envelope_cost_with_cached_piece-requires-clause-points
envelope_cost_with_cached_piece-requires-clause-points c = search rules

pub envelope_cost_with_cached_piece-requires-clause-near : goal.envelope_cost_with_cached_piece-requires-clause-near
envelope_cost_with_cached_piece-requires-clause-near c = search rules
