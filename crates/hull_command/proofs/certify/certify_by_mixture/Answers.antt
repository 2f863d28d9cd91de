use Rattle.hull_command.proofs.Common.{rules, refl, sym, ap, ◌∙◌, w64, w128, to_z-of_z, market_of, prices_of}
use Rattle.hull_command.proofs.Common.{mixture_of, mixture_bound}
use Rattle.hull_input.specs.declared.input.Input.{Input}
use Rattle.hull_command.proofs.certify.certify_by_mixture.Goals as goal

pub returns-clause-certified : goal.returns-clause-certified
returns-clause-certified c =
    let mixture = mixture_of c.args.mixture.now in
    let π = prices_of c.args.priced.prices in
    let at = λ (y : Input). mixture_bound (market_of y.case) mixture π c.args.radius in
    let bound = rw (to_z-of_z w64 c.args.radius (search rules)) at c.bound_of_mixture-bound.ensures.bound in
    rw (
      to_z-of_z w64 c.args.radius (search rules),
      to_z-of_z w128 c.bound_of_mixture-bound.result (search rules),
    ) (record {
      settled = c.in_ok-settled.ensures.settled;
      radius_is = refl;
      bound_is = bound ∙ ap at (sym c.in_ok-settled.ensures.input);
    })

pub returns-clause-told : goal.returns-clause-told
returns-clause-told c =
    rw (to_z-of_z w128 c.bound_of_mixture-bound.result (search rules))
    (record { settled = c.in_ok-settled.ensures.told; bound = c.bound_of_mixture-bound.ensures.limit })
