use Rattle.hull_report.proofs.Common.{◌-ℤ◌, flat_map, rules, w64, w128, to_z-of_z, market_of, mixture_of, mixture_text}
use Rattle.hull_report.proofs.Common.{mixture_lines}
use Rattle.hull_report.proofs.Lemmas.{first_of_three, second_of_three, last_of_three}
use Rattle.hull_report.proofs.convex.write_convex_ending.Goals as goal

pub returns-in_err-write_convex_totals : goal.returns-in_err-write_convex_totals
returns-in_err-write_convex_totals g c =
    let s = c.args.settled.now in
    let lines = mixture_lines (market_of c.args.case.now) (mixture_of c.args.mixture.now) in
    first_of_three c.texts_written_in_turn_add_up.ensures _ (flat_map mixture_text lines) _ _ c.from_residual.ensures.0
    (rw (
      to_z-of_z w128 s.settlement.surplus (search rules),
      to_z-of_z w128 s.settlement.total (search rules),
      to_z-of_z w128 c.args.cost (search rules),
      to_z-of_z w128 s.row.value (search rules),
      to_z-of_z w128 (c.args.cost -ℤ s.row.value) (search rules),
      to_z-of_z w64 c.args.mixture.now.weight (search rules),
    ) at c.in_err-write_convex_totals.ensures.err)

pub returns-in_err-write_mixture : goal.returns-in_err-write_mixture
returns-in_err-write_mixture g c =
    let s = c.args.settled.now in
    let lines = mixture_lines (market_of c.args.case.now) (mixture_of c.args.mixture.now) in
    second_of_three c.texts_written_in_turn_add_up.ensures _ (flat_map mixture_text lines) _ _
    c.from_residual-in_err-write_mixture.ensures.0 c.in_err-write_mixture.ensures.err
    (rw (
      to_z-of_z w128 s.settlement.surplus (search rules),
      to_z-of_z w128 s.settlement.total (search rules),
      to_z-of_z w128 c.args.cost (search rules),
      to_z-of_z w128 s.row.value (search rules),
      to_z-of_z w128 (c.args.cost -ℤ s.row.value) (search rules),
      to_z-of_z w64 c.args.mixture.now.weight (search rules),
    ) at c.in_ok-write_convex_totals.ensures.ok)

pub returns : goal.returns
returns g c =
    let s = c.args.settled.now in
    let value = s.row.value in
    let lines = mixture_lines (market_of c.args.case.now) (mixture_of c.args.mixture.now) in
    let weighed = rw (
      to_z-of_z w128 s.settlement.surplus (search rules),
      to_z-of_z w128 s.settlement.total (search rules),
      to_z-of_z w128 c.args.cost (search rules),
      to_z-of_z w128 s.row.value (search rules),
      to_z-of_z w128 (c.args.cost -ℤ s.row.value) (search rules),
      to_z-of_z w64 c.args.mixture.now.weight (search rules),
    ) at c.in_ok-write_convex_totals.ensures.ok in
    let bounded = rw (
      to_z-of_z w128 c.args.bound (search rules),
      to_z-of_z w128 value (search rules),
      to_z-of_z w128 (c.args.bound -ℤ value) (search rules),
      to_z-of_z w128 c.least_uplift-least.result (search rules),
      c.least_uplift-least.ensures,
      to_z-of_z w128 c.args.cost (search rules),
      to_z-of_z w128 c.args.bound (search rules),
    ) at c.write_convex_bound.ensures in
    last_of_three c.texts_written_in_turn_add_up.ensures _ (flat_map mixture_text lines) _ _ bounded
    c.in_ok-write_mixture.ensures.ok
    weighed
