use Rattle.cost_curve.proofs.Common.{rules, pos, neg_ℤ, ◌<ℤ◌, refl, arith, ints, Point, point_at}
use Rattle.cost_curve.proofs.Lemmas.{IsVertex-start, IsVertex-next}
use Rattle.cost_curve.proofs.costs.envelope_piece_of_power.Goals as goal

abbrev no_point : Point
no_point = record { at = pos 0; cost = pos 0 }

pub walk-init : goal.walk-init
walk-init c =
    let ps = c.args.points.now in
    let i = c.first_envelope_point-from.result in
    let lt = c.first_envelope_point-from.ensures.within in
    let start = c.first_envelope_point-from.ensures.start in
    let are = c.requires.points in
    let low = start.least 0 (omega (arith, lt)) in
    let first = c.requires.within.first no_point in
    record {
      within = lt;
      price = neg_ℤ (pos 20000000000001);
      vertex = IsVertex-start (point_at ps i) ps (are.points i no_point lt) (λ k k_in. are.points k no_point k_in)
          start;
      reached = omega (arith, ints, low, first);
    }

pub walk-preserved : goal.walk-preserved
walk-preserved c =
    let above : (point_at c.args.points.now c.in-Some.edge.index).at <ℤ c.args.x = search rules in
    let known = c.walk.invariant in
    let lead = c.in-Some.ensures in
    record {
      within = lead.within;
      price = c.in-Some.edge.slope.price;
      vertex = IsVertex-next (point_at c.args.points.now c.walk.from) c.args.points.now
          (point_at c.args.points.now c.in-Some.edge.index) known.price _ _ known.vertex lead.edge c.in-Some.edge.index
          lead.within refl;
      reached = omega (arith, ints, above);
    }
