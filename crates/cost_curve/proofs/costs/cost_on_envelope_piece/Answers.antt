use Rattle.cost_curve.proofs.Common.{rules, ◌≡◌, ℕ, suc, ◌-◌, ℤ, pos, ◌≤ℤ◌, Option, length, sym, ap, ◌∙◌, subst, w64}
use Rattle.cost_curve.proofs.Common.{FitsSigned, to_z, of_z, arith, ints, to_z-of_z, Point, envelope, IsPoint, point_at}
use Rattle.cost_curve.proofs.Common.{IsWayOn, LeadsOn, fits64}
use Rattle.std.specs.Prelude.{MatchOption, ⊤}
use Rattle.cost_curve.specs.declared.edges.Edge.{Edge}
use Rattle.cost_curve.proofs.Lemmas.{last_power, x_power, line_within, edge_value, edge_limit}
use Rattle.cost_curve.proofs.EnvelopeValues.{envelope_vertex}
use Rattle.cost_curve.proofs.costs.cost_on_envelope_piece.Goals as goal
use Rattle.cost_curve.proofs.costs.cost_on_envelope_piece.Goals.{In-Some}

abbrev no_point : Point
no_point = record { at = pos 0; cost = pos 0 }

-- the way on from the piece's point, and the power between its two ends
module _ (c : In-Some) where
  lead : LeadsOn c.args.points.now c.args.piece.from (length c.args.points.now) c.in-Some.edge
  lead = subst (λ (way : Option Edge). IsWayOn c.args.points.now c.args.piece.from (length c.args.points.now) way)
      c.in-Some.is c.requires.piece.way

  x_is : to_z w64 (of_z w64 c.args.x) ≡ c.args.x
  x_is = to_z-of_z w64 c.args.x c.ranges.x

  reached : (point_at c.args.points.now c.args.piece.from).at ≤ℤ to_z w64 (of_z w64 c.args.x)
  reached = subst (λ (x : ℤ). (point_at c.args.points.now c.args.piece.from).at ≤ℤ x) (sym x_is) c.requires.on.above

  to : to_z w64 (of_z w64 c.args.x) ≤ℤ (point_at c.args.points.now c.in-Some.edge.index).at
  to =
      subst (λ (x : ℤ). x ≤ℤ (point_at c.args.points.now c.in-Some.edge.index).at) (sym x_is)
      (subst (λ (way : Option Edge). MatchOption way ⊤
      (λ (e : Edge). c.args.x ≤ℤ (point_at c.args.points.now e.index).at)) c.in-Some.is c.requires.on.below)

pub cost_between_envelope_points-requires-clause-power : goal.cost_between_envelope_points-requires-clause-power
cost_between_envelope_points-requires-clause-power c =
    let d = (goal.at.cost_between_envelope_points-requires-clause-power c).In-Some in
    x_power c.envelope_is_greatest.ensures c.power_costs_are_within.ensures c.args.points.now c.requires.points
    c.args.piece.from c.in-Some.edge.index c.requires.piece.within (lead d).within c.requires.piece.price _ _
    c.requires.piece.vertex (lead d).edge _ (reached d) (to d)

pub cost_between_envelope_points-requires-clause-line : goal.cost_between_envelope_points-requires-clause-line
cost_between_envelope_points-requires-clause-line c =
    let d = (goal.at.cost_between_envelope_points-requires-clause-line c).In-Some in
    line_within c.envelope_is_greatest.ensures c.power_costs_are_within.ensures c.args.points.now c.requires.points
    c.args.piece.from c.in-Some.edge.index c.requires.piece.within (lead d).within c.requires.piece.price _ _
    c.requires.piece.vertex (lead d).edge _ (reached d) (to d)

pub returns-in-Some-clause-value : goal.returns-in-Some-clause-value
returns-in-Some-clause-value c =
    let d = (goal.at.returns-in-Some-clause-value c).In-Some in
    let f : FitsSigned w64 c.cost_between_envelope_points.result = search rules in
    to_z-of_z w64 c.cost_between_envelope_points.result f ∙ edge_value c.envelope_is_greatest.ensures
    c.power_costs_are_within.ensures
    c.args.points.now c.requires.points c.args.piece.from c.in-Some.edge.index c.requires.piece.within (lead d).within
    c.requires.piece.price _ _ c.requires.piece.vertex (lead d).edge _ (reached d) (to d) _
    c.cost_between_envelope_points.ensures.before
    c.cost_between_envelope_points.ensures.after ∙ ap (envelope c.args.points.now) (x_is d)

pub returns-in-Some-clause-limit : goal.returns-in-Some-clause-limit
returns-in-Some-clause-limit c =
    let d = (goal.at.returns-in-Some-clause-limit c).In-Some in
    let f : FitsSigned w64 c.cost_between_envelope_points.result = search rules in
    edge_limit c.envelope_is_greatest.ensures c.power_costs_are_within.ensures c.args.points.now c.requires.points
    c.args.piece.from c.in-Some.edge.index c.requires.piece.within (lead d).within c.requires.piece.price _ _
    c.requires.piece.vertex (lead d).edge _ (reached d) (to d) _
    (to_z-of_z w64 c.cost_between_envelope_points.result f ∙ edge_value c.envelope_is_greatest.ensures
    c.power_costs_are_within.ensures
    c.args.points.now c.requires.points c.args.piece.from c.in-Some.edge.index c.requires.piece.within (lead d).within
    c.requires.piece.price _ _ c.requires.piece.vertex (lead d).edge _ (reached d) (to d) _
    c.cost_between_envelope_points.ensures.before
    c.cost_between_envelope_points.ensures.after)

pub returns-in-None-clause-value : goal.returns-in-None-clause-value
returns-in-None-clause-value c =
    let ps = c.args.points.now in
    let i = c.args.piece.from in
    let lt = c.requires.piece.within in
    let last = subst (λ (way : Option Edge). IsWayOn ps i (length ps) way) c.in-None.is c.requires.piece.way in
    let n : ℕ = length ps - 1 in
    let n_is : suc n ≡ length ps = omega (arith, lt) in
    let high = c.requires.within.last n no_point n_is in
    let top = last_power c.envelope_is_greatest.ensures c.power_costs_are_within.ensures ps c.requires.points i n lt
    n_is last in
    let reached = c.requires.on.above in
    let here : (point_at ps i).at ≡ c.args.x = omega (arith, ints, high, top, reached) in
    let value = envelope_vertex c.envelope_is_greatest.ensures ps c.requires.points c.requires.piece.price i lt
    c.requires.piece.vertex in
    let q : IsPoint (point_at ps i) = c.requires.points.points i no_point lt in
    let a = q.cost.at_least in
    let b = q.cost.at_most in
    let stays = to_z-of_z w64 (point_at ps i).cost
    (fits64 (point_at ps i).cost (omega (arith, ints, a)) (omega (arith, ints, b))) in
    stays ∙ sym value ∙ ap (envelope ps) here

-- (found at once by this search alone, and slowly by all that is tried without an answer)
pub bounds-points-piece : goal.bounds-points-piece
bounds-points-piece c = search rules

pub cost_between_envelope_points-requires-clause-limits : goal.cost_between_envelope_points-requires-clause-limits
cost_between_envelope_points-requires-clause-limits c = search rules

pub cost_between_envelope_points-requires-clause-above : goal.cost_between_envelope_points-requires-clause-above
cost_between_envelope_points-requires-clause-above c = search rules

pub bounds-points-piece-in-None : goal.bounds-points-piece-in-None
bounds-points-piece-in-None c = search rules

pub returns-in-None-clause-limit : goal.returns-in-None-clause-limit
returns-in-None-clause-limit c = search rules
