use Rattle.cost_curve.proofs.Common.{pos, neg_ℤ, ◌-ℤ◌, List, [], length, refl, sym, ap, subst, w64, to_z, of_z, arith}
use Rattle.cost_curve.proofs.Common.{ints, to_z-of_z, Block, IsPoint, extended, IsBuilt, point_at, IsWayOn, fits64}
use Rattle.cost_curve.proofs.Lemmas.{IsBuilt-start, IsBuilt-edge, IsCostCurve-built, CanEvaluate-curve, length-extended}
use Rattle.cost_curve.proofs.Lemmas.{ordered_powers, IsVertex-start, IsVertex-next}
use Rattle.cost_curve.proofs.curves.curve_into.Goals as goal

pub walk-init : goal.walk-init
walk-init c =
    let ps = c.args.points.now in
    let i = c.first_envelope_point-from.result in
    let lt = c.first_envelope_point-from.ensures.within in
    let start = c.first_envelope_point-from.ensures.start in
    let are = c.requires.points in
    let hq : IsPoint (point_at ps i) = are.points i _ lt in
    let at_least = hq.at.at_least in
    let at_most = hq.at.at_most in
    let cost_least = hq.cost.at_least in
    let cost_most = hq.cost.at_most in
    let at_is = to_z-of_z w64 (point_at ps i).at
    (fits64 (point_at ps i).at (omega (arith, ints, at_least)) (omega (arith, ints, at_most))) in
    let cost_is = to_z-of_z w64 (point_at ps i).cost
    (fits64 (point_at ps i).cost (omega (arith, ints, cost_least)) (omega (arith, ints, cost_most))) in
    let v = IsVertex-start (point_at ps i) ps hq (λ k k_in. are.points k _ k_in) start in
    let empty = c.clear.ensures.items in
    let none = ap (λ (bs : List Block). length bs) empty in
    let spare = c.clear.ensures.spare in
    let b = IsBuilt-start c.envelope_is_greatest.ensures c.power_costs_are_within.ensures ps are
    (neg_ℤ (pos 20000000000001)) i lt v in
    let low = start.least 0 (omega (arith, lt)) in
    let high = ordered_powers ps are.ordered 0 i (omega arith) lt in
    record {
      within = lt;
      price = neg_ℤ (pos 20000000000001);
      vertex = v;
      built = subst (λ bs. IsBuilt ps (to_z w64 (of_z w64 (point_at ps i).at))
          (to_z w64 (of_z w64 (point_at ps i).cost)) bs (point_at ps i).at (neg_ℤ (pos 20000000000001))) (sym empty)
          (subst (λ z. IsBuilt ps z (to_z w64 (of_z w64 (point_at ps i).cost)) [] (point_at ps i).at
          (neg_ℤ (pos 20000000000001))) (sym at_is)
          (subst (λ z. IsBuilt ps (point_at ps i).at z [] (point_at ps i).at (neg_ℤ (pos 20000000000001))) (sym cost_is)
          b));
      starts = omega (arith, ints, at_is, low, high);
      few = omega (arith, none);
      room = omega (arith, none, spare);
    }

pub walk-preserved : goal.walk-preserved
walk-preserved c =
    let ps = c.args.points.now in
    let i = c.walk.from in
    let j = c.in-Some.edge.index in
    let t = c.in-Some.edge.slope.price in
    let w = c.in-Some.edge.slope.width in
    let known = c.walk.invariant in
    let lead = c.in-Some.ensures in
    let later = lead.later in
    let before : Block = record { width = w; price = t -ℤ pos 1 } in
    let after : Block = record { width = ((point_at ps j).at -ℤ (point_at ps i).at) -ℤ w; price = t } in
    let items = c.push_blocks_between_points.ensures.items in
    let count = ap (λ (x : List Block). length x) items in
    let few = known.few in
    let one = length-extended c.walk.into.blocks.items before in
    let two = length-extended (extended c.walk.into.blocks.items before) after in
    let room = c.push_blocks_between_points.ensures.room in
    let had = known.room in
    record {
      within = lead.within;
      price = t;
      vertex = IsVertex-next (point_at ps i) ps (point_at ps j) known.price t w known.vertex lead.edge j lead.within
          refl;
      built = subst (λ x. IsBuilt ps c.walk.into.at c.walk.into.value x (point_at ps j).at t) (sym items)
          (IsBuilt-edge c.envelope_is_greatest.ensures c.power_costs_are_within.ensures ps c.requires.points i j
          known.within lead.within known.price t w known.vertex lead.edge c.walk.into.at c.walk.into.value
          c.walk.into.blocks.items known.built);
      starts = known.starts;
      few = omega (arith, count, few, one, two, later);
      room = omega (arith, room, had);
    }

pub returns-clause-curve : goal.returns-clause-curve
returns-clause-curve c =
    let ps = c.args.points.now in
    let known = c.walk.invariant in
    let last = subst (λ way. IsWayOn ps c.walk.from (length ps) way) c.in_default.is c.next_envelope_point.ensures in
    IsCostCurve-built c.envelope_is_greatest.ensures c.power_costs_are_within.ensures ps c.requires.points c.walk.into
    c.walk.from known.price known.within last known.starts known.built known.few

pub returns-clause-evaluates : goal.returns-clause-evaluates
returns-clause-evaluates c =
    let ps = c.args.points.now in
    let known = c.walk.invariant in
    let last = subst (λ way. IsWayOn ps c.walk.from (length ps) way) c.in_default.is c.next_envelope_point.ensures in
    CanEvaluate-curve c.envelope_is_greatest.ensures c.power_costs_are_within.ensures ps c.requires.points c.walk.into
    (IsCostCurve-built c.envelope_is_greatest.ensures c.power_costs_are_within.ensures ps c.requires.points
    c.walk.into c.walk.from known.price known.within last known.starts known.built known.few)
