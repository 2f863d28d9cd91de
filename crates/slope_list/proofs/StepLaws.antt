-- The parts of a step together.
use Rattle.slope_list.proofs.Common.{◌≡◌, ℕ, zero, suc, ◌+◌, ◌-◌, ◌≤◌, List, [], length, take, Option, Some, None, refl}
use Rattle.slope_list.proofs.Common.{sym, ap, ◌∙◌, subst, arith, ℤ, pos, negsuc, ◌+ℤ◌, ◌-ℤ◌, ◌*ℤ◌, ◌≤ℤ◌, ◌<ℤ◌}
use Rattle.slope_list.proofs.Common.{MatchOption, int_min, int_max, ints, clamps, Curve, IsOutput, IsCost, Step}
use Rattle.slope_list.proofs.Common.{curve_value, reserve_term, StepKeepsConvexity, ConvexityDependsOnValuesAlone}
use Rattle.slope_list.proofs.Common.{IsFairStep}
use Rattle.slope_list.proofs.Common.{IsCostOf, IsStepped, IsSmall, Table, value_of, offset_value, IsConvex, IsPlace}
use Rattle.slope_list.proofs.Common.{IsAmount, Piece, Start, piece, end_at, last_power, function_of, table_on, table_of}
use Rattle.slope_list.proofs.Common.{AreSlopes, Stand, kinked, AreSmall, AreWithin, AreGentle, IsValley, nearest, moved}
use Rattle.slope_list.proofs.Common.{HasCosts, cost_at, paid, stepped, IsTurn}
use Rattle.slope_list.proofs.LineLaws.{line_step}
use Rattle.slope_list.proofs.PieceLaws.{ends_rise_to, along_line, along_curves, along_from_stand, last_power-take}
use Rattle.slope_list.proofs.PieceLaws.{stand-take}
use Rattle.slope_list.proofs.FunctionLaws.{on_inside, by_power, on_same}
use Rattle.slope_list.proofs.TableLaws.{IsConvex-from_curves, convex_steps, IsSum-on, IsCurveSum-on}
use Rattle.slope_list.proofs.BlockLaws.{cost_at_is}
use Rattle.slope_list.proofs.ReachLaws.{IsBottom-valley, IsWindow-valley}
use Rattle.slope_list.proofs.WindowLaws.{nearest_inside}
use Rattle.slope_list.proofs.BoundLaws.{level_within}

-- ---- pieces of a convex function are slopes

stand_rises : (h : ℤ → ℤ) (lo : ℤ) (ps : List Piece) (n : ℕ) → Stand h lo ps n → (d i j : ℕ) → j ≡ i + d → j ≤ n →
    end_at lo ps i ≤ℤ end_at lo ps j
stand_rises h lo ps n s zero i j e l =
    let same : end_at lo ps j ≡ end_at lo ps i = ap (end_at lo ps) {x = j} {y = i} (omega arith) in omega (arith, ints)
stand_rises h lo ps n s (suc d) i j e l =
    let before : end_at lo ps i ≤ℤ end_at lo ps (i + d) = stand_rises h lo ps n s d i (i + d) refl (omega arith) in
    let step : end_at lo ps (i + d) <ℤ end_at lo ps (suc (i + d)) = (s (i + d) (omega arith)).rise in
    let same : end_at lo ps j ≡ end_at lo ps (suc (i + d)) =
    ap (end_at lo ps) {x = j} {y = suc (i + d)} (omega arith) in
    omega (arith, ints)

pub slopes_from_stand : ConvexityDependsOnValuesAlone → (h : ℤ → ℤ) (lo : ℤ) (ps : List Piece) → Stand h lo ps
    (length ps) →
    IsConvex (table_on h lo (last_power lo ps)) → AreSlopes lo ps
slopes_from_stand law h lo ps s convex = record {
  rise = λ k i. (s k i).rise;
  order = λ k i.
      let a = s k (omega arith) in
      let b = s (suc k) i in
      let e = end_at lo ps (suc k) in
      let on = b.rise in
      let low = stand_rises h lo ps (length ps) s k 0 k (omega arith) (omega arith) in
      let high : end_at lo ps (suc (suc k)) ≤ℤ last_power lo ps =
      stand_rises h lo ps (length ps) s (length ps - suc (suc k)) (suc (suc k)) (length ps) (omega arith)
      (omega arith) in
      let p = line_step h (end_at lo ps k) e (piece ps k).slope (e -ℤ pos 1) a (omega (arith, ints))
      (omega (arith, ints)) in
      let q = line_step h e (end_at lo ps (suc (suc k))) (piece ps (suc k)).slope e b (omega (arith, ints)) on in
      let c = convex_steps law h lo (last_power lo ps) (e -ℤ pos 1) convex (omega (arith, ints))
      (omega (arith, ints)) in
      let x : h ((e -ℤ pos 1) +ℤ pos 1) ≡ h e = ap h (omega (arith, ints)) in
      let y : h ((e -ℤ pos 1) +ℤ pos 2) ≡ h (e +ℤ pos 1) = ap h (omega (arith, ints)) in
      omega (arith, ints);
}

-- ---- small values

pub small_from_table : (start : Start) (ps : List Piece) → IsSmall (table_of start ps) → AreSmall start ps
small_from_table start ps small x low high =
    small x (function_of start ps x)
    (on_inside (function_of start ps) start.first (last_power start.first ps) x low high)

pub gentle_from_small : (start : Start) (ps : List Piece) → AreSlopes start.first ps → AreSmall start ps → AreGentle ps
gentle_from_small start ps slopes small k inside =
    let line = along_line start.first start.level ps slopes k inside in
    let rise = line.rise in
    let e = end_at start.first ps k in
    let p = line_step (function_of start ps) e (end_at start.first ps (suc k)) (piece ps k).slope e line
    (omega (arith, ints)) rise in
    let low = ends_rise_to start.first ps slopes 0 k (omega arith) (omega arith) in
    let high = ends_rise_to start.first ps slopes (suc k) (length ps) inside (omega arith) in
    let a = (small e (omega (arith, ints)) (omega (arith, ints))).1 in
    let b = (small (e +ℤ pos 1) (omega (arith, ints)) (omega (arith, ints))).1 in
    record { at_least = omega (arith, ints); at_most = omega (arith, ints) }

-- ---- the step

none_in : (d : ℤ) → offset_value [] d ≡ None
none_in (pos k) = refl
none_in (negsuc k) = refl

module _ (start : Start) (ps : List Piece) (s : Step) (c : Curve) (m lo hi : ℤ) (slopes : AreSlopes start.first ps)
    (fair : IsFairStep s) (cost : IsCostOf s c)
    (valley : IsValley (kinked start ps s) start.first (last_power start.first ps) m)
    (lo_is : lo ≡ int_max s.least (start.first -ℤ s.ramp_down))
    (hi_is : hi ≡ int_min s.most (last_power start.first ps +ℤ s.ramp_up)) where
  pub costs_on : HasCosts c lo hi
  costs_on x low high = cost.costs x (omega (arith, ints, clamps)) (omega (arith, ints, clamps))

  pub stepped_on : IsStepped s c (table_of start ps) (table_on (stepped start ps s m c) lo hi)
  stepped_on = record {
    kinked = table_on (kinked start ps s) start.first (last_power start.first ps);
    window = table_on (moved start ps s m) lo hi;
    line = table_on (paid start ps s m) lo hi;
    is_kinked = IsSum-on (reserve_term s.reserve_price s.cap s.ramp_up) (function_of start ps) start.first
        (last_power start.first ps);
    is_window = IsWindow-valley (kinked start ps s) start.first (last_power start.first ps) m valley s.ramp_up
        s.ramp_down lo hi s.least s.most fair.ramp_up.at_least fair.ramp_down.at_least lo_is hi_is;
    is_line = IsSum-on (λ x. s.slope *ℤ x) (moved start ps s m) lo hi;
    is_curve = IsCurveSum-on c (paid start ps s m) lo hi costs_on;
  }

  pub stepped_convex : StepKeepsConvexity → ConvexityDependsOnValuesAlone → IsConvex
      (table_on (stepped start ps s m c) lo hi)
  stepped_convex steps places =
      let before = IsConvex-from_curves places (function_of start ps) start.first (last_power start.first ps)
      (along_curves start.first start.level ps slopes) in
      steps s c (table_of start ps) (table_on (stepped start ps s m c) lo hi) fair cost stepped_on before

  -- so does any table with the same values
  pub stepped_to : (g : Table) → ((x : ℤ) → value_of g x ≡ value_of (table_on (stepped start ps s m c) lo hi) x) →
      IsStepped s c (table_of start ps) g
  stepped_to g same =
      let r = stepped_on in
      record {
        kinked = r.kinked;
        window = r.window;
        line = r.line;
        is_kinked = r.is_kinked;
        is_window = r.is_window;
        is_line = r.is_line;
        is_curve = λ x. subst (λ (o : Option ℤ). MatchOption (value_of r.line x) (o ≡ None)
            (λ v. (k : ℤ) × (curve_value c (x +ℤ pos 0) ≡ Some k) × (o ≡ Some (v +ℤ k)))) (sym (same x)) (r.is_curve x);
      }

  pub stepped_none : hi <ℤ lo → IsStepped s c (table_of start ps) (record { lo = pos 0; values = [] })
  stepped_none h = stepped_to (record { lo = pos 0; values = [] })
      (λ x. none_in (x -ℤ pos 0) ∙ by_power lo hi x (λ (low : lo ≤ℤ x) (high : x ≤ℤ hi). absurd (omega (arith, ints)))
      (λ none. sym (none (stepped start ps s m c))))

  pub turn_on : IsTurn s (table_of start ps) m
  turn_on = (
    table_on (kinked start ps s) start.first (last_power start.first ps),
    IsSum-on (reserve_term s.reserve_price s.cap s.ramp_up) (function_of start ps) start.first
        (last_power start.first ps),
    IsBottom-valley (kinked start ps s) start.first (last_power start.first ps) m valley,
  )

  -- the pieces that are written
  module _ (level : ℤ) (out : List Piece) (used : ℕ) (room : used ≤ length out)
      (drawn : Stand (stepped start ps s m c) lo out used) (ends : end_at lo out used ≡ hi)
      (level_is : level ≡ stepped start ps s m c lo) where
    pub written : IsStepped s c (table_of start ps) (table_of (record { first = lo; level = level }) (take used out))
    written =
        let f = function_of (record { first = lo; level = level }) (take used out) in
        let e = last_power-take lo used out room ∙ ends in
        stepped_to (table_of (record { first = lo; level = level }) (take used out))
        (λ x.
        ap (λ (z : ℤ). value_of (table_on f lo z) x) e
        ∙ on_same (stepped start ps s m c) f lo hi
        (λ y low high. along_from_stand (stepped start ps s m c) lo level (take used out)
        (stand-take (stepped start ps s m c) lo used out room drawn) (sym level_is) y low (omega (arith, ints)))
        x)

    pub written_slopes : StepKeepsConvexity → ConvexityDependsOnValuesAlone → AreSlopes lo (take used out)
    written_slopes steps places =
        let e = last_power-take lo used out room ∙ ends in
        slopes_from_stand places (stepped start ps s m c) lo (take used out)
        (stand-take (stepped start ps s m c) lo used out room drawn)
        (subst (λ (z : ℤ). IsConvex (table_on (stepped start ps s m c) lo z)) (sym e) (stepped_convex steps places))

-- ---- the first and the last power

pub step_low : (lo least a down : ℤ) → lo ≡ int_max least (a -ℤ down) → (a ≤ℤ (lo +ℤ down)) × (least ≤ℤ lo)
step_low lo least a down h = (omega (arith, ints, clamps), omega (arith, ints, clamps))

pub step_high : (hi most b up : ℤ) → hi ≡ int_min most (b +ℤ up) → (hi ≤ℤ (b +ℤ up)) × (hi ≤ℤ most)
step_high hi most b up h = (omega (arith, ints, clamps), omega (arith, ints, clamps))

pub step_output : (least lo hi most : ℤ) → IsOutput least → IsOutput most → least ≤ℤ lo → lo ≤ℤ hi → hi ≤ℤ most →
    IsOutput lo
step_output least lo hi most a b p q r =
    record { at_least = omega (arith, ints); at_most = omega (arith, ints) }

-- ---- the values after a step

module _ (start : Start) (ps : List Piece) (s : Step) (c : Curve) (m lo hi : ℤ) (slopes : AreSlopes start.first ps)
    (fair : IsFairStep s) (cost : IsCostOf s c) (small : AreSmall start ps)
    (valley : IsValley (kinked start ps s) start.first (last_power start.first ps) m)
    (lo_is : lo ≡ int_max s.least (start.first -ℤ s.ramp_down))
    (hi_is : hi ≡ int_min s.most (last_power start.first ps +ℤ s.ramp_up)) where
  pub stepped_within : (x : ℤ) → lo ≤ℤ x → x ≤ℤ hi → IsPlace x × IsAmount (stepped start ps s m c x)
  stepped_within x low high =
      let l = step_low lo s.least start.first s.ramp_down lo_is in
      let h = step_high hi s.most (last_power start.first ps) s.ramp_up hi_is in
      let out = step_output s.least x x s.most fair.least fair.most (omega (arith, ints)) (omega (arith, ints))
      (omega (arith, ints)) in
      let n = nearest_inside start.first (last_power start.first ps) m s.ramp_up s.ramp_down x valley.from valley.to
      (omega (arith, ints)) (omega (arith, ints)) fair.ramp_up.at_least fair.ramp_down.at_least in
      let near = nearest s.ramp_up s.ramp_down m x in
      let v = small near n.0 n.1 in
      let k = cost.costs x (omega (arith, ints)) (omega (arith, ints)) in
      let e = cost_at_is c x k.0 k.1 in
      let w = level_within s fair (function_of start ps near) near x (cost_at c x) v.1 v.0 out
      (subst (λ (z : ℤ). IsCost z) (sym e) k.2) in
      let a = w.at_least in
      let b = w.at_most in
      let p = out.at_least in
      let q = out.at_most in
      ((omega (arith, ints, p), omega (arith, ints, q)), (omega (arith, ints, a), omega (arith, ints, b)))

  pub written_within : (level : ℤ) (out : List Piece) (used : ℕ) → used ≤ length out →
      Stand (stepped start ps s m c) lo out used → end_at lo out used ≡ hi → level ≡ stepped start ps s m c lo
      → AreWithin (record { first = lo; level = level }) (take used out)
  written_within level out used room drawn ends level_is x low high =
      let e = last_power-take lo used out room ∙ ends in
      let v = along_from_stand (stepped start ps s m c) lo level (take used out)
      (stand-take (stepped start ps s m c) lo used out room drawn) (sym level_is) x low high in
      let w = stepped_within x low (omega (arith, ints)) in
      (w.0, subst (λ (z : ℤ). IsAmount z) (sym v) w.1)
