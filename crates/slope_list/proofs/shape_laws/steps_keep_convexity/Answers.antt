use Rattle.slope_list.proofs.Common.{pos}
use Rattle.slope_list.proofs.Lemmas.{IsConvex-line, IsConvex-reserve, IsConvex-window, IsConvex-curve_sum}
use Rattle.slope_list.proofs.shape_laws.steps_keep_convexity.Goals as goal

pub returns : goal.returns
returns c = λ s curve f g fair cost step convex.
    let kinked = IsConvex-reserve s.reserve_price s.cap s.ramp_up f step.kinked fair.reserve_price.at_least
    step.is_kinked convex in
    let window = IsConvex-window s.ramp_up s.ramp_down s.least s.most step.kinked step.window step.is_window kinked in
    IsConvex-curve_sum curve (pos 0) step.line g cost.limited.blocks step.is_curve
    (IsConvex-line s.slope step.window step.line step.is_line window)
