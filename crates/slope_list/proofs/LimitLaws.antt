-- Each effect keeps powers and values within the limits.
use Rattle.slope_list.proofs.Common.{◌≡◌, sym, ap, ◌∙◌, subst, arith, ◌+ℤ◌, ints, value_of, IsPlace, IsAmount}
use Rattle.slope_list.proofs.Common.{PointIsWithinLimits, CopyIsWithinLimits, SumIsWithinLimits, CurveSumIsWithinLimits}
use Rattle.slope_list.proofs.Common.{WindowIsWithinLimits}
use Rattle.slope_list.proofs.ConvexLaws.{added}
use Rattle.slope_list.proofs.Lookup.{same_some}
use Rattle.slope_list.proofs.CurveLaws.{raised_by}

pub IsWithinLimits-point : PointIsWithinLimits
IsWithinLimits-point power value g at amount is x v h =
    let e = is.only x v h in
    let s : v ≡ value = same_some (value_of g power) (ap (value_of g) (sym e) ∙ h) is.there in
    (subst IsPlace (sym e) at, subst IsAmount (sym s) amount)

pub IsWithinLimits-same : CopyIsWithinLimits
IsWithinLimits-same f g same within x v h = within x v (sym (same x) ∙ h)

pub IsWithinLimits-sum : SumIsWithinLimits
IsWithinLimits-sum term f g sum fits within x v h =
    let a = added term x v (value_of f x) (value_of g x) (sum x) h in
    ((within x a.0 a.1).0, subst IsAmount (sym a.2) (fits x a.0 a.1))

pub IsWithinLimits-curve_sum : CurveSumIsWithinLimits
IsWithinLimits-curve_sum curve shift f g sum fits within x v h =
    let r = raised_by curve (x +ℤ shift) v (value_of f x) (value_of g x) (sum x) h in
    let fit = fits x r.old r.there in
    let same : fit.0 ≡ r.rise = same_some (curve (x +ℤ shift)) fit.1 r.on in
    let e : v ≡ r.old +ℤ fit.0 = r.is ∙ ap (λ c. r.old +ℤ c) (sym same) in
    ((within x r.old r.there).0, subst IsAmount (sym e) fit.2)

pub IsWithinLimits-window : WindowIsWithinLimits
IsWithinLimits-window up down lo hi f g low high w within x v h =
    let r = w.reached x v h in
    let inside = r.2 in
    let from = inside.0 in
    let to = inside.1 in
    let first = low.0 in
    let last = high.1 in
    let old = within r.0 v r.1 in
    ((omega (arith, ints), omega (arith, ints)), old.1)
