-- What the schedule of the unit of a number earns in a plan.
use Rattle.plan_check.proofs.PlanLaws.{HasLengths}
use Rattle.price_settle.proofs.Common.{◌≡◌, ℕ, ℤ, Some, List, length, sym, ap, ◌∙◌, slice_get, AnyUnit, PriceLists}
use Rattle.price_settle.proofs.Common.{Schedule, Market, units, unit_count, earnings, zip_with_item, length-zip_with}
use Rattle.price_settle.proofs.Common.{earned_in}
use Rattle.uc_model.specs.Laws.{HasPlanShape}
use Rattle.uc_model.specs.PlanLaws.{NumbersUnits}

-- three lists over the horizon

pub earned_length : (m : Market) (plan : List Schedule) (π : PriceLists) → NumbersUnits m → HasPlanShape m plan →
    length (earned_in m plan π) ≡ unit_count m
earned_length m plan π numbers shape =
    length-zip_with (λ (u : AnyUnit) (s : Schedule). earnings u π s) (units m) plan (numbers.count ∙ sym shape.count) ∙
    numbers.count

pub earned_item : (m : Market) (plan : List Schedule) (π : PriceLists) (i : ℕ) (u : AnyUnit) (s : Schedule) (x : ℤ) →
    slice_get (units m) i ≡ Some u → slice_get plan i ≡ Some s → x ≡ earnings u π s →
    slice_get (earned_in m plan π) i ≡ Some x
earned_item m plan π i u s x e g is =
    zip_with_item (λ (v : AnyUnit) (t : Schedule). earnings v π t) (units m) plan i u s e g ∙ ap Some (sym is)
