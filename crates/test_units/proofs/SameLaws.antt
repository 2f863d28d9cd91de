-- Functions with the same values, and the range of a step as it is stored.
use Rattle.test_units.proofs.Common.{◌≡◌, ℕ, ℤ, ◌+ℤ◌, Bool, true, Option, sym, ap, ◌∙◌, option_map, reserve_term}
use Rattle.test_units.proofs.Common.{Table, IsSame, Curve, ThermalUnit, PriceLists, Step, step_at, IsFairStep, IsSmall}
use Rattle.test_units.proofs.Common.{IsStepped, IsLeastCostIn}
use Rattle.plain_lists.proofs.SignedLaws.{stored}
use Rattle.spell_run.proofs.FairLaws.{IsStep, range_moved}

-- the least cost at the powers of a step before a stop
pub range_of : (g : ThermalUnit) (π : PriceLists) (k : ℕ) (starts starts' : Bool) (last : Step)
    (last_is : IsStep last (step_at g π k starts true)) (same : starts ≡ starts') → IsFairStep last →
    (h : Table) (o : Option ℤ) →
    IsLeastCostIn (stored last.least) (stored last.most) h o →
    IsLeastCostIn g.min_power (step_at g π k starts' true).most h o
range_of g π k starts starts' last last_is same fair h o least =
    range_moved g π k last_is same fair (λ low high. IsLeastCostIn low high h o) least

pub small_same : (f g : Table) → IsSame f g → IsSmall f → IsSmall g
small_same f g same small x v h = small x v (sym (same x) ∙ h)

pub stepped_same : (s : Step) (c : Curve) (f g h : Table) → IsSame f g → IsStepped s c g h → IsStepped s c f h
stepped_same s c f g h same step = record {
  kinked = step.kinked;
  window = step.window;
  line = step.line;
  is_kinked = λ x. step.is_kinked x ∙ ap (option_map (λ v. v +ℤ reserve_term s.reserve_price s.cap s.ramp_up x))
      (same x);
  is_window = step.is_window;
  is_line = step.is_line;
  is_curve = step.is_curve;
}
