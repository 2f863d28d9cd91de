-- The text of `hull convex` tells what was found.
use Rattle.std.specs.Prelude.{◌≡◌, ℤ, List}
use Rattle.uc_model.specs.Data.{Schedule, Market}
use Rattle.price_settle.specs.Settled.{Settled, IsSettledAt}
use Rattle.convex_search.specs.FoundPrices.{FoundPrices, IsFound}
use Rattle.convex_search.specs.declared.goals.Goal.{Goal}
use Rattle.report_form.specs.ConvexText.{convex_text}
use Rattle.hull_report.specs.ConvexText.{convex_of}

-- what searches for a plan found is one where it has one text: the same prices, mixture and bound,
-- after as many rounds, with the same settlement, and the searches were told the same
abbrev pub TextTellsTheSearch : Type 0
TextTellsTheSearch =
    (m : Market) (plan : List Schedule) (cost other_cost : ℤ) (goal other_goal : Goal)
    (f other : FoundPrices) (s other_s : Settled) → IsFound m goal f → IsSettledAt m plan f.prices s →
    IsFound m other_goal other → IsSettledAt m plan other.prices other_s →
    convex_text (convex_of m cost s f.mixture goal.within goal.rounds f.made f.bound)
    ≡ convex_text (convex_of m other_cost other_s other.mixture other_goal.within
    other_goal.rounds other.made other.bound)
    → (cost ≡ other_cost) × (goal ≡ other_goal) × (f ≡ other) × (s ≡ other_s)
