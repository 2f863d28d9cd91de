-- The text of `hull settle` tells the settlement.
use Rattle.std.specs.Prelude.{◌≡◌, ℤ, List}
use Rattle.uc_model.specs.Data.{PriceLists, Schedule, Market}
use Rattle.price_settle.specs.Settled.{Settled, IsSettledAt}
use Rattle.report_form.specs.SettlementText.{HasSettlementForm, settlement_text}
use Rattle.hull_report.specs.SettledText.{settlement_of}

-- what a plan is settled at has the form of which the text tells all
abbrev pub SettlementsHaveForm : Type 0
SettlementsHaveForm =
    (m : Market) (plan : List Schedule) (π : PriceLists) (cost : ℤ) (s : Settled) →
    IsSettledAt m plan π s → HasSettlementForm (settlement_of m cost s)

-- so two settlements of a plan that have one text are one: at the same prices, with the same numbers
abbrev pub TextTellsTheSettlement : Type 0
TextTellsTheSettlement =
    (m : Market) (plan : List Schedule) (π ρ : PriceLists) (cost other_cost : ℤ)
    (s other : Settled) → IsSettledAt m plan π s → IsSettledAt m plan ρ other →
    settlement_text (settlement_of m cost s) ≡ settlement_text (settlement_of m other_cost other)
    → (π ≡ ρ) × (cost ≡ other_cost) × (s ≡ other)
