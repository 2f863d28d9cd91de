-- The text of `hull settle` (this project's profile).
use Rattle.std.specs.Prelude.{◌≡◌, ℕ, ℤ, List, [], ◌∷◌, ◌++◌, codes}
use Rattle.std.specs.List.{All, concat, flat_map}
use Rattle.uc_model.specs.PriceRule.{Proposal}
use Rattle.report_form.specs.Laws.{IsFlatLine}
use Rattle.report_form.specs.Numerals.{numeral, signed_numeral}
use Rattle.report_form.specs.Parts.{spaced}
use Rattle.report_form.specs.ReportText.{UnitLine, thermal_text, renewable_text, bid_text}
use Rattle.report_form.specs.ReportText.{foot_text}

-- What is told of a settlement at prices: what the plan costs, the prices with their dual value and
-- the totals of the responses, and each unit and bid at these prices.
pub record SettlementReport : Type 0 where
  pub periods : ℕ
  pub units : ℕ
  pub cost : ℤ
  pub row : Proposal
  pub thermal : List UnitLine
  pub renewable : List UnitLine
  pub bids : List UnitLine
  pub surplus : ℤ
  pub payments : ℤ
  pub gap : ℤ

-- the prices, with their dual value and the totals of the responses to them
unfoldable pub levels_text : Proposal → List ℕ
levels_text row = concat (
    codes "value " ∷ signed_numeral row.value ∷ codes "\nenergy" ∷ spaced row.prices.energy
    ∷ codes "\nreserve" ∷ spaced row.prices.reserve ∷ codes "\nsupplied" ∷ spaced row.supply
    ∷ codes "\nreserved" ∷ spaced row.reserve ∷ codes "\n" ∷ [])

-- the first four lines
unfoldable pub opening_text : (periods units : ℕ) (cost : ℤ) → List ℕ
opening_text periods units cost = concat (
    codes "hull-settlement 1\nperiods " ∷ numeral periods ∷ codes "\nunits " ∷ numeral units
    ∷ codes "\ncost " ∷ signed_numeral cost ∷ codes "\n" ∷ [])

-- the first nine lines
unfoldable pub priced_text : (periods units : ℕ) (cost : ℤ) (row : Proposal) → List ℕ
priced_text periods units cost row = opening_text periods units cost ++ levels_text row

-- the whole text: the lines of the units, and the last four, are those of a report
unfoldable pub settlement_text : SettlementReport → List ℕ
settlement_text r =
    priced_text r.periods r.units r.cost r.row
    ++ flat_map thermal_text r.thermal
    ++ flat_map renewable_text r.renewable
    ++ flat_map bid_text r.bids
    ++ foot_text r.surplus r.payments r.gap

-- ---- the text determines the settlement

-- of renewable units and bids it has such lines, whose on flags and reserves aren't told
pub record HasSettlementForm (r : SettlementReport) : Type 0 where
  pub renewable : All IsFlatLine r.renewable
  pub bids : All IsFlatLine r.bids

abbrev pub TextDeterminesSettlement : Type 0
TextDeterminesSettlement =
    (a b : SettlementReport) → HasSettlementForm a → HasSettlementForm b →
    settlement_text a ≡ settlement_text b → a ≡ b
