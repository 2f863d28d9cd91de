-- The text of `hull convex` (this project's profile).
use Rattle.std.specs.Prelude.{◌≡◌, ℕ, ℤ, List, [], ◌∷◌, ◌++◌, length, codes}
use Rattle.std.specs.List.{concat, flat_map}
use Rattle.uc_model.specs.Data.{Schedule}
use Rattle.uc_model.specs.PriceRule.{Proposal}
use Rattle.report_form.specs.Numerals.{numeral, signed_numeral}
use Rattle.report_form.specs.Parts.{spaced_counts, spaced_flags, quoted}
use Rattle.report_form.specs.ReportText.{thermal_text, renewable_text, bid_text, sum_lines}
use Rattle.report_form.specs.SettlementText.{SettlementReport, HasSettlementForm, levels_text}

-- an entry of a unit's mixture: how often it counts, and its schedule
pub record ShareLine : Type 0 where
  pub weight : ℤ
  pub schedule : Schedule

-- the mixture of a thermal unit
pub record MixtureLine : Type 0 where
  pub name : List ℕ
  pub entries : List ShareLine

-- What is told of a search for convex hull prices: the distance within which it ends, how many
-- rounds it may make and made; the settlement at the prices that it found; the weight of the
-- mixture and the entries of each thermal unit; the bound that the mixture proves on the dual value
-- of all prices, how far it is above that of these prices, and what payments and surplus sum to at
-- least at any prices.
pub record ConvexReport : Type 0 where
  pub within : ℤ
  pub rounds : ℕ
  pub made : ℕ
  pub settled : SettlementReport
  pub weight : ℤ
  pub mixture : List MixtureLine
  pub bound : ℤ
  pub distance : ℤ
  pub least : ℤ

-- ---- the text, block by block

-- the first seven lines
unfoldable pub search_text :
    (periods units : ℕ) (cost within : ℤ) (rounds made : ℕ) → List ℕ
search_text periods units cost within rounds made = concat (
    codes "hull-convex 1\nperiods " ∷ numeral periods ∷ codes "\nunits " ∷ numeral units
    ∷ codes "\ncost " ∷ signed_numeral cost ∷ codes "\nwithin " ∷ signed_numeral within
    ∷ codes "\nrounds " ∷ numeral rounds ∷ codes "\nmade " ∷ numeral made ∷ codes "\n" ∷ [])

-- the lines before the units
unfoldable pub searched_text :
    (periods units : ℕ) (cost within : ℤ) (rounds made : ℕ) (row : Proposal) → List ℕ
searched_text periods units cost within rounds made row =
    search_text periods units cost within rounds made ++ levels_text row

-- the four lines behind the units
unfoldable pub weighed_text : (surplus payments gap weight : ℤ) → List ℕ
weighed_text surplus payments gap weight = concat (
    sum_lines surplus payments gap (codes "\nweight " ∷ signed_numeral weight ∷ codes "\n" ∷ []))

unfoldable pub share_text : ShareLine → List ℕ
share_text e = concat (
    codes "share " ∷ signed_numeral e.weight ∷ codes "\non" ∷ spaced_flags e.schedule.on
    ∷ codes "\npower" ∷ spaced_counts e.schedule.power
    ∷ codes "\nreserve" ∷ spaced_counts e.schedule.reserve ∷ codes "\n" ∷ [])

-- the line before the entries of a unit, with their number
unfoldable pub mixed_text : List ℕ → ℕ → List ℕ
mixed_text name entries = concat (
    codes "mixture thermal " ∷ quoted name ∷ codes " entries " ∷ numeral entries ∷ codes "\n"
    ∷ [])

abbrev pub mixture_text : MixtureLine → List ℕ
mixture_text l = mixed_text l.name (length l.entries) ++ flat_map share_text l.entries

-- the last four lines
unfoldable pub bounded_text : (bound distance least : ℤ) → List ℕ
bounded_text bound distance least = concat (
    codes "bound " ∷ signed_numeral bound ∷ codes "\ndistance " ∷ signed_numeral distance
    ∷ codes "\nleast " ∷ signed_numeral least ∷ codes "\nend\n" ∷ [])

-- the whole text: the lines from `value` to `gap` are those of a settlement
unfoldable pub convex_text : ConvexReport → List ℕ
convex_text r =
    searched_text r.settled.periods r.settled.units r.settled.cost r.within r.rounds r.made
    r.settled.row
    ++ flat_map thermal_text r.settled.thermal
    ++ flat_map renewable_text r.settled.renewable
    ++ flat_map bid_text r.settled.bids
    ++ weighed_text r.settled.surplus r.settled.payments r.settled.gap r.weight
    ++ flat_map mixture_text r.mixture
    ++ bounded_text r.bound r.distance r.least

-- ---- the text determines what it tells

-- the settlement in the same way as by its own text; of the mixture each list is told
abbrev pub TextDeterminesConvex : Type 0
TextDeterminesConvex =
    (a b : ConvexReport) → HasSettlementForm a.settled → HasSettlementForm b.settled →
    convex_text a ≡ convex_text b → a ≡ b
