-- The text of `hull price` (this project's profile).
use Rattle.std.specs.Prelude.{ℕ, suc, ℤ, List, [], ◌∷◌, ◌++◌, length, codes}
use Rattle.std.specs.List.{concat, flat_map}
use Rattle.uc_model.specs.Data.{AnyUnit, Thermal, Flat, Bid, Schedule}
use Rattle.uc_model.specs.PriceRule.{Proposal}
use Rattle.report_form.specs.declared.report.Owed.{Owed}
use Rattle.report_form.specs.Numerals.{numeral, signed_numeral}
use Rattle.report_form.specs.Parts.{spaced, spaced_counts, spaced_flags, quoted}

-- A unit or a bid at the chosen prices: what it earns at best and in the plan, what it is owed, and
-- its response.
pub record UnitLine : Type 0 where
  pub name : List ℕ
  pub earned : ℤ
  pub scheduled : ℤ
  pub payment : ℤ
  pub response : Schedule

-- the line of a unit of that name, with what it is owed
abbrev pub owed_line : List ℕ → Owed → Schedule → UnitLine
owed_line name o response = record {
  name = name;
  earned = o.earned;
  scheduled = o.scheduled;
  payment = o.payment;
  response = response;
}

-- What a report tells. Proposals count from 1; `chosen` is the number of one of them and `value`
-- its dual value.
pub record Report : Type 0 where
  pub periods : ℕ
  pub units : ℕ
  pub budget : ℕ
  pub ahead : ℕ
  pub cost : ℤ
  pub rows : List Proposal
  pub chosen : ℕ
  pub value : ℤ
  pub thermal : List UnitLine
  pub renewable : List UnitLine
  pub bids : List UnitLine
  pub surplus : ℤ
  pub payments : ℤ
  pub gap : ℤ

-- the first seven lines
unfoldable pub head_text : ℕ → ℕ → ℕ → ℕ → ℤ → ℕ → List ℕ
head_text periods units budget ahead cost proposals = concat (
    codes "hull-report 1\nperiods " ∷ numeral periods ∷ codes "\nunits " ∷ numeral units
    ∷ codes "\nbudget " ∷ numeral budget ∷ codes "\nahead " ∷ numeral ahead
    ∷ codes "\ncost " ∷ signed_numeral cost ∷ codes "\nproposals " ∷ numeral proposals ∷ codes "\n"
    ∷ [])

-- the prices of a proposal, its value and the totals of the responses to it
unfoldable pub row_text : ℕ → Proposal → List ℕ
row_text number r = concat (
    codes "proposal " ∷ numeral number ∷ codes " value " ∷ signed_numeral r.value
    ∷ codes "\nenergy" ∷ spaced r.prices.energy ∷ codes "\nreserve" ∷ spaced r.prices.reserve
    ∷ codes "\nsupplied" ∷ spaced r.supply ∷ codes "\nreserved" ∷ spaced r.reserve ∷ codes "\n"
    ∷ [])

-- the rows, numbered from `first` on
abbrev pub rows_text : ℕ → List Proposal → List ℕ
rows_text first [] = []
rows_text first (r ∷ rs) = row_text first r ++ rows_text (suc first) rs

unfoldable pub chosen_text : ℕ → ℤ → List ℕ
chosen_text number value =
    concat (codes "chosen " ∷ numeral number ∷ codes " value " ∷ signed_numeral value ∷ codes "\n"
    ∷ [])

unfoldable pub thermal_text : UnitLine → List ℕ
thermal_text u = concat (
    codes "unit thermal " ∷ quoted u.name ∷ codes " earned " ∷ signed_numeral u.earned
    ∷ codes " scheduled " ∷ signed_numeral u.scheduled
    ∷ codes " payment " ∷ signed_numeral u.payment
    ∷ codes "\non" ∷ spaced_flags u.response.on ∷ codes "\npower" ∷ spaced_counts u.response.power
    ∷ codes "\nreserve" ∷ spaced_counts u.response.reserve ∷ codes "\n" ∷ [])

-- a renewable unit and a bid are always on and give no reserve, so only the power is told
unfoldable pub flat_text : List ℕ → UnitLine → List ℕ
flat_text kind u = concat (
    kind ∷ quoted u.name ∷ codes " earned " ∷ signed_numeral u.earned ∷ codes " scheduled "
    ∷ signed_numeral u.scheduled
    ∷ codes " payment " ∷ signed_numeral u.payment ∷ codes "\npower"
    ∷ spaced_counts u.response.power ∷ codes "\n" ∷ [])

abbrev pub renewable_text : UnitLine → List ℕ
renewable_text = flat_text (codes "unit renewable ")

abbrev pub bid_text : UnitLine → List ℕ
bid_text = flat_text (codes "unit bid ")

-- the lines of a unit of any kind
abbrev pub unit_text : AnyUnit → UnitLine → List ℕ
unit_text (Thermal g) u = thermal_text u
unit_text (Flat r) u = renewable_text u
unit_text (Bid b) u = bid_text u

-- surplus, payments and gap, and what comes behind the last of them
abbrev pub sum_lines : (surplus payments gap : ℤ) (rest : List (List ℕ)) → List (List ℕ)
sum_lines surplus payments gap rest =
    codes "surplus " ∷ signed_numeral surplus ∷ codes "\npayments " ∷ signed_numeral payments
    ∷ codes "\ngap " ∷ signed_numeral gap ∷ rest

unfoldable pub foot_text : ℤ → ℤ → ℤ → List ℕ
foot_text surplus payments gap = concat (sum_lines surplus payments gap (codes "\nend\n" ∷ []))

-- the whole text
unfoldable pub report_text : Report → List ℕ
report_text r =
    head_text r.periods r.units r.budget r.ahead r.cost (length r.rows)
    ++ rows_text 1 r.rows
    ++ chosen_text r.chosen r.value
    ++ flat_map thermal_text r.thermal
    ++ flat_map renewable_text r.renewable
    ++ flat_map bid_text r.bids
    ++ foot_text r.surplus r.payments r.gap
