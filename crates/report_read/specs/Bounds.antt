-- The bounds within which a report is read (this project's profile).
use Rattle.std.specs.Prelude.{◌≡◌, ℕ, ◌+◌, ◌<◌, ◌≤◌, ◌^◌, ℤ, pos, neg_ℤ, IsUtf8, List, [], ◌∷◌}
use Rattle.std.specs.Prelude.{length}
use Rattle.std.specs.List.{AllByRecursion}
use Rattle.plain_lists.specs.Ranges.{IsFrom}
use Rattle.uc_model.specs.Limits.{IsHorizon}
use Rattle.uc_model.specs.PriceRule.{Proposal}
use Rattle.plain_lists.specs.declared.limits.TheConstants.{MOST_UNITS, MOST_PROPOSALS, MOST_AHEAD}
use Rattle.uc_model.specs.declared.limits.TheConstants.{PRICE_LIMIT}
use Rattle.report_form.specs.ReportText.{UnitLine, Report}
use Rattle.report_form.specs.Laws.{IsFlatLine}
use Rattle.report_read.specs.Plain.{Told, rank}

-- a number of 32 bits
abbrev pub IsCount : ℕ → Type 0
IsCount n = n < 2 ^ 32

-- numbers of 64 and of 128 bits, with a sign
abbrev pub IsNumber : ℤ → Type 0
IsNumber x = IsFrom (neg_ℤ (pos 9223372036854775808)) (pos 9223372036854775807) x

abbrev pub IsAmount : ℤ → Type 0
IsAmount x =
    IsFrom (neg_ℤ (pos 170141183460469231731687303715884105728))
    (pos 170141183460469231731687303715884105727) x

abbrev pub IsEnergyPrice : ℤ → Type 0
IsEnergyPrice x = IsFrom (neg_ℤ PRICE_LIMIT) PRICE_LIMIT x

abbrev pub IsReservePrice : ℤ → Type 0
IsReservePrice x = IsFrom (pos 0) PRICE_LIMIT x

-- a list over the periods, with such items
pub record IsList {A : Type 0} (Item : A → Type 0) (periods : ℕ) (xs : List A) : Type 0 where
  pub length_is : length xs ≡ periods
  pub items : AllByRecursion Item xs

-- a proposal with its prices within their limits
pub record IsProposal (periods : ℕ) (r : Proposal) : Type 0 where
  pub value : IsAmount r.value
  pub energy : IsList IsEnergyPrice periods r.prices.energy
  pub reserve : IsList IsReservePrice periods r.prices.reserve
  pub supplied : IsList IsAmount periods r.supply
  pub reserved : IsList IsAmount periods r.reserve

-- a unit's name and money
pub record IsTold (l : UnitLine) : Type 0 where
  pub name : IsUtf8 l.name
  pub earned : IsNumber l.earned
  pub scheduled : IsNumber l.scheduled
  pub payment : IsNumber l.payment

pub record IsThermalLine (periods : ℕ) (l : UnitLine) : Type 0 where
  pub told : IsTold l
  pub on : length l.response.on ≡ periods
  pub power : IsList IsCount periods l.response.power
  pub reserve : IsList IsCount periods l.response.reserve

-- the line of a renewable unit or bid: on in every period, with reserve 0
pub record IsOtherLine (periods : ℕ) (l : UnitLine) : Type 0 where
  pub told : IsTold l
  pub flat : IsFlatLine l
  pub power : IsList IsCount periods l.response.power

-- A report with its numbers within their types and limits, all lists over its periods, and as
-- many lines of units as it says.
pub record IsReport (r : Report) : Type 0 where
  pub periods : IsHorizon r.periods
  pub units_at_least : 1 ≤ r.units
  pub units_at_most : r.units ≤ MOST_UNITS
  pub budget_at_least : 1 ≤ r.budget
  pub budget_at_most : r.budget ≤ MOST_PROPOSALS
  pub ahead_at_least : 1 ≤ r.ahead
  pub ahead_at_most : r.ahead ≤ MOST_AHEAD
  pub cost : IsAmount r.cost
  pub rows_at_least : 1 ≤ length r.rows
  pub rows_at_most : IsCount (length r.rows)
  pub rows : AllByRecursion (IsProposal r.periods) r.rows
  pub chosen : IsCount r.chosen
  pub value : IsAmount r.value
  pub lines : length r.thermal + (length r.renewable + length r.bids) ≡ r.units
  pub thermal : AllByRecursion (IsThermalLine r.periods) r.thermal
  pub renewable : AllByRecursion (IsOtherLine r.periods) r.renewable
  pub bids : AllByRecursion (IsOtherLine r.periods) r.bids
  pub surplus : IsAmount r.surplus
  pub payments : IsAmount r.payments
  pub gap : IsAmount r.gap

-- the kinds of the lines stand in the order thermal, renewable, bid
abbrev pub AreInOrder : ℕ → List Told → Type 0
AreInOrder least [] = Unit {0}
AreInOrder least (t ∷ ts) = (least ≤ rank t.kind) × (rank t.kind ≤ 2) × AreInOrder (rank t.kind) ts
