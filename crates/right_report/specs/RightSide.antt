-- What a right side of `hull fixed` tells: of the run of a case, and of what the units of the case
-- as given are paid at its chosen prices. Dual value and payments are those of Gribik, Hogan and
-- Pope (2007); the price rule is this project's profile.
use Rattle.std.specs.Prelude.{◌≡◌, ℕ, ◌-◌, ℤ, ◌+ℤ◌, ◌-ℤ◌, true, Some, List, length, slice_get}
use Rattle.board_core.specs.Setups.{IsSetup}
use Rattle.board_store.specs.Board.{Content, IsLegalHistory}
use Rattle.board_store.specs.Calls.{own_rows, has_finished}
use Rattle.uc_model.specs.Data.{PriceLists, Schedule, Market}
use Rattle.uc_model.specs.PlainUnits.{prices_of}
use Rattle.uc_model.specs.PriceRule.{Proposal, chosen_number}
use Rattle.uc_model.specs.Runs.{IsRun, Fits}
use Rattle.uc_model.specs.Systems.{IsFeasiblePlan, plan_cost, IsDualValue, IsSettled}
use Rattle.right_report.specs.RecordReport.{chosen_of}
use Rattle.right_report.specs.declared.side.Side.{Side}

-- What is told of a run: how many proposals it has, the number from 1 of the chosen one, its dual
-- value and its prices, and at these the payment of each unit and bid, what surplus reserve is
-- worth, and the sum of the payments.
pub record ToldSide : Type 0 where
  pub proposals : ℕ
  pub chosen : ℕ
  pub value : ℤ
  pub prices : PriceLists
  pub payments : List ℤ
  pub surplus : ℤ
  pub total : ℤ

abbrev pub told_of : Side → ToldSide
told_of s = record {
  proposals = s.proposals;
  chosen = s.chosen;
  value = s.value;
  prices = prices_of s.prices;
  payments = s.settlement.payments.items;
  surplus = s.settlement.surplus;
  total = s.settlement.total;
}

-- of the run of `ran` with that budget and number of proposals ahead, and of the units of `given`
pub record IsRightSide (given ran : Market) (plan : List Schedule) (budget ahead : ℕ)
    (s : ToldSide) : Type 0 where
  -- the rows are all that the budget and the price rule call for, each with its exact dual value
  pub rows : List Proposal
  pub run : IsRun Fits ran (plan_cost ran plan) budget ahead rows
  pub proposals_are : s.proposals ≡ length rows
  -- the chosen row is the first with the greatest value
  pub chosen_is : s.chosen ≡ chosen_number rows
  pub row : Proposal
  pub is_chosen : slice_get rows (s.chosen - 1) ≡ Some row
  pub value_is : s.value ≡ row.value
  pub prices_are : s.prices ≡ row.prices
  -- the money is that of the settlement of the case as given at the chosen prices
  pub scheduled : List ℤ
  pub settled : IsSettled given plan s.prices scheduled s.payments s.surplus s.total

-- at most one side is right
abbrev pub OneRightSide : Type 0
OneRightSide =
    (given ran : Market) (plan : List Schedule) (budget ahead : ℕ) (s other : ToldSide) →
    IsRightSide given ran plan budget ahead s → IsRightSide given ran plan budget ahead other →
    s ≡ other

-- the settlement identity (Gribik, Hogan and Pope 2007): payments and surplus make up what the dual
-- value of the case as given, at the prices of the side, lacks of the cost
abbrev pub IsMadeUp : Market → List Schedule → ToldSide → Type 0
IsMadeUp given plan s =
    (dual : ℤ) × IsDualValue given s.prices dual
    × (s.total +ℤ s.surplus ≡ plan_cost given plan -ℤ dual)

abbrev pub PaymentsOfFixedReportSideMakeUpTheGap : Type 0
PaymentsOfFixedReportSideMakeUpTheGap =
    (given ran : Market) (plan : List Schedule) (budget ahead : ℕ) (s : ToldSide) →
    IsFeasiblePlan given plan → IsRightSide given ran plan budget ahead s → IsMadeUp given plan s

-- ---- the side of a record

-- what a finished record chose
pub record TellsChoice (c : Content) (s : Side) : Type 0 where
  pub proposals : s.proposals ≡ length (own_rows c)
  pub chosen : s.chosen ≡ chosen_of c
  pub row : Proposal
  pub is_chosen : slice_get (own_rows c) (chosen_of c - 1) ≡ Some row
  pub value : s.value ≡ row.value
  pub prices : prices_of s.prices ≡ row.prices

-- it is right with the settlement of the record's schedule, for the case as given, at its prices
abbrev pub SettledSidesOfFixedReportAreRight : Type 0
SettledSidesOfFixedReportAreRight =
    (given : Market) (c : Content) (s : Side) → IsSetup c.setup →
    IsLegalHistory c.setup c.events → has_finished c ≡ true → TellsChoice c s →
    IsSettled given c.setup.plan (prices_of s.prices) s.settlement.scheduled.items
    s.settlement.payments.items s.settlement.surplus s.settlement.total →
    IsRightSide given c.setup.market c.setup.plan c.setup.budget c.setup.ahead (told_of s)
