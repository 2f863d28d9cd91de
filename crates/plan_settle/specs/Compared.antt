-- The two runs of `hull fixed` (Gribik, Hogan and Pope 2007 compare such prices).
use Rattle.std.specs.Prelude.{◌≡◌, length}
use Rattle.board_store.specs.Board.{Setup}
use Rattle.uc_model.specs.Data.{Market, unit_count}
use Rattle.uc_model.specs.PlainCases.{market_of}
use Rattle.plan_settle.specs.FixedCase.{fixed_market}
use Rattle.right_report.specs.RightSide.{told_of}
use Rattle.right_report.specs.RightSide.{IsRightSide}
use Rattle.right_report.specs.declared.side.Side.{Side}
use Rattle.plan_settle.specs.declared.sides.Sides.{Sides}

-- a side of the run that a board was made for is right, with a payment for each unit and bid of the
-- case as given
pub record IsPaidSide (given : Market) (b : Setup) (s : Side) : Type 0 where
  pub right : IsRightSide given b.market b.plan b.budget b.ahead (told_of s)
  pub count : length s.settlement.payments.items ≡ unit_count given

-- the same run with the commitments of the schedule held
abbrev pub held_setup : Setup → Setup
held_setup b = record b { market = fixed_market b.market b.plan }

-- the side of the run itself, and that of the run with commitments held
abbrev pub IsOwnSide : Setup → Side → Type 0
IsOwnSide b = IsPaidSide b.market b

abbrev pub IsFixedSide : Setup → Side → Type 0
IsFixedSide b = IsPaidSide b.market (held_setup b)

-- both sides of a run
pub record AreSides (b : Setup) (s : Sides) : Type 0 where
  pub case : market_of s.case ≡ b.market
  pub cost : s.cost ≡ b.cost
  pub hull : IsOwnSide b s.hull
  pub fixed : IsFixedSide b s.fixed

-- each has a payment for each unit and bid of the case
pub record ArePaid (s : Sides) : Type 0 where
  pub hull : length s.hull.settlement.payments.items ≡ unit_count (market_of s.case)
  pub fixed : length s.fixed.settlement.payments.items ≡ unit_count (market_of s.case)
