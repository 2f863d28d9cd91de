-- The best power of one period, where a unit's powers earn period by period (this project's
-- profile).
use Rattle.std.specs.Prelude.{◌≡◌, ℕ, ◌≤◌, ℤ, pos, neg_ℤ, ◌-ℤ◌, ◌*ℤ◌, ◌≤ℤ◌, int_lt, if◌then◌else◌}
use Rattle.std.specs.Prelude.{List, slice_set, true}
use Rattle.uc_model.specs.declared.units.Block.{Block}
use Rattle.uc_model.specs.Data.{Schedule}
use Rattle.uc_model.specs.Earnings.{worth_of}
use Rattle.plain_lists.specs.Ranges.{IsFrom}
use Rattle.uc_model.specs.Schedules.{width_of}

-- the most that a renewable unit or a bid earns in a period, and the most that it loses
abbrev pub most_earned : ℤ
most_earned = pos 20000000000000000

abbrev pub IsEarnedInOne : ℤ → Type 0
IsEarnedInOne x = IsFrom (neg_ℤ most_earned) most_earned x

-- no power that is allowed earns more, and each that earns as much is at least this one
pub record IsLeastBest (IsAllowed : ℕ → Type 0) (earns : ℕ → ℤ) (power : ℕ) : Type 0 where
  pub allowed : IsAllowed power
  pub greatest : (other : ℕ) → IsAllowed other → earns other ≤ℤ earns power
  pub least : (other : ℕ) → IsAllowed other → earns other ≡ earns power → power ≤ other

-- a least best power with what it earns, which is far from the limits of its type
pub record IsLeastChoice (IsAllowed : ℕ → Type 0) (earns : ℕ →
    ℤ) (power : ℕ) (earned : ℤ) : Type 0 where
  pub best : IsLeastBest IsAllowed earns power
  pub is : earned ≡ earns power
  pub bound : IsEarnedInOne earned

-- a renewable unit's power in a period is within its range, and earns the energy price (pglib-uc)
abbrev pub IsBetween : ℤ → ℤ → ℕ → Type 0
IsBetween least most power = (least ≤ℤ pos power) × (pos power ≤ℤ most)

abbrev pub sold_at : ℤ → ℕ → ℤ
sold_at price power = price *ℤ pos power

-- a bid's power in a period is at most its blocks' widths, and earns its worth less the energy
-- price
abbrev pub IsWithinBlocks : List Block → ℕ → Type 0
IsWithinBlocks blocks power = pos power ≤ℤ width_of blocks

abbrev pub bought_at : List Block → ℤ → ℕ → ℤ
bought_at blocks price power = worth_of blocks (pos power) -ℤ (price *ℤ pos power)

-- the schedule with that power, on and without reserve, at an index
abbrev pub with_power : Schedule → ℕ → ℕ → Schedule
with_power s index power =
    record {
      on = slice_set s.on index true;
      power = slice_set s.power index power;
      reserve = slice_set s.reserve index 0;
    }

-- what a block adds where its price is above the energy price, and nothing otherwise
abbrev pub added_power : ℤ → Block → ℤ
added_power price b = if int_lt price b.price then b.width else pos 0

abbrev pub added_gain : ℤ → Block → ℤ
added_gain price b = if int_lt price b.price then (b.price -ℤ price) *ℤ b.width else pos 0
