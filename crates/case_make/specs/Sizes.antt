-- The ranges of draws, and of what follows from them.
use Rattle.std.specs.Prelude.{◌≡◌, ℕ, ◌≤◌, List, length}
use Rattle.std.specs.List.{All}
use Rattle.case_make.specs.declared.draws.UnitDraws.{UnitDraws}

pub record IsDrawn (low high x : ℕ) : Type 0 where
  pub at_least : low ≤ x
  pub at_most : x ≤ high

pub record AreDrawn (d : UnitDraws) : Type 0 where
  pub megawatts : IsDrawn 20 400 d.megawatts
  pub least_percent : IsDrawn 20 50 d.least_percent
  pub ramp_divisor : IsDrawn 2 6 d.ramp_divisor
  pub min_up : IsDrawn 1 8 d.min_up
  pub min_down : IsDrawn 1 8 d.min_down
  pub energy_cost : IsDrawn 15 60 d.energy_cost
  pub start_hundreds : IsDrawn 1 50 d.start_hundreds
  pub level_percent : IsDrawn 0 100 d.level_percent

-- the powers of a renewable unit
pub record ArePowers (powers : List ℕ) : Type 0 where
  pub count : length powers ≡ 48
  pub most : All (λ x. x ≤ 100000) powers
