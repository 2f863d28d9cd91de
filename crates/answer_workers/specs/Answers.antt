-- What is needed to answer the units of a case (this project's profile).
use Rattle.std.specs.Prelude.{ℕ}
use Rattle.std.specs.List.{All}
use Rattle.uc_model.specs.Data.{AnyUnit, Market, Schedule, units}
use Rattle.uc_model.specs.Schedules.{IsFeasible}
use Rattle.unit_program.specs.Answers.{Suffices}
use Rattle.unit_program.specs.declared.bench.Bench.{Bench}

-- the unit has a feasible schedule over so many periods
abbrev pub HasSchedule : AnyUnit → ℕ → Type 0
HasSchedule u periods = (s : Schedule) × IsFeasible u periods s

-- the bench suffices for the answers of each unit of a case
abbrev pub IsBenchOf : Market → Bench → Type 0
IsBenchOf m b = All (λ (u : AnyUnit). Suffices m.periods u b) (units m)
