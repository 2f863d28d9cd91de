-- What answers to a case's units rest on. Each law is the clause of a public function of its name.
use Rattle.std.specs.Prelude.{ℕ, ◌≤◌, length}
use Rattle.std.specs.List.{All}
use Rattle.uc_model.specs.Data.{NamedThermalUnit, Market}
use Rattle.unit_program.specs.Benches.{IsBenchFor}
use Rattle.unit_program.specs.declared.bench.Bench.{Bench}
use Rattle.unit_program.specs.Tops.{HasSchedules, CanAnswer, IsBenchOver}

-- where each unit has a feasible schedule, none is without one
abbrev pub FeasibleUnitsCanAnswer : Type 0
FeasibleUnitsCanAnswer = (m : Market) → HasSchedules m → CanAnswer m

-- a bench for the periods of a case, and as many cost points as any of its units has, suffices for
-- each thermal unit
abbrev pub CaseBenchSufficesForEachUnit : Type 0
CaseBenchSufficesForEachUnit =
    (m : Market) (points : ℕ) (b : Bench) →
    All (λ (n : NamedThermalUnit). length n.unit.points ≤ points) m.thermal →
    IsBenchFor m.periods points b → IsBenchOver m b
