-- What all units of a case earn at best at prices (Gribik, Hogan and Pope 2007), and on which
-- bench.
use Rattle.std.specs.Prelude.{◌≡◌, ℕ, ℤ, List, map, length, Some, slice_get}
use Rattle.std.specs.List.{All, AllZip}
use Rattle.uc_model.specs.declared.units.Point.{Point}
use Rattle.uc_model.specs.Data.{NamedThermalUnit, AnyUnit, PriceLists, Schedule, Market, units}
use Rattle.uc_model.specs.Earnings.{IsTop}
use Rattle.uc_model.specs.Schedules.{IsFeasible}
use Rattle.unit_program.specs.Answers.{CanBeAnswered}
use Rattle.unit_program.specs.Benches.{IsBenchFor}
use Rattle.unit_program.specs.declared.bench.Bench.{Bench}

-- each unit and bid has a feasible schedule, all together in balance or not
abbrev pub HasSchedules : Market → Type 0
HasSchedules m =
    (plan : List Schedule)
    × AllZip (λ (u : AnyUnit) (s : Schedule). IsFeasible u m.periods s) (units m) plan

-- no unit or bid is without a feasible schedule
abbrev pub CanAnswer : Market → Type 0
CanAnswer m =
    (k : ℕ) (u : AnyUnit) → slice_get (units m) k ≡ Some u → CanBeAnswered u m.periods

-- the cost points of each thermal unit
abbrev pub points_of : Market → List (List Point)
points_of m = map (λ (n : NamedThermalUnit). n.unit.points) m.thermal

-- a bench that suffices for each thermal unit
abbrev pub IsBenchOver : Market → Bench → Type 0
IsBenchOver m b =
    All (λ (ps : List Point). IsBenchFor m.periods (length ps) b) (points_of m)

-- what the best schedules of each unit and bid earn, in the order of the units' numbers
abbrev pub AreTops : Market → PriceLists → List ℤ → Type 0
AreTops m π earned = AllZip (λ (u : AnyUnit) (e : ℤ). IsTop u π e) (units m) earned
