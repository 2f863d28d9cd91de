-- What holds of every settlement at prices. Each law is the clause of a public function of its
-- name.
use Rattle.std.specs.Prelude.{◌≡◌, ℤ, pos, ◌+ℤ◌, ◌-ℤ◌, ◌≤ℤ◌, List, length}
use Rattle.std.specs.List.{All}
use Rattle.uc_model.specs.Data.{PriceLists, Schedule, Market}
use Rattle.uc_model.specs.Laws.{ReserveFrom0}
use Rattle.uc_model.specs.Systems.{IsFeasiblePlan, plan_cost}
use Rattle.price_settle.specs.Settled.{Settled, IsSettledAt, HasEachUnit}

-- at most one is the settlement of a plan at given prices
abbrev pub PlanHasAtMostOneSettlement : Type 0
PlanHasAtMostOneSettlement =
    (m : Market) (plan : List Schedule) (π : PriceLists) (s other : Settled) →
    IsSettledAt m plan π s → IsSettledAt m plan π other → s ≡ other

-- no payment is below 0, nor is the surplus, and together they are what the dual value lacks of the
-- plan's cost (the settlement identity of Gribik, Hogan and Pope 2007)
pub record AddsUp (m : Market) (plan : List Schedule) (s : Settled) : Type 0 where
  pub payments : All (λ (x : ℤ). pos 0 ≤ℤ x) s.payments
  pub surplus : pos 0 ≤ℤ s.surplus
  pub sum : pos 0 ≤ℤ s.sum
  pub gap : s.sum +ℤ s.surplus ≡ plan_cost m plan -ℤ s.row.value

-- at prices that ask nothing below 0 for reserve
abbrev pub SettlementsAddUp : Type 0
SettlementsAddUp =
    (m : Market) (plan : List Schedule) (π : PriceLists) (s : Settled) →
    IsFeasiblePlan m plan → ReserveFrom0 m π → IsSettledAt m plan π s → AddsUp m plan s

-- the settlement of a feasible plan at prices over the horizon has one of each for each unit
abbrev pub SettlementsHaveEachUnit : Type 0
SettlementsHaveEachUnit =
    (m : Market) (plan : List Schedule) (π : PriceLists) (s : Settled) →
    IsFeasiblePlan m plan → length π.energy ≡ m.periods → IsSettledAt m plan π s →
    HasEachUnit m s
