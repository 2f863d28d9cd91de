-- The units of a market, its thermal units apart, and the schedules of a plan for them.
use Rattle.plan_check.proofs.Common.{◌≡◌, ℕ, ◌≤◌, List, [], ◌∷◌, ◌++◌, map, length, subst, append_assoc, arith, AllZip}
use Rattle.plan_check.proofs.Common.{NamedThermalUnit, NamedRenewableUnit, NamedBidUnit, AnyUnit, Thermal, Flat, Bid}
use Rattle.plan_check.proofs.Common.{Schedule, Market, units, IsFeasible}

abbrev pub any_thermal : NamedThermalUnit → AnyUnit
any_thermal n = Thermal n.unit

-- the renewable units and bids
abbrev pub others : Market → List AnyUnit
others m = map (λ (n : NamedRenewableUnit). Flat n.unit) m.flat ++ map (λ (n : NamedBidUnit). Bid n.unit) m.bids

-- the units of a market: its thermal units, and then the others
pub apart : (m : Market) → units m ≡ map any_thermal m.thermal ++ others m
apart m = append_assoc (map any_thermal m.thermal) (map (λ (n : NamedRenewableUnit). Flat n.unit) m.flat)
    (map (λ (n : NamedBidUnit). Bid n.unit) m.bids)

-- the schedules of a plan, with the units apart
pub plan_apart : (m : Market) (n : ℕ) (plan : List Schedule) → AllZip (λ u s. IsFeasible u n s) (units m) plan →
    AllZip (λ u s. IsFeasible u n s) (map any_thermal m.thermal ++ others m) plan
plan_apart m n plan h = subst (λ (us : List AnyUnit). AllZip (λ u s. IsFeasible u n s) us plan) (apart m) h

-- a plan has a schedule for each thermal unit
pub plan_count : (n : ℕ) (ts : List NamedThermalUnit) (rest : List AnyUnit) (plan : List Schedule) →
    AllZip (λ u s. IsFeasible u n s) (map any_thermal ts ++ rest) plan → length ts ≤ length plan
plan_count n [] rest plan h = omega arith
plan_count n (t ∷ ts) rest [] h = absurd h
plan_count n (t ∷ ts) rest (s ∷ ss) h = omega (arith, plan_count n ts rest ss h.1)
