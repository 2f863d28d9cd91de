-- What a mixture's bound says of all prices in its box. Each law is the clause of a public function
-- of its name.
use Rattle.std.specs.Prelude.{◌+ℤ◌, ℤ, pos, ◌≤ℤ◌, List}
use Rattle.uc_model.specs.Data.{PriceLists, Schedule, Market}
use Rattle.uc_model.specs.Limits.{IsMarket}
use Rattle.uc_model.specs.Systems.{IsDualValue, IsFeasiblePlan, plan_cost, IsSettled}
use Rattle.gap_proof.specs.MixtureLaws.{least_paid}
use Rattle.gap_proof.specs.Mixtures.{MixtureLists, IsMixture}
use Rattle.gap_proof.specs.MixtureBound.{mixture_bound}
use Rattle.law_parts.specs.BoundLaws.{ArePriced, IsInBox}

-- no prices in the box have a dual value above the bound, whatever the mixture
abbrev pub MixtureBoundHolds : Type 0
MixtureBoundHolds =
    (m : Market) (x : MixtureLists) (centre : PriceLists) (radius : ℤ) (π : PriceLists)
    (value : ℤ) →
    IsMarket m → IsMixture m x → IsInBox m centre radius π → IsDualValue m π value →
    value ≤ℤ mixture_bound m x centre radius

-- so the bound round some prices is at least their value
abbrev pub MixtureBoundReachesCentre : Type 0
MixtureBoundReachesCentre =
    (m : Market) (x : MixtureLists) (centre : PriceLists) (radius value : ℤ) →
    IsMarket m → IsMixture m x → ArePriced m centre → pos 0 ≤ℤ radius →
    IsDualValue m centre value → value ≤ℤ mixture_bound m x centre radius

-- at any prices in the box payments and surplus sum to at least what the bound says
abbrev pub PaymentsReachLeast : Type 0
PaymentsReachLeast =
    (m : Market) (plan : List Schedule) (x : MixtureLists) (centre : PriceLists) (radius : ℤ)
    (π : PriceLists) (scheduled payments : List ℤ) (surplus sum : ℤ) →
    IsMarket m → IsFeasiblePlan m plan → IsMixture m x → IsInBox m centre radius π →
    IsSettled m plan π scheduled payments surplus sum →
    least_paid (plan_cost m plan) (mixture_bound m x centre radius) ≤ℤ (sum +ℤ surplus)
