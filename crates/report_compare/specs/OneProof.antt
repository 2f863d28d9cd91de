-- The facts that a type carries have one proof at most.
use Rattle.std.specs.Prelude.{ℕ, List, [], ◌∷◌}
use Rattle.std.specs.Coded.{×_prop, Unit-prop, le_prop}
use Rattle.std.specs.List.{AllZip}
use Rattle.std.proofs.Props.{props}
use Rattle.uc_model.specs.Data.{AnyUnit, Thermal, Flat, Bid, Schedule, Market}
use Rattle.uc_model.specs.Schedules.{IsFeasible}
use Rattle.uc_model.specs.Systems.{IsFeasiblePlan}
use Rattle.report_read.specs.Bounds.{AreInOrder}
use Rattle.report_read.specs.Plain.{Told, rank}

pub feasible-prop : (u : AnyUnit) (n : ℕ) (s : Schedule) → IsProp (IsFeasible u n s)
feasible-prop (Thermal g) n s = Prim.hlevel props
feasible-prop (Flat r) n s = Prim.hlevel props
feasible-prop (Bid b) n s = Prim.hlevel props

pub zip-prop : {A B : Type 0} (R : A → B → Type 0) → ((x : A) (y : B) → IsProp (R x y)) →
    (xs : List A) (ys : List B) → IsProp (AllZip R xs ys)
zip-prop R each [] [] = Unit-prop
zip-prop R each [] (y ∷ ys) = λ p q. absurd p
zip-prop R each (x ∷ xs) [] = λ p q. absurd p
zip-prop R each (x ∷ xs) (y ∷ ys) = ×_prop (each x y) (zip-prop R each xs ys)

pub feasible_plan-prop : (m : Market) (plan : List Schedule) → IsProp (IsFeasiblePlan m plan)
feasible_plan-prop m plan = Prim.hlevel (zip-prop, feasible-prop, props)

pub in_order-prop : (least : ℕ) (ts : List Told) → IsProp (AreInOrder least ts)
in_order-prop least [] = Unit-prop
in_order-prop least (t ∷ ts) = λ p q.
    λ i. (le_prop p.0 q.0 i, le_prop p.1 q.1 i, in_order-prop (rank t.kind) ts p.2 q.2 i)
