-- The numbers of a list, read one after the other as a loop does.
use Rattle.uc_plan.proofs.Common.{◌≡◌, ℕ, ◌+◌, ◌<◌, ◌≤◌, List, [], ◌∷◌, ◌++◌, length, get_or, drop, Option, Some, None}
use Rattle.uc_plan.proofs.Common.{Result, Ok, Err, refl, ap, Value, view, views, Branch, Fails, need, each, position}
use Rattle.uc_plan.proofs.Common.{Stop, goes_on, ends, is_done, Read, numbers, ShapeSite, ShapeFault}
use Rattle.uc_text.specs.declared.stop.Stop.TheVariants as stops
use Rattle.uc_plan.specs.Shapes.{fault}
use Rattle.uc_plan.specs.declared.fault.ShapeCode.TheVariants.{PlanNumber}

-- one of the numbers, with those before it
abbrev pub one_number : {A : Type 0} → (Value → Option A) → ShapeSite → List A → Value → Read A
one_number number at before v = need (fault at (position before) PlanNumber) (number v)

pub number_goes_on : {A : Type 0} (number : Value → Option A) (at : ShapeSite) (ts : List Branch) (i : ℕ) (t : Branch)
    (front : List A) (x : A) → i < length ts → t ≡ get_or ts i t → number (view t) ≡ Some x
    → each (one_number number at) front (views (drop i ts)) ≡ numbers number at (views ts) →
    each (one_number number at) (front ++ x ∷ []) (views (drop (i + 1) ts)) ≡ numbers number at (views ts)
number_goes_on number at ts i t front x lt is found so_far =
    goes_on (one_number number at) view ts i t front x (numbers number at (views ts)) lt is
    (ap (need (fault at (position front) PlanNumber)) found) so_far

abbrev stopped : {A : Type 0} → ShapeFault → Result A ShapeFault
stopped f = Err f

pub number_ends : {A : Type 0} (e : Stop ShapeFault) (number : Value → Option A) (at : ShapeSite) (ts : List Branch)
    (i : ℕ) (t : Branch) (front : List A) (n : ℕ) → i < length ts → t ≡ get_or ts i t → number (view t) ≡ None
    → n ≡ length front → e ≡ stops.Fault (fault at (n + 1) PlanNumber)
    → each (one_number number at) front (views (drop i ts)) ≡ numbers number at (views ts) →
    Fails e (numbers number at (views ts))
number_ends {A = A} e number at ts i t front n lt is missing n-is e-is so_far =
    rw (e-is, n-is) (ends (stops.Fault (fault at (position front) PlanNumber)) (one_number number at) view ts i t front
    (numbers number at (views ts)) lt is (ap (need (fault at (position front) PlanNumber)) missing) so_far)

pub numbers_done : {A : Type 0} (number : Value → Option A) (at : ShapeSite) (ts : List Branch) (i : ℕ)
    (front : List A) → length ts ≤ i
    → each (one_number number at) front (views (drop i ts)) ≡ numbers number at (views ts) →
    numbers number at (views ts) ≡ Ok front
numbers_done number at ts i front le so_far =
    is_done (one_number number at) view ts i front (numbers number at (views ts)) le so_far

pub numbers_begin : {A : Type 0} (number : Value → Option A) (at : ShapeSite) (ts : List Branch) →
    each (one_number number at) [] (views ts) ≡ numbers number at (views ts)
unfolding numbers
numbers_begin number at ts = refl
