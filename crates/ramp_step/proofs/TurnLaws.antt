-- A convex function is least at its turn, and between two powers nearest to it.
use Rattle.ramp_step.proofs.Common.{◌≡◌, ℕ, List, Some, None, refl, sym, ◌∙◌, ℤ, ◌≤ℤ◌, Option, MatchOption, int_min}
use Rattle.ramp_step.proofs.Common.{int_max, IsLeastIn, value_of, HasNone, Knot, knot, power, IsInside, TurnIsLeast}
use Rattle.ramp_step.proofs.Common.{NearestIsLeast, table_of, AreBreaks, IsTurn}
use Rattle.ramp_step.proofs.LeastLaws.{IsLowest-turn, IsLowest-within, HasNoPower-within}
use Rattle.ramp_step.proofs.RunLaws.{shape_of}
use Rattle.ramp_step.proofs.ShapeLaws.{value_inside, inside_value, IsLeast-from_knots, IsLeastIn-from_knots}
use Rattle.ramp_step.proofs.ShapeLaws.{HasNone-from_knots}

pub turn_is_least : TurnIsLeast
turn_is_least ks n turn b is = let shape = shape_of ks n b in
    IsLeast-from_knots ks n (knot ks turn) shape (IsLowest-turn ks n turn shape.0 shape.1 is)

nearest_by : (ks : List Knot) (n turn : ℕ) (lo hi : ℤ) → AreBreaks ks n → IsTurn ks n turn → lo ≤ℤ hi → (o : Option ℤ) →
    value_of (table_of ks n) (int_max lo (int_min hi (power ks turn))) ≡ o
    → MatchOption o (HasNone lo hi (table_of ks n))
    (λ v. IsLeastIn lo hi (table_of ks n) v (int_max lo (int_min hi (power ks turn))))
nearest_by ks n turn lo hi b is order (Some v) e =
    let shape = shape_of ks n b in
    let x = int_max lo (int_min hi (power ks turn)) in
    let i = inside_value ks n shape.0 shape.1 x v e in
    IsLeastIn-from_knots ks n lo hi (record { at = x; value = v }) shape
    (IsLowest-within ks n turn shape.0 shape.1 is lo hi v order i.inside (sym i.is))
nearest_by ks n turn lo hi b is order None e =
    let shape = shape_of ks n b in
    let x = int_max lo (int_min hi (power ks turn)) in
    let outside : IsInside ks n x → ⊥ = λ h. let q = sym e ∙ value_inside ks n shape.0 shape.1 x h in (cc) in
    HasNone-from_knots ks n lo hi shape (HasNoPower-within ks n turn shape.0 shape.1 is lo hi outside)

pub nearest_is_least : NearestIsLeast
nearest_is_least ks n turn lo hi b is order =
    nearest_by ks n turn lo hi b is order (value_of (table_of ks n) (int_max lo (int_min hi (power ks turn)))) refl
