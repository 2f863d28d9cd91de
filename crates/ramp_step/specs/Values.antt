-- The list of values over all powers, which the first n knots stand for (this project's profile).
use Rattle.std.specs.Prelude.{ℕ, zero, suc, ◌+◌, ℤ, pos, ◌+ℤ◌, ◌-ℤ◌, ◌*ℤ◌, if◌then◌else◌, int_lt}
use Rattle.std.specs.Prelude.{int_div, unsigned_abs, List, [], map}
use Rattle.std.specs.List.{range_with_len}
use Rattle.ramp_step.specs.declared.breakpoint.Knot.{Knot}
use Rattle.ramp_step.specs.Knots.{knot, power, height}

-- the value at x on the line through two knots
abbrev pub line_at : Knot → Knot → ℤ → ℤ
line_at a b x = a.value +ℤ int_div (b.value -ℤ a.value) (b.at -ℤ a.at) *ℤ (x -ℤ a.at)

-- the value at x by the knots up to index k
abbrev pub value_upto : List Knot → ℕ → ℤ → ℤ
value_upto ks zero x = height ks 0
value_upto ks (suc k) x =
    if int_lt (power ks k) x then line_at (knot ks k) (knot ks (k + 1)) x else value_upto ks k x

-- the values at all powers from the first knot to the last
abbrev pub values_of : List Knot → ℕ → List ℤ
values_of ks zero = []
values_of ks (suc m) =
    map (λ i. value_upto ks m (power ks 0 +ℤ pos i))
    (range_with_len 0 (unsigned_abs (power ks m -ℤ power ks 0) + 1))
