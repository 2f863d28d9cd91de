-- What a curve of blocks means (this project's profile).
use Rattle.std.specs.Prelude.{ℤ, pos, ◌+ℤ◌, ◌-ℤ◌, ◌*ℤ◌, int_lt, if◌then◌else◌, List, [], ◌∷◌}
use Rattle.std.specs.Prelude.{Option, Some, None}
use Rattle.std.specs.Option.{option_map}
use Rattle.uc_model.specs.declared.units.Block.{Block}
use Rattle.uc_model.specs.declared.units.Curve.{Curve}

-- what the blocks add at an offset from their start, if it isn't past their end
abbrev pub rise_at : List Block → ℤ → Option ℤ
rise_at [] x = if int_lt (pos 0) x then None else Some (pos 0)
rise_at (b ∷ bs) x =
    if int_lt b.width x then option_map (λ v. v +ℤ (b.price *ℤ b.width)) (rise_at bs (x -ℤ b.width))
    else Some (b.price *ℤ x)

-- the curve's value at a place, if the place is in it
abbrev pub curve_value : Curve → ℤ → Option ℤ
curve_value c x =
    if int_lt x c.at then None else option_map (λ v. v +ℤ c.value)
    (rise_at c.blocks.items (x -ℤ c.at))

-- where the blocks end, from a place on
abbrev pub end_of : ℤ → List Block → ℤ
end_of from [] = from
end_of from (b ∷ bs) = end_of (from +ℤ b.width) bs
