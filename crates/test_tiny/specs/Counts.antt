-- How many schedules come after one in the order for ties (this project's profile), where no power
-- and no reserve is above a greatest one: a number with one digit for each flag, power and reserve.
use Rattle.std.specs.Prelude.{ℕ, zero, suc, ◌+◌, ◌-◌, ◌*◌, ◌≤◌, Bool, if◌then◌else◌, List, [], ◌∷◌}
use Rattle.std.specs.Prelude.{map, length}
use Rattle.std.specs.List.{All}
use Rattle.uc_model.specs.Data.{Schedule}

-- how many lists of n items from 0 to most there are
abbrev pub list_count : ℕ → ℕ → ℕ
list_count most zero = 1
list_count most (suc n) = suc most * list_count most n

-- how many such lists come after one, where the last item counts most
abbrev pub after_of : ℕ → List ℕ → ℕ
after_of most [] = 0
after_of most (x ∷ xs) = (most - x) + suc most * after_of most xs

abbrev pub flag : Bool → ℕ
flag b = if b then 1 else 0

abbrev pub flags_of : Schedule → List ℕ
flags_of s = map flag s.on

-- how many schedules come after one
abbrev pub schedules_after : ℕ → Schedule → ℕ
schedules_after most s =
    after_of most s.reserve + list_count most (length s.on)
    * (after_of most s.power + list_count most (length s.on) * after_of 1 (flags_of s))

-- no power and no reserve is above the greatest one
pub record IsWithin (most : ℕ) (s : Schedule) : Type 0 where
  pub power : All (λ x. x ≤ most) s.power
  pub reserve : All (λ x. x ≤ most) s.reserve
