-- What the rules of a step or a dispatch say of the range of a period, and what that says of a limit.
use Rattle.unit_table.proofs.Common.{◌≡◌, ℕ, suc, ◌<◌, ◌≤◌, Bool, false, ℤ, pos, ◌+ℤ◌, ◌-ℤ◌, ◌≤ℤ◌, arith, if◌then◌else◌}
use Rattle.unit_table.proofs.Common.{int_min, ints, clamps, ThermalUnit, Schedule, cap_of, power_in, reserve_in}
use Rattle.unit_table.proofs.Common.{IsDispatch, IsMove, IsInRange}

min_two : (a b c : ℤ) → int_min (int_min a b) c ≤ℤ a
min_two a b c = omega (arith, ints, clamps)

-- no cap is above the greatest power
cap_low : (g : ThermalUnit) (starts stops : Bool) → cap_of g starts stops ≤ℤ (g.max_power -ℤ g.min_power)
cap_low g starts stops =
    let low = min_two g.max_power (if starts then g.start_limit else g.max_power)
    (if stops then g.stop_limit else g.max_power) in
    less (int_min (int_min g.max_power (if starts then g.start_limit else g.max_power))
    (if stops then g.stop_limit else g.max_power)) g.max_power g.min_power low
  where
    less : (x y m : ℤ) → x ≤ℤ y → (x -ℤ m) ≤ℤ (y -ℤ m)
    less x y m low = omega (arith, ints)

move_low : (p r cap least most : ℤ) → (p +ℤ r) ≤ℤ (cap +ℤ least) → cap ≤ℤ (most -ℤ least) → (p +ℤ r) ≤ℤ most
move_low p r cap least most under low = omega (arith, ints)

above_low : (p least : ℤ) → pos 0 ≤ℤ (p -ℤ least) → least ≤ℤ p
above_low p least low = omega (arith, ints)

spell_low : (p r cap least most : ℤ) → ((p -ℤ least) +ℤ r) ≤ℤ cap → cap ≤ℤ (most -ℤ least) → (p +ℤ r) ≤ℤ most
spell_low p r cap least most under low = omega (arith, ints)

pub move_in_range : (g : ThermalUnit) (starts stops : Bool) (q : ℤ) (d : Schedule) (k : ℕ) →
    IsMove g starts stops q (power_in d (suc k)) (reserve_in d (suc k)) → IsInRange g d k
move_in_range g starts stops q d k move = record {
  least = move.least;
  most = move_low (power_in d (suc k)) (reserve_in d (suc k)) (cap_of g starts stops) g.min_power g.max_power
      move.greatest (cap_low g starts stops);
}

pub dispatch_in_range : (g : ThermalUnit) (periods first last : ℕ) (d : Schedule) (k : ℕ) →
    IsDispatch g periods first last d → first ≤ suc k → k < last → IsInRange g d k
dispatch_in_range g periods first last d k dispatch from until = record {
  least = above_low (power_in d (suc k)) g.min_power (dispatch.least (suc k) (omega arith) from (omega arith));
  most = spell_low (power_in d (suc k)) (reserve_in d (suc k)) (cap_of g false false) g.min_power g.max_power
      (dispatch.greatest (suc k) (omega arith) from (omega arith)) (cap_low g false false);
}

-- what is within a limit with a period more was within the limit before it
pub before_low : (e cost cost' net limit limit' : ℤ) → cost' ≡ cost +ℤ net → limit' ≤ℤ (limit +ℤ net) →
    (e +ℤ cost') ≤ℤ limit' → (e +ℤ cost) ≤ℤ limit
before_low e cost cost' net limit limit' more step under = omega (arith, ints)
