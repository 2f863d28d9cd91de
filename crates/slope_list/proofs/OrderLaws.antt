-- What the order of some numbers says of others.
use Rattle.slope_list.proofs.Common.{◌<◌, ◌≤◌, arith, ℤ, ◌≤ℤ◌, ◌<ℤ◌, ints}

pub same_le : (x : ℤ) → x ≤ℤ x
same_le x = omega (arith, ints)

pub le_lt : (x y z : ℤ) → x ≤ℤ y → y <ℤ z → x ≤ℤ z
le_lt x y z h l = omega (arith, ints)

pub le_trans : (x y z : ℤ) → x ≤ℤ y → y ≤ℤ z → x ≤ℤ z
le_trans x y z h l = omega (arith, ints)

pub lt_le_trans : (x y z : ℤ) → x <ℤ y → y ≤ℤ z → x <ℤ z
lt_le_trans x y z h l = omega (arith, ints)
