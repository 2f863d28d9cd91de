-- Products and sums within bounds.
use Rattle.gap_proof.proofs.Common.{◌≡◌, ℕ, ◌+◌, ◌*◌, ◌^◌, ◌<◌, ◌≤◌, FitsSigned, ℤ, pos, ◌+ℤ◌, ◌*ℤ◌, arith, ints}
use Rattle.gap_proof.proofs.Common.{mul-le-mul_right, w128, IsFrom, mul-add, *ℤ_comm, suc_ℤ-*ℤ, zero-*ℤ, IsWithin}
use Rattle.gap_proof.proofs.Common.{fits_within, floor_div}
use Rattle.std.specs.Prelude.{negsuc}
use Rattle.std.proofs.Math.Nat.{div-le_self}
use mir.Val.{hbits}

pub add-mul : (a b c : ℤ) → (a +ℤ b) *ℤ c ≡ (a *ℤ c) +ℤ (b *ℤ c)
add-mul a b c =
    let e = *ℤ_comm (a +ℤ b) c in let f = mul-add c a b in let g = *ℤ_comm c a in let h = *ℤ_comm c b in
    omega (arith, ints, e, f, g, h)

pub one_mul : (b : ℤ) → pos 1 *ℤ b ≡ b
one_mul b = let e = suc_ℤ-*ℤ (pos 0) b in let f = zero-*ℤ b in omega (arith, ints, e, f)

pub within_both : (n : ℕ) (z : ℤ) → IsFrom (pos 0) (pos n) z → IsWithin n z
within_both n z h = let a = h.at_least in let b = h.at_most in record { at_least = omega (arith, ints, a); at_most = b }

-- a sum of n numbers with one more
pub record IsStep (bound : ℕ) (z : ℤ) : Type 0 where
  pub within : IsWithin bound z
  pub fits : FitsSigned w128 z

pub sum_step : (c n most : ℕ) (sum x : ℤ) → IsWithin (n * c) sum → IsWithin c x → n < most → most * c < 2 ^ hbits w128 →
    IsStep ((n + 1) * c) (sum +ℤ x)
sum_step c n most sum x h i lt low =
    let a = h.at_least in let b = h.at_most in let d = i.at_least in let e = i.at_most in
    let more : (n + 1) * c ≡ n * c + c = omega arith in
    let within : IsWithin ((n + 1) * c) (sum +ℤ x) =
    record { at_least = omega (arith, ints, a, d, more); at_most = omega (arith, ints, b, e, more) } in
    let few : (n + 1) * c ≤ most * c = mul-le-mul_right c (let l : n + 1 ≤ most = omega (arith, lt) in l) in
    record { within = within; fits = fits_within w128 ((n + 1) * c) (sum +ℤ x) within (omega (arith, few, low)) }

-- a quotient that is rounded down isn't larger than what is divided
pub quotient_within : (n w : ℕ) (a : ℤ) → IsWithin n a → IsWithin n (floor_div a w)
quotient_within n w (pos a) h =
    let b = h.at_most in
    let d = div-le_self a w in
    record { at_least = omega (arith, ints); at_most = omega (arith, ints, b, d) }
quotient_within n w (negsuc a) h =
    let b = h.at_least in
    let d = div-le_self a w in
    record { at_least = omega (arith, ints, b, d); at_most = omega (arith, ints) }
