-- The best power at a price: all where it is paid for, else as little as allowed.
use Rattle.flat_answer.proofs.Common.{◌≡◌, ℕ, ℤ, pos, ◌+ℤ◌, ◌-ℤ◌, ◌*ℤ◌, ◌≤ℤ◌, ◌<ℤ◌, arith, ints, *ℤ_comm, *ℤ-zero}
use Rattle.flat_answer.proofs.Common.{IsLeastBest, IsBetween, sold_at, mul-sub, mul-mono_of}

mul-one : (z : ℤ) → z *ℤ pos 1 ≡ z
mul-one z = omega (arith, ints)

-- a product with a factor that isn't above 0 falls
pub mul-fall : (a b c : ℤ) → a ≤ℤ pos 0 → b ≤ℤ c → (a *ℤ c) ≤ℤ (a *ℤ b)
mul-fall a b c h i =
    let d = mul-sub a c b in
    let turn = *ℤ_comm a (c -ℤ b) in
    let rise : pos 0 ≤ℤ (c -ℤ b) = omega (arith, ints) in
    let low = mul-mono_of (c -ℤ b) a (pos 0) rise h in
    let none = *ℤ-zero (c -ℤ b) in
    omega (arith, ints, d, turn, low, none)

pub sub-mul : (a b c : ℤ) → (a -ℤ b) *ℤ c ≡ (a *ℤ c) -ℤ (b *ℤ c)
sub-mul a b c = let d = mul-sub c a b in omega (arith, ints, d, *ℤ_comm (a -ℤ b) c, *ℤ_comm a c, *ℤ_comm b c)

-- and one with a factor above 0 rises by at least the other's rise
pub mul-rise : (a b c : ℤ) → pos 0 <ℤ a → b ≤ℤ c → ((a *ℤ b) +ℤ (c -ℤ b)) ≤ℤ (a *ℤ c)
mul-rise a b c h i =
    let d = mul-sub a c b in
    let turn = *ℤ_comm a (c -ℤ b) in
    let rise : pos 0 ≤ℤ (c -ℤ b) = omega (arith, ints) in
    let one : pos 1 ≤ℤ a = omega (arith, ints) in
    let low = mul-mono_of (c -ℤ b) (pos 1) a rise one in
    let unit = mul-one (c -ℤ b) in
    omega (arith, ints, d, turn, low, unit)

pub sold_all : (least most price : ℤ) (power : ℕ) → pos 0 <ℤ price → least ≤ℤ most → pos power ≡ most →
    IsLeastBest (IsBetween least most) (sold_at price) power
sold_all least most price power paid range is = record {
  allowed = (omega (arith, ints), omega (arith, ints));
  greatest = λ other h. let top = h.1 in let rise = mul-rise price (pos other) (pos power) paid (omega (arith, ints)) in
      omega (arith, ints, rise);
  least = λ other h e. let top = h.1 in let rise = mul-rise price (pos other) (pos power) paid (omega (arith, ints)) in
      omega (arith, ints, rise, e);
}

pub sold_least : (least most price : ℤ) (power : ℕ) → price ≤ℤ pos 0 → least ≤ℤ most → pos power ≡ least →
    IsLeastBest (IsBetween least most) (sold_at price) power
sold_least least most price power unpaid range is = record {
  allowed = (omega (arith, ints), omega (arith, ints));
  greatest = λ other h. let low = h.0 in mul-fall price (pos power) (pos other) unpaid (omega (arith, ints));
  least = λ other h e. let low = h.0 in omega (arith, ints);
}
