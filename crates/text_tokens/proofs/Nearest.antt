-- The number that is computed is the nearest one, and the only one.
use Rattle.text_tokens.proofs.Common.{◌≡◌, ℕ, zero, suc, ◌+◌, ◌-◌, ◌*◌, ◌/◌, ◌^◌, ◌<◌, ◌≤◌, ℤ, pos, negsuc, neg_ℤ, ◌+ℤ◌}
use Rattle.text_tokens.proofs.Common.{◌-ℤ◌, ◌*ℤ◌, ◌≤ℤ◌, ◌<ℤ◌, Bool, true, false, unsigned_abs, sym, ap, subst, arith}
use Rattle.text_tokens.proofs.Common.{Result}
use Rattle.text_tokens.proofs.Common.{Ok, Err, nat_lt, if◌then◌else◌, nat_tests, ints, by_lt_z, nat_le, inl, inr, ◌%◌}
use Rattle.text_tokens.proofs.Common.{div_below, mul-le-mul_right, IsNearest, IsRounded, signed, zeros, places}
use Rattle.text_tokens.proofs.Common.{size_cut}
use Rattle.text_tokens.proofs.Common.{size_at, rounded_size, rounded, Decimal}
use Rattle.std.proofs.lemmas.Bool.{cases_lt}
use Rattle.text_tokens.proofs.Powers.{ten_some}

-- products with a number that isn't negative
times_grows : (a b : ℤ) (u : ℕ) → a ≤ℤ b → (a *ℤ pos u) ≤ℤ (b *ℤ pos u)
times_grows (pos a) (pos b) u le = let h : a * u ≤ b * u = mul-le-mul_right u (omega (arith, ints, le)) in
    omega (arith, ints)
times_grows (pos a) (negsuc b) u le = absurd (omega (arith, ints, le))
times_grows (negsuc a) (pos b) u le = omega (arith, ints)
times_grows (negsuc a) (negsuc b) u le = let h : suc b * u ≤ suc a * u = mul-le-mul_right u (omega (arith, ints, le)) in
    omega (arith, ints)

not_above : (n m x : ℤ) (u : ℕ) → (((pos 2 *ℤ n) -ℤ pos 1) *ℤ pos u) ≤ℤ x → x <ℤ (((pos 2 *ℤ m) +ℤ pos 1) *ℤ pos u) →
    n ≤ℤ m
not_above n m x u low high =
    by_lt_z m n
    (λ lt. let h = times_grows ((pos 2 *ℤ m) +ℤ pos 1) ((pos 2 *ℤ n) -ℤ pos 1) u (omega (arith, ints, lt)) in
    absurd (omega (arith, ints, h, low, high)))
    (λ le. le)

pub only_nearest : (negative : Bool) (digits : ℕ) (power n m : ℤ) → IsNearest negative digits power n →
    IsNearest negative digits power m → n ≡ m
only_nearest negative digits power n m h k =
    let x = pos 2 *ℤ signed negative (digits * 10 ^ zeros power) in
    let le = not_above n m x (10 ^ places power) h.low k.high in
    let ge = not_above m n x (10 ^ places power) k.low h.high in
    omega (arith, ints, le, ge)

-- ---- the number that is computed

two_less_one : (k : ℕ) → (pos 2 *ℤ pos (suc k)) -ℤ pos 1 ≡ pos (2 * k + 1)
two_less_one k = omega (arith, ints)

two_and_one : (k : ℕ) → (pos 2 *ℤ pos k) +ℤ pos 1 ≡ pos (2 * k + 1)
two_and_one k = omega (arith, ints)

minus_less_one : (k : ℕ) → (pos 2 *ℤ negsuc k) -ℤ pos 1 ≡ negsuc (2 * k + 2)
minus_less_one k = omega (arith, ints)

minus_and_one : (k : ℕ) → (pos 2 *ℤ negsuc k) +ℤ pos 1 ≡ negsuc (2 * k)
minus_and_one k = omega (arith, ints)

plus_low : (q u x : ℕ) → 2 * (q * u) ≤ 2 * x + u → (((pos 2 *ℤ pos q) -ℤ pos 1) *ℤ pos u) ≤ℤ (pos 2 *ℤ pos x)
plus_low zero u x h = omega (arith, ints)
plus_low (suc k) u x h =
    let f : (2 * k + 1) * u ≤ 2 * x = grind (arith, h) in
    subst (λ (z : ℤ). (z *ℤ pos u) ≤ℤ (pos 2 *ℤ pos x)) (sym (two_less_one k)) (omega (arith, ints, f))

plus_high : (q u x : ℕ) → 2 * x < 2 * (q * u) + u → (pos 2 *ℤ pos x) <ℤ (((pos 2 *ℤ pos q) +ℤ pos 1) *ℤ pos u)
plus_high q u x h =
    let f : 2 * x < (2 * q + 1) * u = grind (arith, h) in
    subst (λ (z : ℤ). (pos 2 *ℤ pos x) <ℤ (z *ℤ pos u)) (sym (two_and_one q)) (omega (arith, ints, f))

minus_low : (q u x : ℕ) → 2 * x ≤ 2 * (q * u) + u →
    (((pos 2 *ℤ neg_ℤ (pos q)) -ℤ pos 1) *ℤ pos u) ≤ℤ (pos 2 *ℤ neg_ℤ (pos x))
minus_low zero u x h = omega (arith, ints)
minus_low (suc k) u x h =
    let f : 2 * x ≤ suc (2 * k + 2) * u = grind (arith, h) in
    subst (λ (z : ℤ). (z *ℤ pos u) ≤ℤ (pos 2 *ℤ neg_ℤ (pos x))) (sym (minus_less_one k)) (omega (arith, ints, f))

minus_high : (q u x : ℕ) → 2 * (q * u) < 2 * x + u →
    (pos 2 *ℤ neg_ℤ (pos x)) <ℤ (((pos 2 *ℤ neg_ℤ (pos q)) +ℤ pos 1) *ℤ pos u)
minus_high zero u x h = omega (arith, ints)
minus_high (suc k) u x h =
    let f : suc (2 * k) * u < 2 * x = grind (arith, h) in
    subst (λ (z : ℤ). (pos 2 *ℤ neg_ℤ (pos x)) <ℤ (z *ℤ pos u)) (sym (minus_and_one k)) (omega (arith, ints, f))

-- what a quotient says
quotient_low : (a b : ℕ) → 0 < b → a / b * b ≤ a
quotient_low a b some = grind (arith, some)

quotient_high : (a b : ℕ) → 0 < b → a < a / b * b + b
quotient_high a b some = grind (arith, some)

twice : (q u : ℕ) → q * (2 * u) ≡ 2 * (q * u)
twice q u = omega arith

pub nearest_is : (negative : Bool) (digits : ℕ) (power : ℤ) →
    IsNearest negative digits power (signed negative (size_at negative digits power))
nearest_is false digits (pos n) = let x = digits * 10 ^ n in
    record { low = plus_low x 1 x (omega arith); high = plus_high x 1 x (omega arith) }
nearest_is true digits (pos n) = let x = digits * 10 ^ n in
    record { low = minus_low x 1 x (omega arith); high = minus_high x 1 x (omega arith) }
nearest_is false digits (negsuc n) =
    let u = 10 ^ suc n in
    let some = ten_some (suc n) in
    let q = size_cut false digits u in
    let low = quotient_low (2 * digits + u - 0) (2 * u) (omega (arith, some)) in
    let high = quotient_high (2 * digits + u - 0) (2 * u) (omega (arith, some)) in
    let t = twice q u in
    record { low = plus_low q u (digits * 1) (omega arith); high = plus_high q u (digits * 1) (omega arith) }
nearest_is true digits (negsuc n) =
    let u = 10 ^ suc n in
    let some = ten_some (suc n) in
    let q = size_cut true digits u in
    let low = quotient_low (2 * digits + u - 1) (2 * u) (omega (arith, some)) in
    let high = quotient_high (2 * digits + u - 1) (2 * u) (omega (arith, some)) in
    let t = twice q u in
    record { low = minus_low q u (digits * 1) (omega arith); high = minus_high q u (digits * 1) (omega arith) }

pub rounded_is : (d : Decimal) (scale : ℕ) → IsRounded d scale (rounded d scale)
unfolding rounded rounded_size
rounded_is d scale = nearest_is d.negative d.digits (d.exponent +ℤ pos scale)

pub rounded_only : (d : Decimal) (scale : ℕ) (n : ℤ) → IsRounded d scale n → n ≡ rounded d scale
rounded_only d scale n h = only_nearest d.negative d.digits (d.exponent +ℤ pos scale) n (rounded d scale) h
    (rounded_is d scale)

-- ---- the answers of the program

pub size-rounded : (d : Decimal) (scale : ℕ) → unsigned_abs (rounded d scale) ≡ rounded_size d scale
unfolding rounded
size-rounded d scale = size-signed d.negative (rounded_size d scale)
  where
    size-signed : (negative : Bool) (n : ℕ) → unsigned_abs (signed negative n) ≡ n
    size-signed true n = omega (arith, ints)
    size-signed false n = omega (arith, ints)

pub rounded_plus : (d : Decimal) (scale : ℕ) → d.negative ≡ false → rounded d scale ≡ pos (rounded_size d scale)
unfolding rounded
rounded_plus d scale h = ap (λ (b : Bool). signed b (rounded_size d scale)) h

pub rounded_minus : (d : Decimal) (scale : ℕ) → d.negative ≡ true → rounded d scale ≡ neg_ℤ (pos (rounded_size d scale))
unfolding rounded
rounded_minus d scale h = ap (λ (b : Bool). signed b (rounded_size d scale)) h

pub size_right : (d : Decimal) (scale k : ℕ) → pos 0 ≤ℤ (d.exponent +ℤ pos scale) →
    k ≡ unsigned_abs (d.exponent +ℤ pos scale) → rounded_size d scale ≡ d.digits * 10 ^ k
unfolding rounded_size
size_right d scale k le is = at_power (d.exponent +ℤ pos scale) le is
  where
    at_power : (e : ℤ) → pos 0 ≤ℤ e → k ≡ unsigned_abs e → size_at d.negative d.digits e ≡ d.digits * 10 ^ k
    at_power (pos n) le is = ap (λ (j : ℕ). d.digits * 10 ^ j) (sym is)
    at_power (negsuc n) le is = absurd (omega (arith, ints, le))

pub size_left : (d : Decimal) (scale k : ℕ) → (d.exponent +ℤ pos scale) <ℤ pos 0 →
    k ≡ unsigned_abs (d.exponent +ℤ pos scale) → rounded_size d scale ≡ size_cut d.negative d.digits (10 ^ k)
unfolding rounded_size
size_left d scale k lt is = at_power (d.exponent +ℤ pos scale) lt is
  where
    at_power : (e : ℤ) → e <ℤ pos 0 → k ≡ unsigned_abs e →
        size_at d.negative d.digits e ≡ size_cut d.negative d.digits (10 ^ k)
    at_power (pos n) lt is = absurd (omega (arith, ints, lt))
    at_power (negsuc n) lt is = ap (λ (j : ℕ). size_cut d.negative d.digits (10 ^ j)) (sym is)

below_one : (a b : ℕ) → a < b → a / b ≡ 0
below_one a b lt = let h = div_below a b 1 (omega arith) (omega arith) in omega arith

-- where the unit is above twice the digits, nothing is left
pub cut_to_none : (negative : Bool) (digits unit : ℕ) → 2 * digits < unit → size_cut negative digits unit ≡ 0
cut_to_none true digits unit lt = below_one (2 * digits + unit - 1) (2 * unit) (omega arith)
cut_to_none false digits unit lt = below_one (2 * digits + unit - 0) (2 * unit) (omega arith)

-- the answer is an error exactly where the magnitude is above the limit
pub refused : {X E : Type 0} (limit n : ℕ) (e : E) (x : X) → (n ≤ limit → ⊥) →
    Err e ≡ (if nat_lt limit n then Err e else Ok x)
refused {X} {E} limit n e x above =
    let t : nat_lt limit n ≡ true = omega_test limit n above in
    let err : Result X E = Err e in
    ap (λ (b : Bool). if b then err else Ok x) (sym t)
  where
    omega_test : (a b : ℕ) → (b ≤ a → ⊥) → nat_lt a b ≡ true
    omega_test a b above = grind (arith, nat_tests, above)

pub answered : {X E : Type 0} (limit n : ℕ) (e : E) (x : X) → n ≤ limit →
    Ok x ≡ (if nat_lt limit n then Err e else Ok x)
answered {X} {E} limit n e x within =
    let t : nat_lt limit n ≡ false = omega_test limit n within in
    let ok : Result X E = Ok x in
    ap (λ (b : Bool). if b then Err e else ok) (sym t)
  where
    omega_test : (a b : ℕ) → b ≤ a → nat_lt a b ≡ false
    omega_test a b within = grind (arith, nat_tests, within)

-- ---- the quotient and the remainder

quotient_is : (a b q : ℕ) → q * b ≤ a → a < q * b + b → a / b ≡ q
quotient_is a b q low high =
    let some : 0 < b = omega arith in
    let l = quotient_low a b some in
    let h = quotient_high a b some in
    same_quotient (a / b) q b some (omega arith) (omega arith)
  where
    same_quotient : (p q b : ℕ) → 0 < b → p * b < q * b + b → q * b < p * b + b → p ≡ q
    same_quotient p q b some less more = same_by (below p q b some less) (below q p b some more)
      where
        below : (p q b : ℕ) → 0 < b → p * b < q * b + b → p ≤ q
        below p q b some less = elim (cases_lt q p) [
          | inl lt ↦ let m : suc q * b ≤ p * b = mul-le-mul_right b lt in
              absurd (omega arith)
          | inr le ↦ le
        ]

        same_by : {p q : ℕ} → p ≤ q → q ≤ p → p ≡ q
        same_by l m = omega arith

parts : (d u : ℕ) → 0 < u → (d / u * u + d % u ≡ d) × (d % u < u)
parts d u some = (grind (arith, some), omega arith)

at_least : (a b : ℕ) → nat_le a b ≡ true → a ≤ b
at_least a b t = grind (arith, nat_tests, t)

above : (a b : ℕ) → nat_lt a b ≡ true → a < b
above a b t = grind (arith, nat_tests, t)

not_at_least : (a b : ℕ) → nat_le a b ≡ false → b < a
not_at_least a b t = grind (arith, nat_tests, t)

not_above_test : (a b : ℕ) → nat_lt a b ≡ false → b ≤ a
not_above_test a b t = grind (arith, nat_tests, t)

one_more : (q u : ℕ) → (q + 1) * (2 * u) ≡ 2 * (q * u) + 2 * u
one_more q u = omega arith

pub cut_up : (negative : Bool) (d u : ℕ) → 0 < u →
    (if negative then nat_lt u (2 * (d % u)) else nat_le u (2 * (d % u))) ≡ true → d / u + 1 ≡ size_cut negative d u
cut_up true d u some t =
    let p = parts d u some in
    let r = above u (2 * (d % u)) t in
    let e = one_more (d / u) u in
    sym (quotient_is (2 * d + u - 1) (2 * u) (d / u + 1) (omega (arith, p.0, p.1)) (omega (arith, p.0, p.1)))
cut_up false d u some t =
    let p = parts d u some in
    let r = at_least u (2 * (d % u)) t in
    let e = one_more (d / u) u in
    sym (quotient_is (2 * d + u - 0) (2 * u) (d / u + 1) (omega (arith, p.0, p.1)) (omega (arith, p.0, p.1)))

pub cut_down : (negative : Bool) (d u : ℕ) → 0 < u →
    (if negative then nat_lt u (2 * (d % u)) else nat_le u (2 * (d % u))) ≡ false → d / u ≡ size_cut negative d u
cut_down true d u some t =
    let p = parts d u some in
    let r = not_above_test u (2 * (d % u)) t in
    let e = twice (d / u) u in
    sym (quotient_is (2 * d + u - 1) (2 * u) (d / u) (omega (arith, p.0, p.1)) (omega (arith, p.0, p.1)))
cut_down false d u some t =
    let p = parts d u some in
    let r = not_at_least u (2 * (d % u)) t in
    let e = twice (d / u) u in
    sym (quotient_is (2 * d + u - 0) (2 * u) (d / u) (omega (arith, p.0, p.1)) (omega (arith, p.0, p.1)))
