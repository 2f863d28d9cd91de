-- How the value of digits grows.
use Rattle.text_tokens.proofs.Common.{◌≡◌, ◌≢◌, ℕ, zero, suc, ◌+◌, ◌-◌, ◌*◌, ◌^◌, ◌<◌, ◌≤◌, true, List, [], ◌∷◌, length}
use Rattle.text_tokens.proofs.Common.{get_or, drop, drop-cons, refl, ap, subst, ◌∙◌, arith, inl, inr, lit<, cases_lt}
use Rattle.text_tokens.proofs.Common.{nat_tests, eqb_tells, length-drop, drop_all, is_ascii_digit, AreDigits}
use Rattle.text_tokens.proofs.Common.{value_from, value, significant}
use Rattle.std.proofs.Math.Nat.{pow-suc, mul-le-mul_right, mul-le-mul_left, pow-le-pow_right, one-le-pow}

pub digit_range : (b : ℕ) → is_ascii_digit b ≡ true → (48 ≤ b) × (b ≤ 57)
digit_range b h = grind (arith, nat_tests)

-- a value is at least what stands before
grow_step : (n d p v : ℕ) → (10 * n + d) * p ≤ v → n * (p * 10) ≤ v
grow_step n d p v h = grind (arith, h)

below_step : (n d p v : ℕ) → d ≤ 9 → v < (10 * n + d + 1) * p → v < (n + 1) * (p * 10)
below_step n d p v le h = grind (arith, h)

-- a value is at least what stands before, and below the next
value_grows : (n : ℕ) (bs : List ℕ) → n * 10 ^ length bs ≤ value_from n bs
value_grows n [] = omega arith
value_grows n (b ∷ bs) = rw (pow-suc 10 (length bs))
    (grow_step n (b - 48) (10 ^ length bs) (value_from (10 * n + (b - 48)) bs) (value_grows (10 * n + (b - 48)) bs))

value_below : (n : ℕ) (bs : List ℕ) → AreDigits bs → value_from n bs < (n + 1) * 10 ^ length bs
value_below n [] h = omega arith
value_below n (b ∷ bs) h = let r = digit_range b h.0 in
    rw (pow-suc 10 (length bs)) (below_step n (b - 48) (10 ^ length bs) (value_from (10 * n + (b - 48)) bs)
    (omega arith) (value_below (10 * n + (b - 48)) bs h.1))

zero_times : (d : ℕ) → 10 * 0 + d ≡ d
zero_times d = omega arith

one_times : (n : ℕ) → 1 * n ≡ n
one_times n = omega arith

-- ---- the digits behind the leading zeros

at_least_once : (d p : ℕ) → 1 ≤ d → p ≤ (10 * 0 + d) * p
at_least_once d p some = let h : 1 * p ≤ d * p = mul-le-mul_right p some in
    let e : (10 * 0 + d) * p ≡ d * p = ap (λ (k : ℕ). k * p) (zero_times d) in omega arith

long_value : (b : ℕ) (bs : List ℕ) → is_ascii_digit b ≡ true → b ≢ 48 → 10 ^ length bs ≤ value (b ∷ bs)
long_value b bs h no_zero = let r = digit_range b h in let v = value_grows (10 * 0 + (b - 48)) bs in
    let p : 10 ^ length bs ≤ (10 * 0 + (b - 48)) * 10 ^ length bs =
    at_least_once (b - 48) (10 ^ length bs) (omega arith) in omega arith

le_trans : (a b c : ℕ) → a ≤ b → b ≤ c → a ≤ c
le_trans a b c h k = omega arith

not_both : (a b c : ℕ) → a < b → b ≤ c → c ≤ a → ⊥
not_both a b c h k l = omega arith

pub many_make_large : (bs : List ℕ) → AreDigits bs → 30 < length (significant bs) → 10 ^ 30 ≤ value bs
many_make_large [] h many = absurd (omega arith)
many_make_large (b ∷ bs) h many =
    elim (eqb_tells b 48) [
      | inl is ↦
          let sig : significant (b ∷ bs) ≡ significant bs = rw is.0 refl in
          let val : value (b ∷ bs) ≡ value bs = ap (λ (n : ℕ). value_from n bs) (omega (arith, is.1)) in
          rw val (many_make_large bs h.1 (subst (λ (ds : List ℕ). 30 < length ds) sig many))
      | inr is ↦
          let sig : significant (b ∷ bs) ≡ b ∷ bs = rw is.0 refl in
          let long : 30 < length (b ∷ bs) = subst (λ (ds : List ℕ). 30 < length ds) sig many in
          let power : 10 ^ 30 ≤ 10 ^ length bs =
          pow-le-pow_right {n = 10} (lit< tt) {i = 30} {j = length bs} (omega arith) in
          let v = long_value b bs h.0 is.1 in
          le_trans (10 ^ 30) (10 ^ length bs) (value (b ∷ bs)) power v
    ]

few_make_small : (bs : List ℕ) → AreDigits bs → value bs < 10 ^ length (significant bs)
few_make_small [] h = omega arith
few_make_small (b ∷ bs) h =
    elim (eqb_tells b 48) [
      | inl is ↦
          let sig : significant (b ∷ bs) ≡ significant bs = rw is.0 refl in
          let val : value (b ∷ bs) ≡ value bs = ap (λ (n : ℕ). value_from n bs) (omega (arith, is.1)) in
          rw (val, sig) (few_make_small bs h.1)
      | inr is ↦
          let sig : significant (b ∷ bs) ≡ b ∷ bs = rw is.0 refl in
          let v = value_below 0 (b ∷ bs) h in
          rw sig (subst (λ (n : ℕ). value (b ∷ bs) < n) (one_times (10 ^ length (b ∷ bs))) v)
    ]

pub large_has_many : (bs : List ℕ) → AreDigits bs → 10 ^ 30 ≤ value bs → 30 < length (significant bs)
large_has_many bs h large =
    elim (cases_lt 30 (length (significant bs))) [
      | inl lt ↦ lt
      | inr le ↦
          let power : 10 ^ length (significant bs) ≤ 10 ^ 30 = pow-le-pow_right {n = 10} (lit< tt) le in
          let small = few_make_small bs h in
          absurd (not_both (value bs) (10 ^ length (significant bs)) (10 ^ 30) small power large)
    ]

-- ---- a loop over the digits

pub digit_at : (bs : List ℕ) (i : ℕ) → AreDigits bs → i < length bs → (48 ≤ get_or bs i 0) × (get_or bs i 0 ≤ 57)
digit_at [] i h lt = absurd (omega arith)
digit_at (b ∷ bs) zero h lt = digit_range b h.0
digit_at (b ∷ bs) (suc i) h lt = digit_at bs i h.1 (omega arith)

suc_is : (i : ℕ) → suc i ≡ i + 1
suc_is i = omega arith

pub value_step : (n : ℕ) (bs : List ℕ) (i : ℕ) → i < length bs →
    value_from n (drop i bs) ≡ value_from (10 * n + (get_or bs i 0 - 48)) (drop (i + 1) bs)
value_step n bs i lt = ap (value_from n) (drop-cons bs i 0 lt) ∙
    ap (λ (k : ℕ). value_from (10 * n + (get_or bs i 0 - 48)) (drop k bs)) (suc_is i)

-- where a digit is left, a value of 30 digits becomes longer
longer : (n p v : ℕ) → 10 ^ 29 ≤ n → 1 ≤ p → n * (p * 10) ≤ v → 10 ^ 30 ≤ v
longer n p v large some h = let q : n * 10 ≤ n * (p * 10) = mul-le-mul_left n (omega arith) in omega arith

pub one_more_is_large : (n : ℕ) (bs : List ℕ) (i : ℕ) → i < length bs → 10 ^ 29 ≤ n → 10 ^ 30 ≤ value_from n (drop i bs)
one_more_is_large n bs i lt large =
    let v = value_grows n (drop i bs) in
    let l : length (drop i bs) ≡ suc (length bs - (i + 1)) = omega (arith, length-drop i bs) in
    let w : n * (10 ^ (length bs - (i + 1)) * 10) ≤ value_from n (drop i bs) =
    subst (λ (k : ℕ). n * k ≤ value_from n (drop i bs))
    (ap (λ (k : ℕ). 10 ^ k) l ∙ pow-suc 10 (length bs - (i + 1))) v in
    longer n (10 ^ (length bs - (i + 1))) (value_from n (drop i bs)) large
    (one-le-pow (length bs - (i + 1)) 10 (lit< tt)) w

pub grows : (n : ℕ) (bs : List ℕ) → n ≤ value_from n bs
grows n [] = omega arith
grows n (b ∷ bs) = let r = grows (10 * n + (b - 48)) bs in omega arith

pub no_more : (n : ℕ) (bs : List ℕ) (i : ℕ) → length bs ≤ i → value_from n (drop i bs) ≡ n
no_more n bs i le = ap (value_from n) (drop_all i bs le)

pub is_short : (bs : List ℕ) → AreDigits bs → value bs < 10 ^ 30 → length (significant bs) ≤ 30
is_short bs h small =
    elim (cases_lt 30 (length (significant bs))) [
      | inl lt ↦ let l = many_make_large bs h lt in absurd (omega arith)
      | inr le ↦ le
    ]

pub goes_above : (limit n : ℕ) (bs : List ℕ) (total : ℕ) → limit < n → value_from n bs ≡ total → limit < total
goes_above limit n bs total lt e = let g = grows n bs in omega arith
