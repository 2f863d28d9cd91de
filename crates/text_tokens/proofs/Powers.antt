-- Powers of ten, and numbers that are multiples of one.
use Rattle.text_tokens.proofs.Common.{◌≡◌, ℕ, zero, suc, ◌+◌, ◌*◌, ◌/◌, ◌%◌, ◌^◌, ◌<◌, ◌≤◌, ℤ, pos, negsuc, ◌≤ℤ◌, ◌<ℤ◌}
use Rattle.text_tokens.proofs.Common.{unsigned_abs, sym, ap, subst, ◌∙◌, arith, lit<, ints, pow-le-pow_right}
use Rattle.text_tokens.proofs.Common.{one-le-pow}
use Rattle.text_tokens.proofs.Common.{mod-mul-add, Bool, true, nat_eq, nat_tests, same_from_decides, IsWholeValue}
use Rattle.text_tokens.proofs.Common.{is_whole_value, zeros, places}

pub ten_up : (i j : ℕ) → i ≤ j → 10 ^ i ≤ 10 ^ j
ten_up i j le = pow-le-pow_right {n = 10} (lit< tt) le

pub ten_some : (i : ℕ) → 1 ≤ 10 ^ i
ten_some i = one-le-pow i 10 (lit< tt)

multiple_small : (n p digits : ℕ) → n * p ≡ digits → digits < p → digits ≡ 0
multiple_small zero p digits e lt = omega arith
multiple_small (suc n) p digits e lt = grind (arith, e, lt)

pub whole_right : (digits : ℕ) (e : ℤ) → pos 0 ≤ℤ e → IsWholeValue digits e
whole_right digits (pos n) le = (digits * 10 ^ n, omega arith)
whole_right digits (negsuc n) le = absurd (omega (arith, ints))

pub whole_far : (digits : ℕ) (e : ℤ) (k : ℕ) → e <ℤ pos 0 → k ≡ unsigned_abs e → 38 < k → digits < 2 ^ 128 →
    IsWholeValue digits e → digits ≡ 0
whole_far digits (pos n) k lt is far small w = absurd (omega (arith, ints))
whole_far digits (negsuc n) k lt is far small w =
    let up : 10 ^ 39 ≤ 10 ^ suc n = ten_up 39 (suc n) (omega arith) in
    multiple_small w.0 (10 ^ suc n) digits (omega (arith, w.1)) (omega arith)

pub whole_none : (digits : ℕ) (e : ℤ) → e <ℤ pos 0 → digits ≡ 0 → IsWholeValue digits e
whole_none digits (pos n) lt none = absurd (omega (arith, ints))
whole_none digits (negsuc n) lt none = (0, omega arith)

mod_of_multiple : (n p digits : ℕ) → 0 < p → n * p ≡ digits → digits % p ≡ 0
mod_of_multiple n p digits some e = let m = mod-mul-add n p 0 some in let f : n * p + 0 ≡ digits = omega arith in
    subst (λ (d : ℕ). d % p ≡ 0) f m

pub whole_is_multiple : (digits : ℕ) (e : ℤ) (k p : ℕ) → e <ℤ pos 0 → k ≡ unsigned_abs e → p ≡ 10 ^ k →
    IsWholeValue digits e → digits % p ≡ 0
whole_is_multiple digits (pos n) k p lt is power w = absurd (omega (arith, ints))
whole_is_multiple digits (negsuc n) k p lt is power w =
    let q : p ≡ 10 ^ suc n = power ∙ ap (λ (j : ℕ). 10 ^ j) is in
    subst (λ (m : ℕ). digits % m ≡ 0) (sym q)
    (mod_of_multiple w.0 (10 ^ suc n) digits (omega (arith, ten_some (suc n))) (omega (arith, w.1)))

pub multiple_is_whole : (digits : ℕ) (e : ℤ) (k p : ℕ) → e <ℤ pos 0 → k ≡ unsigned_abs e → p ≡ 10 ^ k → digits % p ≡ 0 →
    IsWholeValue digits e
multiple_is_whole digits (pos n) k p lt is power none = absurd (omega (arith, ints))
multiple_is_whole digits (negsuc n) k p lt is power none =
    let q : p ≡ 10 ^ suc n = power ∙ ap (λ (j : ℕ). 10 ^ j) is in
    let z : digits % 10 ^ suc n ≡ 0 = subst (λ (m : ℕ). digits % m ≡ 0) q none in
    (digits / 10 ^ suc n, by_parts digits (10 ^ suc n) (omega (arith, ten_some (suc n))) z)
  where
    by_parts : (d m : ℕ) → 0 < m → d % m ≡ 0 → d / m * m ≡ d * 1
    by_parts d m some z = grind (arith, some, z)

-- ---- the test says the same

quotient_times : (d m : ℕ) → 0 < m → d % m ≡ 0 → d / m * m ≡ d
quotient_times d m some z = grind (arith, some, z)

value_if_test : (digits : ℕ) (e : ℤ) → is_whole_value digits e ≡ true → IsWholeValue digits e
value_if_test digits e t = let all = digits * 10 ^ zeros e in let p = 10 ^ places e in
    (all / p, quotient_times all p (ten_some (places e)) (zero_if_test (all % p) t))
  where
    zero_if_test : (r : ℕ) → nat_eq r 0 ≡ true → r ≡ 0
    zero_if_test r t = grind (arith, nat_tests, t)

test_if_value : (digits : ℕ) (e : ℤ) → IsWholeValue digits e → is_whole_value digits e ≡ true
test_if_value digits e w = test_if_zero ((digits * 10 ^ zeros e) % 10 ^ places e)
    (mod_of_multiple w.0 (10 ^ places e) (digits * 10 ^ zeros e) (ten_some (places e)) w.1)
  where
    test_if_zero : (r : ℕ) → r ≡ 0 → nat_eq r 0 ≡ true
    test_if_zero r z = grind (arith, nat_tests, z)

pub same_test : (r : Bool) (digits : ℕ) (e : ℤ) →
    (r ≡ true → IsWholeValue digits e) × (IsWholeValue digits e → r ≡ true) → r ≡ is_whole_value digits e
same_test r digits e exact =
    same_from_decides r (is_whole_value digits e) exact (value_if_test digits e, test_if_value digits e)
