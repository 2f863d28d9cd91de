-- A number is read back from its digits, and the digits are those that std writes.
use Rattle.report_form.proofs.Common.{◌≡◌, ℕ, zero, suc, ◌+◌, ◌-◌, ◌*◌, ◌<◌, ◌≤◌, ◌^◌, ◌/◌, ◌%◌, ℤ, pos, negsuc, Bool}
use Rattle.report_form.proofs.Common.{true, false, cond, inl, inr, nat_lt, List, [], ◌∷◌, ◌++◌, refl, sym, ap, ◌∙◌}
use Rattle.report_form.proofs.Common.{subst, arith, decimal, Fits, FitsSigned, w32, w64, w128, nat_tests, digits_up_to}
use Rattle.report_form.proofs.Common.{numeral, signed_numeral}
use Rattle.std.specs.Fmt.{signed_decimal}
use Rattle.std.proofs.lemmas.Bool.{cases_lt}
use Rattle.std.proofs.lemmas.Fmt.{decimal_by_steps_wide}

small : (n : ℕ) → n < 10 → nat_lt n 10 ≡ true
small n h = grind (arith, nat_tests)

large : (n : ℕ) → 10 ≤ n → nat_lt n 10 ≡ false
large n h = grind (arith, nat_tests)

one_digit : (most n : ℕ) → n < 10 → digits_up_to (suc most) n ≡ (48 + n) ∷ []
one_digit most n h = ap (λ (b : Bool). cond b ((48 + n) ∷ []) (digits_up_to most (n / 10) ++ (48 + n % 10) ∷ []))
    (small n h)

more_digits : (most n : ℕ) → 10 ≤ n → digits_up_to (suc most) n ≡ digits_up_to most (n / 10) ++ (48 + n % 10) ∷ []
more_digits most n h = ap (λ (b : Bool). cond b ((48 + n) ∷ []) (digits_up_to most (n / 10) ++ (48 + n % 10) ∷ []))
    (large n h)

-- ---- digits

abbrev pub AreDigits : List ℕ → Type 0
AreDigits [] = Unit {0}
AreDigits (c ∷ cs) = (48 ≤ c) × AreDigits cs

digits_push : (cs : List ℕ) (c : ℕ) → AreDigits cs → 48 ≤ c → AreDigits (cs ++ c ∷ [])
digits_push [] c h l = (l, tt)
digits_push (d ∷ ds) c h l = (h.0, digits_push ds c h.1 l)

digits_are : (most n : ℕ) → AreDigits (digits_up_to most n)
digits_are zero n = tt
digits_are (suc most) n =
    elim (cases_lt n 10) [
      | inl low ↦ subst AreDigits (sym (one_digit most n low)) (omega arith, tt)
      | inr high ↦ subst AreDigits (sym (more_digits most n high))
          (digits_push (digits_up_to most (n / 10)) (48 + n % 10) (digits_are most (n / 10)) (omega arith))
    ]

pub numeral_digits : (n : ℕ) → AreDigits (numeral n)
unfolding numeral
numeral_digits n = digits_are (suc n) n

-- ---- what they stand for

value_from : ℕ → List ℕ → ℕ
value_from a [] = a
value_from a (c ∷ cs) = value_from (10 * a + (c - 48)) cs

value_push : (a : ℕ) (cs : List ℕ) (c : ℕ) → value_from a (cs ++ c ∷ []) ≡ 10 * value_from a cs + (c - 48)
unfolding value_from
value_push a [] c = refl
value_push a (d ∷ ds) c = value_push (10 * a + (d - 48)) ds c

value_is : (most n : ℕ) → n < most → value_from 0 (digits_up_to most n) ≡ n
unfolding value_from
value_is zero n h = absurd (omega arith)
value_is (suc most) n h =
    elim (cases_lt n 10) [
      | inl low ↦ ap (value_from 0) (one_digit most n low) ∙ omega arith
      | inr high ↦
          let e = value_is most (n / 10) (omega arith) in
          let last = value_push 0 (digits_up_to most (n / 10)) (48 + n % 10) in
          ap (value_from 0) (more_digits most n high) ∙ omega (arith, e, last)
    ]

pub numeral_same : (m n : ℕ) → numeral m ≡ numeral n → m ≡ n
unfolding numeral
numeral_same m n e = sym (value_is (suc m) m (omega arith)) ∙ ap (value_from 0) e ∙ value_is (suc n) n (omega arith)

-- ---- the digits that std writes

enough : (j k n : ℕ) → n < j → n < k → digits_up_to j n ≡ digits_up_to k n
enough zero k n p q = absurd (omega arith)
enough (suc j) zero n p q = absurd (omega arith)
enough (suc j) (suc k) n p q =
    elim (cases_lt n 10) [
      | inl low ↦ one_digit j n low ∙ sym (one_digit k n low)
      | inr high ↦ more_digits j n high ∙ ap (λ (ds : List ℕ). ds ++ (48 + n % 10) ∷ [])
          (enough j k (n / 10) (omega arith) (omega arith)) ∙ sym (more_digits k n high)
    ]

decimal_is : (n : ℕ) → n < 10 ^ 64 → decimal n ≡ numeral n
unfolding numeral
decimal_is n h =
    decimal_by_steps_wide (λ (k : ℕ) (ds : List ℕ). ds ≡ digits_up_to (suc k) k) (λ k low. sym (one_digit k k low))
    (λ k ds high e.
    ap (λ (cs : List ℕ). cs ++ (48 + k % 10) ∷ []) (e ∙ enough (suc (k / 10)) k (k / 10) (omega arith) (omega arith)) ∙
    sym (more_digits k k high)) n h

pub count_is : (n : ℕ) → Fits w32 n → decimal n ≡ numeral n
count_is n h = decimal_is n (omega arith)

pub wide_count_is : (n : ℕ) → Fits w64 n → decimal n ≡ numeral n
wide_count_is n h = decimal_is n (omega arith)

pub number_is : (z : ℤ) → FitsSigned w64 z → signed_decimal z ≡ signed_numeral z
number_is (pos n) h = decimal_is n (omega arith)
number_is (negsuc n) h = ap (λ (ds : List ℕ). 45 ∷ ds) (decimal_is (suc n) (omega arith))

pub amount_is : (z : ℤ) → FitsSigned w128 z → signed_decimal z ≡ signed_numeral z
amount_is (pos n) h = decimal_is n (omega arith)
amount_is (negsuc n) h = ap (λ (ds : List ℕ). 45 ∷ ds) (decimal_is (suc n) (omega arith))
