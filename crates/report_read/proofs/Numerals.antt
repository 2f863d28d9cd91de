-- Numbers in digits: what is taken is the numeral of a number, and the numeral of a number is read again.
use Rattle.report_read.proofs.Common.{◌≡◌, ◌≢◌, ℕ, zero, suc, ◌+◌, ◌-◌, ◌*◌, ◌<◌, ◌≤◌, ◌/◌, ◌%◌, ℤ, pos, negsuc, Bool}
use Rattle.report_read.proofs.Common.{true, false, cond, nat_lt, nat_le, ◌==◌, ◌&&◌, List, [], ◌∷◌, ◌++◌, Some, None}
use Rattle.report_read.proofs.Common.{refl, sym, ap, ◌∙◌, subst, arith, append_assoc, inl, inr, int_le, ◌≤ℤ◌, le_z_yes}
use Rattle.report_read.proofs.Common.{T_from_true, cases_lt, ne_eqb, ints, nat_tests, IsFrom, digits_up_to, numeral}
use Rattle.report_read.proofs.Common.{signed_numeral, ◌>>=◌, is_ascii_digit, digits_from, numeral_at, count_between}
use Rattle.report_read.proofs.Common.{count_at, negative, signed_at, integer_between, integer_at}
use Rattle.report_read.proofs.Reading.{bind_some, if_some, some_is, is_inline, inline_append, Stops, IsReader}

small : (n : ℕ) → n < 10 → nat_lt n 10 ≡ true
small n h = grind (arith, nat_tests)

large : (n : ℕ) → 10 ≤ n → nat_lt n 10 ≡ false
large n h = grind (arith, nat_tests)

one_digit : (most n : ℕ) → n < 10 → digits_up_to (suc most) n ≡ (48 + n) ∷ []
one_digit most n h = ap (λ (b : Bool). cond b ((48 + n) ∷ []) (digits_up_to most (n / 10) ++ (48 + n % 10) ∷ []))
    (small n h)

more_digits : (most n : ℕ) → 10 ≤ n → digits_up_to (suc most) n ≡ digits_up_to most (n / 10) ++ (48 + n % 10) ∷ []
more_digits most n h = ap (λ (b : Bool). cond b ((48 + n) ∷ []) (digits_up_to most (n / 10) ++ (48 + n % 10) ∷ []))
    (large n h)

-- more room for digits changes nothing
enough : (j k n : ℕ) → n < j → n < k → digits_up_to j n ≡ digits_up_to k n
enough zero k n p q = absurd (omega arith)
enough (suc j) zero n p q = absurd (omega arith)
enough (suc j) (suc k) n p q =
    elim (cases_lt n 10) [
      | inl low ↦ one_digit j n low ∙ sym (one_digit k n low)
      | inr high ↦ more_digits j n high ∙ ap (λ (ds : List ℕ). ds ++ (48 + n % 10) ∷ [])
          (enough j k (n / 10) (omega arith) (omega arith)) ∙ sym (more_digits k n high)
    ]

is_digit_true : (d : ℕ) → d < 10 → is_ascii_digit (48 + d) ≡ true
is_digit_true d h = grind (arith, nat_tests)

digit_range : (b : ℕ) → is_ascii_digit b ≡ true → (48 ≤ b) × (b ≤ 57)
digit_range b h = (grind (arith, nat_tests), grind (arith, nat_tests))

-- a digit behind a number that isn't 0
numeral_push : (n d : ℕ) → 0 < n → d < 10 → numeral (10 * n + d) ≡ numeral n ++ (48 + d) ∷ []
unfolding numeral
numeral_push n d p q =
    let tenth : (10 * n + d) / 10 ≡ n = omega arith in
    let last : (10 * n + d) % 10 ≡ d = omega arith in
    more_digits (10 * n + d) (10 * n + d) (omega arith)
    ∙ ap (λ (k : ℕ). digits_up_to (10 * n + d) k ++ (48 + (10 * n + d) % 10) ∷ []) tenth
    ∙ ap (λ (k : ℕ). digits_up_to (10 * n + d) n ++ (48 + k) ∷ []) last
    ∙ ap (λ (ds : List ℕ). ds ++ (48 + d) ∷ []) (enough (10 * n + d) (suc n) n (omega arith) (omega arith))

numeral_one : (d : ℕ) → d < 10 → numeral d ≡ (48 + d) ∷ []
unfolding numeral
numeral_one d h = one_digit d d h

-- ---- what is taken

digits_take : (n : ℕ) (bytes : List ℕ) → 0 < n →
    numeral n ++ bytes ≡ numeral (digits_from n bytes).0 ++ (digits_from n bytes).1
unfolding digits_from
digits_take n [] h = refl
digits_take n (b ∷ bs) h =
    elim (is_ascii_digit b) as (λ t. is_ascii_digit b ≡ t →
    numeral n ++ b ∷ bs ≡ numeral (cond t (digits_from (10 * n + (b - 48)) bs) (n, b ∷ bs)).0
    ++ (cond t (digits_from (10 * n + (b - 48)) bs) (n, b ∷ bs)).1) [
      | true ↦ λ t.
          let range = digit_range b t in
          let d : 48 + (b - 48) ≡ b = omega arith in
          let push : numeral n ++ b ∷ [] ≡ numeral (10 * n + (b - 48)) =
          ap (λ (k : ℕ). numeral n ++ k ∷ []) (sym d) ∙ sym (numeral_push n (b - 48) h (omega arith)) in
          let regrouped : numeral n ++ b ∷ bs ≡ (numeral n ++ b ∷ []) ++ bs =
          sym (append_assoc (numeral n) (b ∷ []) bs) in
          regrouped ∙ ap (λ (z : List ℕ). z ++ bs) push ∙ digits_take (10 * n + (b - 48)) bs (omega arith)
      | false ↦ λ t. refl
    ] refl

if_zero : (b : ℕ) → (b == 48) ≡ true → b ≡ 48
if_zero b h = grind (arith, nat_tests)

not_zero : (b : ℕ) → (b == 48) ≡ false → b ≢ 48
not_zero b h = grind (arith, nat_tests)

pub numeral_takes : (bytes : List ℕ) (x : ℕ × List ℕ) → numeral_at bytes ≡ Some x → bytes ≡ numeral x.0 ++ x.1
unfolding numeral_at
numeral_takes [] x e = absurd cc
numeral_takes (b ∷ bs) x e =
    elim (b == 48) as (λ t. (b == 48) ≡ t → cond t (Some (0, bs))
    (cond (is_ascii_digit b) (Some (digits_from (b - 48) bs)) None) ≡ Some x → b ∷ bs ≡ numeral x.0 ++ x.1) [
      | true ↦ λ t f.
          let zero_is : b ≡ 48 = if_zero b t in
          subst (λ (w : ℕ × List ℕ). b ∷ bs ≡ numeral w.0 ++ w.1) (some_is (0, bs) x f)
          (ap (λ (k : ℕ). k ∷ bs) zero_is ∙ ap (λ (z : List ℕ). z ++ bs) (sym (numeral_one 0 (omega arith))))
      | false ↦ λ t f.
          let g = if_some (is_ascii_digit b) (Some (digits_from (b - 48) bs)) x f in
          let range = digit_range b g.0 in
          let other = not_zero b t in
          let d : 48 + (b - 48) ≡ b = omega arith in
          let first : b ∷ bs ≡ numeral (b - 48) ++ bs = ap (λ (k : ℕ). k ∷ bs) (sym d) ∙
          ap (λ (z : List ℕ). z ++ bs) (sym (numeral_one (b - 48) (omega arith))) in
          subst (λ (w : ℕ × List ℕ). b ∷ bs ≡ numeral w.0 ++ w.1) (some_is (digits_from (b - 48) bs) x g.1)
          (first ∙ digits_take (b - 48) bs (omega (arith, other)))
    ] refl e

-- ---- what is read again

digits_read : (most n : ℕ) (rest : List ℕ) → 0 < n → n < most →
    numeral_at (digits_up_to most n ++ rest) ≡ Some (digits_from n rest)
unfolding numeral_at digits_from
digits_read zero n rest p q = absurd (omega arith)
digits_read (suc most) n rest p q =
    elim (cases_lt n 10) [
      | inl low ↦
          let other : (48 + n == 48) ≡ false = grind (arith, nat_tests) in
          let d : 48 + n - 48 ≡ n = omega arith in
          ap (λ (z : List ℕ). numeral_at (z ++ rest)) (one_digit most n low) ∙ rw (other, is_digit_true n low, d) refl
      | inr high ↦
          let d : 10 * (n / 10) + (48 + n % 10 - 48) ≡ n = omega arith in
          ap (λ (z : List ℕ). numeral_at (z ++ rest)) (more_digits most n high)
          ∙ ap numeral_at (append_assoc (digits_up_to most (n / 10)) ((48 + n % 10) ∷ []) rest)
          ∙ digits_read most (n / 10) ((48 + n % 10) ∷ rest) (omega arith) (omega arith)
          ∙ rw (is_digit_true (n % 10) (omega arith), d) refl
    ]

digits_end_here : (n : ℕ) (rest : List ℕ) → Stops rest → digits_from n rest ≡ (n, rest)
unfolding digits_from
digits_end_here n [] h = refl
digits_end_here n (c ∷ cs) h = rw h refl

pub numeral_again : (n : ℕ) (rest : List ℕ) → Stops rest → numeral_at (numeral n ++ rest) ≡ Some (n, rest)
unfolding numeral numeral_at
numeral_again zero rest stops = refl
numeral_again (suc n) rest stops = digits_read (suc (suc n)) (suc n) rest (omega arith) (omega arith) ∙
    ap (λ (w : ℕ × List ℕ). Some w) (digits_end_here (suc n) rest stops)

digits_inline : (most n : ℕ) → is_inline (digits_up_to most n) ≡ true
digits_inline zero n = refl
digits_inline (suc most) n =
    elim (cases_lt n 10) [
      | inl low ↦ ap is_inline (one_digit most n low) ∙ grind (arith, nat_tests)
      | inr high ↦
          let last : is_inline ((48 + n % 10) ∷ []) ≡ true = grind (arith, nat_tests) in
          ap is_inline (more_digits most n high) ∙
          inline_append (digits_up_to most (n / 10)) ((48 + n % 10) ∷ []) (digits_inline most (n / 10)) last
    ]

pub numeral_inline : (n : ℕ) → is_inline (numeral n) ≡ true
unfolding numeral
numeral_inline n = digits_inline (suc n) n

-- ---- numbers within limits

pub record IsBetween (least most n : ℕ) : Type 0 where
  pub at_least : least ≤ n
  pub at_most : n ≤ most

both_true : (a b : Bool) → (a && b) ≡ true → (a ≡ true) × (b ≡ true)
both_true true b h = (refl, h)
both_true false b h = absurd cc

between_tells : (least most : ℕ) (x y : ℕ × List ℕ) → count_between least most x ≡ Some y →
    IsBetween least most y.0 × (x ≡ y)
between_tells least most x y e =
    let t = if_some (nat_le least x.0 && nat_le x.0 most) (Some x) y e in
    let b = both_true (nat_le least x.0) (nat_le x.0 most) t.0 in
    let low : least ≤ x.0 = grind (arith, nat_tests, b.0) in
    let high : x.0 ≤ most = grind (arith, nat_tests, b.1) in
    let same = some_is x y t.1 in
    (subst (λ (w : ℕ × List ℕ). IsBetween least most w.0) same (record { at_least = low; at_most = high }), same)

between_is : (least most n : ℕ) (rest : List ℕ) → IsBetween least most n →
    count_between least most (n, rest) ≡ Some (n, rest)
between_is least most n rest h =
    let a : nat_le least n ≡ true = grind (arith, nat_tests, h.at_least) in
    let b : nat_le n most ≡ true = grind (arith, nat_tests, h.at_most) in
    rw (a, b) refl

pub count_reads : (least most : ℕ) → IsReader numeral (IsBetween least most) (count_at least most)
unfolding count_at
count_reads least most = record {
  takes = λ bytes n rest e.
      let a = bind_some (numeral_at bytes) (count_between least most) (n, rest) e in
      let b = between_tells least most a.0 (n, rest) a.2 in
      (numeral_takes bytes a.0 a.1 ∙ ap (λ (w : ℕ × List ℕ). numeral w.0 ++ w.1) b.1, b.0);
  again = λ n rest fits stops. rw (numeral_again n rest stops) (between_is least most n rest fits);
  inline = λ n fits. numeral_inline n;
}

-- ---- numbers with a sign

suc_not_zero : (n : ℕ) → (suc n == 0) ≡ false
suc_not_zero n = ne_eqb (suc n) 0 (λ e. omega arith)

negative_tells : (x : ℕ × List ℕ) (y : ℤ × List ℕ) → negative x ≡ Some y →
    45 ∷ (numeral x.0 ++ x.1) ≡ signed_numeral y.0 ++ y.1
negative_tells (zero, rest) y e = absurd cc
negative_tells (suc n, rest) y e =
    ap (λ (w : ℤ × List ℕ). signed_numeral w.0 ++ w.1) (some_is (negsuc n, rest) y (rw (suc_not_zero n) at e))

if_minus : (b : ℕ) → (b == 45) ≡ true → b ≡ 45
if_minus b h = grind (arith, nat_tests)

pub signed_takes : (bytes : List ℕ) (y : ℤ × List ℕ) → signed_at bytes ≡ Some y → bytes ≡ signed_numeral y.0 ++ y.1
unfolding signed_at
signed_takes [] y e = absurd cc
signed_takes (b ∷ bs) y e =
    elim (b == 45) as (λ t. (b == 45) ≡ t → cond t (numeral_at bs >>= negative)
    (numeral_at (b ∷ bs) >>= λ n. Some (pos n.0, n.1)) ≡ Some y → b ∷ bs ≡ signed_numeral y.0 ++ y.1) [
      | true ↦ λ t f.
          let a = bind_some (numeral_at bs) negative y f in
          ap (λ (k : ℕ). k ∷ bs) (if_minus b t) ∙ ap (λ (z : List ℕ). 45 ∷ z) (numeral_takes bs a.0 a.1) ∙
          negative_tells a.0 y a.2
      | false ↦ λ t f.
          let a = bind_some (numeral_at (b ∷ bs)) (λ n. Some (pos n.0, n.1)) y f in
          numeral_takes (b ∷ bs) a.0 a.1 ∙ ap (λ (w : ℤ × List ℕ). signed_numeral w.0 ++ w.1)
          (some_is (pos a.0.0, a.0.1) y a.2)
    ] refl e

-- no numeral begins with a `-`
signed_digits : (bytes : List ℕ) (n : ℕ) (rest : List ℕ) → numeral_at bytes ≡ Some (n, rest) →
    signed_at bytes ≡ Some (pos n, rest)
unfolding signed_at numeral_at
signed_digits [] n rest e = absurd cc
signed_digits (b ∷ bs) n rest e =
    elim (b == 45) as (λ t. (b == 45) ≡ t →
    cond t (numeral_at bs >>= negative) (numeral_at (b ∷ bs) >>= λ m. Some (pos m.0, m.1)) ≡ Some (pos n, rest)) [
      | true ↦ λ t.
          let minus = if_minus b t in
          let wrong : numeral_at (45 ∷ bs) ≡ Some (n, rest) = ap (λ (k : ℕ). numeral_at (k ∷ bs)) (sym minus) ∙ e in
          absurd cc
      | false ↦ λ t. rw e refl
    ] refl

pub signed_again : (z : ℤ) (rest : List ℕ) → Stops rest → signed_at (signed_numeral z ++ rest) ≡ Some (z, rest)
unfolding signed_at
signed_again (pos n) rest stops = signed_digits (numeral n ++ rest) n rest (numeral_again n rest stops)
signed_again (negsuc n) rest stops = rw (numeral_again (suc n) rest stops, suc_not_zero n) refl

signed_inline : (z : ℤ) → is_inline (signed_numeral z) ≡ true
signed_inline (pos n) = numeral_inline n
signed_inline (negsuc n) = numeral_inline (suc n)

int_le_is : (a b : ℤ) → a ≤ℤ b → int_le a b ≡ true
int_le_is a b h = grind (arith, ints)

int_le_tells : (a b : ℤ) → int_le a b ≡ true → a ≤ℤ b
int_le_tells a b h = le_z_yes (T_from_true (int_le a b) h)

int_between : (least most : ℤ) (x y : ℤ × List ℕ) → integer_between least most x ≡ Some y →
    IsFrom least most y.0 × (x ≡ y)
int_between least most x y e =
    let t = if_some (int_le least x.0 && int_le x.0 most) (Some x) y e in
    let b = both_true (int_le least x.0) (int_le x.0 most) t.0 in
    let same = some_is x y t.1 in (
      subst (λ (w : ℤ × List ℕ). IsFrom least most w.0) same
          (record { at_least = int_le_tells least x.0 b.0; at_most = int_le_tells x.0 most b.1 }),
      same,
    )

pub integer_reads : (least most : ℤ) → IsReader signed_numeral (IsFrom least most) (integer_at least most)
unfolding integer_at
integer_reads least most = record {
  takes = λ bytes z rest e.
      let a = bind_some (signed_at bytes) (integer_between least most) (z, rest) e in
      let b = int_between least most a.0 (z, rest) a.2 in
      (signed_takes bytes a.0 a.1 ∙ ap (λ (w : ℤ × List ℕ). signed_numeral w.0 ++ w.1) b.1, b.0);
  again = λ z rest fits stops. rw (
    signed_again z rest stops,
    int_le_is least z fits.at_least,
    int_le_is z most fits.at_most,
  ) refl;
  inline = λ z fits. signed_inline z;
}
