-- A number within narrower limits, and numbers with a sign from those without.
use Rattle.report_read.proofs.Common.{◌≡◌, ◌≢◌, ℕ, zero, suc, ◌<◌, ◌≤◌, ℤ, pos, negsuc, true, false, cond, nat_le, ◌==◌}
use Rattle.report_read.proofs.Common.{◌&&◌, List, [], ◌∷◌, get_or, Some, None, refl, sym, ap, ◌∙◌, subst, arith, int_le}
use Rattle.report_read.proofs.Common.{neg_ℤ, ◌≤ℤ◌, ◌<ℤ◌, le_z_yes, ints, T_from_true, ne_eqb, nat_tests, Found, ◌>>=◌}
use Rattle.report_read.proofs.Common.{numeral_at, count_between, count_at, negative, signed_at, integer_between}
use Rattle.report_read.proofs.Common.{integer_at}

-- ---- without a sign

pub below_least : (least most : ℕ) (x : ℕ × List ℕ) → x.0 < least → count_between least most x ≡ None
below_least least most x h = let t : nat_le least x.0 ≡ false = grind (arith, nat_tests) in rw t refl

pub above_most : (least most : ℕ) (x : ℕ × List ℕ) → most < x.0 → count_between least most x ≡ None
above_most least most x h =
    let t : nat_le x.0 most ≡ false = grind (arith, nat_tests) in
    rw t (elim (nat_le least x.0) as (λ b. cond (b && false) (Some x) None ≡ None) [ true ↦ refl | false ↦ refl ])

pub within : (least most : ℕ) (x : ℕ × List ℕ) → least ≤ x.0 → x.0 ≤ most → count_between least most x ≡ Some x
within least most x p q =
    let a : nat_le least x.0 ≡ true = grind (arith, nat_tests) in
    let b : nat_le x.0 most ≡ true = grind (arith, nat_tests) in
    rw (a, b) refl

from_zero : (wide : ℕ) (x : ℕ × List ℕ) → count_between 0 wide x ≡ cond (nat_le x.0 wide) (Some x) None
from_zero wide x = let t : nat_le 0 x.0 ≡ true = grind (arith, nat_tests) in rw t refl

-- what was found without limits
found_wide : (wide : ℕ) (x y : ℕ × List ℕ) → count_between 0 wide x ≡ Some y → (x ≡ y) × (x.0 ≤ wide)
found_wide wide x y e =
    elim (nat_le x.0 wide) as (λ t. nat_le x.0 wide ≡ t → cond t (Some x) None ≡ Some y → (x ≡ y) × (x.0 ≤ wide)) [
      | true ↦ λ t f. (let same : x ≡ y = cc in same, grind (arith, nat_tests))
      | false ↦ λ t f. absurd cc
    ] refl (sym (from_zero wide x) ∙ e)

none_wide : (wide : ℕ) (x : ℕ × List ℕ) → count_between 0 wide x ≡ None → wide < x.0
none_wide wide x e =
    elim (nat_le x.0 wide) as (λ t. nat_le x.0 wide ≡ t → cond t (Some x) None ≡ None → wide < x.0) [
      | true ↦ λ t f. absurd cc
      | false ↦ λ t f. grind (arith, nat_tests)
    ] refl (sym (from_zero wide x) ∙ e)

none_by : (least most wide : ℕ) (r : Found ℕ) → most ≤ wide → (r >>= count_between 0 wide) ≡ None →
    (r >>= count_between least most) ≡ None
none_by least most wide None h e = refl
none_by least most wide (Some x) h e = above_most least most x (omega (arith, none_wide wide x e))

some_by : (least most wide : ℕ) (r : Found ℕ) (y : ℕ × List ℕ) → (r >>= count_between 0 wide) ≡ Some y →
    (r >>= count_between least most) ≡ count_between least most y
some_by least most wide None y e = absurd cc
some_by least most wide (Some x) y e = ap (count_between least most) (found_wide wide x y e).0

pub count_none : (least most wide : ℕ) (bytes : List ℕ) → most ≤ wide → count_at 0 wide bytes ≡ None →
    count_at least most bytes ≡ None
unfolding count_at
count_none least most wide bytes h e = none_by least most wide (numeral_at bytes) h e

pub count_some : (least most wide : ℕ) (bytes : List ℕ) (y : ℕ × List ℕ) → count_at 0 wide bytes ≡ Some y →
    count_at least most bytes ≡ count_between least most y
unfolding count_at
count_some least most wide bytes y e = some_by least most wide (numeral_at bytes) y e

most_by : (wide : ℕ) (r : Found ℕ) (y : ℕ × List ℕ) → (r >>= count_between 0 wide) ≡ Some y → y.0 ≤ wide
most_by wide None y e = absurd cc
most_by wide (Some x) y e = let f = found_wide wide x y e in subst (λ (w : ℕ × List ℕ). w.0 ≤ wide) f.0 f.1

pub count_most : (wide : ℕ) (bytes : List ℕ) (y : ℕ × List ℕ) → count_at 0 wide bytes ≡ Some y → y.0 ≤ wide
unfolding count_at
count_most wide bytes y e = most_by wide (numeral_at bytes) y e

-- ---- with a sign

pub int_is : (a b : ℤ) → a ≤ℤ b → int_le a b ≡ true
int_is a b h = grind (arith, ints)

pub int_isnt : (a b : ℤ) → b <ℤ a → int_le a b ≡ false
int_isnt a b h = grind (arith, ints)

pub int_tells : (a b : ℤ) → int_le a b ≡ true → a ≤ℤ b
int_tells a b h = le_z_yes (T_from_true (int_le a b) h)

pub int_below : (least most : ℤ) (x : ℤ × List ℕ) → x.0 <ℤ least → integer_between least most x ≡ None
int_below least most x h = rw (int_isnt least x.0 h) refl

pub int_above : (least most : ℤ) (x : ℤ × List ℕ) → most <ℤ x.0 → integer_between least most x ≡ None
int_above least most x h = rw (int_isnt x.0 most h)
    (elim (int_le least x.0) as (λ b. cond (b && false) (Some x) None ≡ None) [ true ↦ refl | false ↦ refl ])

pub int_within : (least most : ℤ) (x : ℤ × List ℕ) → least ≤ℤ x.0 → x.0 ≤ℤ most → integer_between least most x ≡ Some x
int_within least most x p q = rw (int_is least x.0 p, int_is x.0 most q) refl

int_found : (least most : ℤ) (x y : ℤ × List ℕ) → integer_between least most x ≡ Some y → x ≡ y
int_found least most x y e =
    elim (int_le least x.0 && int_le x.0 most) as (λ t. cond t (Some x) None ≡ Some y → x ≡ y) [
      | true ↦ λ f. (let same : x ≡ y = cc in same)
      | false ↦ λ f. absurd cc
    ] e

int_some_by : (low high least most : ℤ) (r : Found ℤ) (y : ℤ × List ℕ) → (r >>= integer_between low high) ≡ Some y →
    (r >>= integer_between least most) ≡ integer_between least most y
int_some_by low high least most None y e = absurd cc
int_some_by low high least most (Some x) y e = ap (integer_between least most) (int_found low high x y e)

pub integer_some : (low high least most : ℤ) (bytes : List ℕ) (y : ℤ × List ℕ) → integer_at low high bytes ≡ Some y →
    integer_at least most bytes ≡ integer_between least most y
unfolding integer_at
integer_some low high least most bytes y e = int_some_by low high least most (signed_at bytes) y e

int_none : (low high least most : ℤ) (x : ℤ × List ℕ) → low ≤ℤ least → most ≤ℤ high →
    integer_between low high x ≡ None → integer_between least most x ≡ None
int_none low high least most x p q e =
    elim (int_le least x.0) as (λ t. int_le least x.0 ≡ t → cond (t && int_le x.0 most) (Some x) None ≡ None) [
      | false ↦ λ t. refl
      | true ↦ λ t. elim (int_le x.0 most) as (λ s. int_le x.0 most ≡ s → cond s (Some x) None ≡ None) [
        | false ↦ λ s. refl
        | true ↦ λ s.
            let a : low ≤ℤ x.0 = omega (arith, ints, p, int_tells least x.0 t) in
            let b : x.0 ≤ℤ high = omega (arith, ints, q, int_tells x.0 most s) in
            let found = int_within low high x a b in
            absurd cc
      ] refl
    ] refl

int_none_by : (low high least most : ℤ) (r : Found ℤ) → low ≤ℤ least → most ≤ℤ high →
    (r >>= integer_between low high) ≡ None → (r >>= integer_between least most) ≡ None
int_none_by low high least most None p q e = refl
int_none_by low high least most (Some x) p q e = int_none low high least most x p q e

pub integer_none : (low high least most : ℤ) (bytes : List ℕ) → low ≤ℤ least → most ≤ℤ high →
    integer_at low high bytes ≡ None → integer_at least most bytes ≡ None
unfolding integer_at
integer_none low high least most bytes p q e = int_none_by low high least most (signed_at bytes) p q e

-- ---- behind a `-`

not_zero : (n : ℕ) → (suc n == 0) ≡ false
not_zero n = ne_eqb (suc n) 0 (λ e. omega arith)

minus_by : (wide : ℕ) (high : ℤ) (r : Found ℕ) → (r >>= count_between 0 wide) ≡ None →
    ((r >>= negative) >>= integer_between (neg_ℤ (pos wide)) high) ≡ None
minus_by wide high None e = refl
minus_by wide high (Some (zero, rest)) e = refl
minus_by wide high (Some (suc n, rest)) e =
    let large = none_wide wide (suc n, rest) e in
    rw (not_zero n) (int_below (neg_ℤ (pos wide)) high (negsuc n, rest) (omega (arith, ints, large)))

pub minus_none : (wide : ℕ) (high : ℤ) (bytes : List ℕ) → count_at 0 wide bytes ≡ None →
    integer_at (neg_ℤ (pos wide)) high (45 ∷ bytes) ≡ None
unfolding count_at integer_at signed_at
minus_none wide high bytes e = minus_by wide high (numeral_at bytes) e

minus_some_by : (wide : ℕ) (high : ℤ) (r : Found ℕ) (y : ℕ × List ℕ) → (r >>= count_between 0 wide) ≡ Some y →
    ((r >>= negative) >>= integer_between (neg_ℤ (pos wide)) high)
    ≡ (negative y >>= integer_between (neg_ℤ (pos wide)) high)
minus_some_by wide high None y e = absurd cc
minus_some_by wide high (Some x) y e =
    ap (λ (w : ℕ × List ℕ). negative w >>= integer_between (neg_ℤ (pos wide)) high) (found_wide wide x y e).0

pub minus_zero : (wide : ℕ) (high : ℤ) (bytes : List ℕ) (n : ℕ) (rest : List ℕ) →
    count_at 0 wide bytes ≡ Some (n, rest) → n ≡ 0 → integer_at (neg_ℤ (pos wide)) high (45 ∷ bytes) ≡ None
unfolding count_at integer_at signed_at
minus_zero wide high bytes n rest e z = minus_some_by wide high (numeral_at bytes) (n, rest) e ∙ rw z refl

pub minus_some : (wide m : ℕ) (bytes : List ℕ) (n : ℕ) (rest : List ℕ) → count_at 0 wide bytes ≡ Some (n, rest) →
    n ≢ 0 → integer_at (neg_ℤ (pos wide)) (pos m) (45 ∷ bytes) ≡ Some (neg_ℤ (pos n), rest)
unfolding count_at integer_at signed_at
minus_some wide m bytes zero rest e ne = absurd (ne refl)
minus_some wide m bytes (suc n) rest e ne =
    let most = count_most wide bytes (suc n, rest) e in
    minus_some_by wide (pos m) (numeral_at bytes) (suc n, rest) e ∙
    rw (not_zero n) (int_within (neg_ℤ (pos wide)) (pos m) (negsuc n, rest) (omega (arith, ints, most))
    (omega (arith, ints)))

-- ---- with no `-`

plus_by : (low : ℤ) (wide m : ℕ) (r : Found ℕ) → m ≤ wide → (r >>= count_between 0 wide) ≡ None →
    ((r >>= λ n. Some (pos n.0, n.1)) >>= integer_between low (pos m)) ≡ None
plus_by low wide m None h e = refl
plus_by low wide m (Some x) h e = let large = none_wide wide x e in
    int_above low (pos m) (pos x.0, x.1) (omega (arith, ints, large))

plus_some_by : (low : ℤ) (wide m : ℕ) (r : Found ℕ) (y : ℕ × List ℕ) → (r >>= count_between 0 wide) ≡ Some y →
    ((r >>= λ n. Some (pos n.0, n.1)) >>= integer_between low (pos m)) ≡ integer_between low (pos m) (pos y.0, y.1)
plus_some_by low wide m None y e = absurd cc
plus_some_by low wide m (Some x) y e =
    ap (λ (w : ℕ × List ℕ). integer_between low (pos m) (pos w.0, w.1)) (found_wide wide x y e).0

plus_signed : (bytes : List ℕ) → get_or bytes 0 0 ≢ 45 →
    signed_at bytes ≡ (numeral_at bytes >>= λ n. Some (pos n.0, n.1))
unfolding signed_at numeral_at
plus_signed [] ne = refl
plus_signed (b ∷ bs) ne = let t : (b == 45) ≡ false = ne_eqb b 45 ne in rw t refl

pub plus_none : (low : ℤ) (wide m : ℕ) (bytes : List ℕ) → get_or bytes 0 0 ≢ 45 → m ≤ wide →
    count_at 0 wide bytes ≡ None → integer_at low (pos m) bytes ≡ None
unfolding count_at integer_at
plus_none low wide m bytes ne h e = rw (plus_signed bytes ne) (plus_by low wide m (numeral_at bytes) h e)

pub plus_above : (low : ℤ) (wide m : ℕ) (bytes : List ℕ) (n : ℕ) (rest : List ℕ) → get_or bytes 0 0 ≢ 45 → m < n →
    count_at 0 wide bytes ≡ Some (n, rest) → integer_at low (pos m) bytes ≡ None
unfolding count_at integer_at
plus_above low wide m bytes n rest ne h e =
    rw (plus_signed bytes ne) (plus_some_by low wide m (numeral_at bytes) (n, rest) e ∙
    int_above low (pos m) (pos n, rest) (omega (arith, ints, h)))

pub plus_some : (k wide m : ℕ) (bytes : List ℕ) (n : ℕ) (rest : List ℕ) → get_or bytes 0 0 ≢ 45 → n ≤ m →
    count_at 0 wide bytes ≡ Some (n, rest) → integer_at (neg_ℤ (pos k)) (pos m) bytes ≡ Some (pos n, rest)
unfolding count_at integer_at
plus_some k wide m bytes n rest ne h e =
    rw (plus_signed bytes ne) (plus_some_by (neg_ℤ (pos k)) wide m (numeral_at bytes) (n, rest) e ∙
    int_within (neg_ℤ (pos k)) (pos m) (pos n, rest) (omega (arith, ints)) (omega (arith, ints, h)))
