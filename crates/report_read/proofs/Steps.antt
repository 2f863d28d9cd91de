-- What a loop over bytes has read so far: words and digits.
use Rattle.report_read.proofs.Common.{◌≡◌, ℕ, ◌+◌, ◌-◌, ◌*◌, ◌<◌, ◌≤◌, true, false, cond, nat_le, ◌==◌, ◌&&◌, List, []}
use Rattle.report_read.proofs.Common.{◌∷◌, length, get_or, drop, Some, None, refl, ◌∙◌, arith, eq-eqb}
use Rattle.report_read.proofs.Common.{drop_of_length-le, drop_more, ne_eqb, nat_tests, behind, is_ascii_digit}
use Rattle.report_read.proofs.Common.{digits_from, count_between}

-- ---- words

pub behind_step : (word bytes : List ℕ) (i : ℕ) → i < length word → i < length bytes →
    get_or bytes i 0 ≡ get_or word i 0
    → behind (drop i word) (drop i bytes) ≡ behind (drop (i + 1) word) (drop (i + 1) bytes)
unfolding behind
behind_step word bytes i p q e =
    let t : (get_or bytes i 0 == get_or word i 0) ≡ true = eq-eqb (get_or bytes i 0) (get_or word i 0) e in
    rw (drop_more word i 0 p, drop_more bytes i 0 q, t) refl

pub behind_short : (word bytes : List ℕ) (i : ℕ) → i < length word → length bytes ≤ i →
    behind (drop i word) (drop i bytes) ≡ None
unfolding behind
behind_short word bytes i p q = rw (drop_more word i 0 p, drop_of_length-le bytes q) refl

pub behind_other : (word bytes : List ℕ) (i : ℕ) → i < length word → i < length bytes →
    (get_or bytes i 0 ≡ get_or word i 0 → ⊥) → behind (drop i word) (drop i bytes) ≡ None
unfolding behind
behind_other word bytes i p q e =
    let t : (get_or bytes i 0 == get_or word i 0) ≡ false = ne_eqb (get_or bytes i 0) (get_or word i 0) e in
    rw (drop_more word i 0 p, drop_more bytes i 0 q, t) refl

pub behind_done : (word bytes : List ℕ) (i : ℕ) → length word ≤ i → behind (drop i word) bytes ≡ Some bytes
unfolding behind
behind_done word bytes i p = rw (drop_of_length-le word p) refl

-- for a loop that goes along a word
pub ruleset behind_loop = (behind_step, behind_short, behind_other, behind_done)

-- ---- digits

pub digits_step : (n : ℕ) (bytes : List ℕ) (i : ℕ) → i < length bytes → is_ascii_digit (get_or bytes i 0) ≡ true
    → digits_from n (drop i bytes) ≡ digits_from (10 * n + (get_or bytes i 0 - 48)) (drop (i + 1) bytes)
unfolding digits_from
digits_step n bytes i p t = rw (drop_more bytes i 0 p, t) refl

pub digits_stop : (n : ℕ) (bytes : List ℕ) (i : ℕ) → i < length bytes → is_ascii_digit (get_or bytes i 0) ≡ false →
    digits_from n (drop i bytes) ≡ (n, drop i bytes)
unfolding digits_from
digits_stop n bytes i p t = rw (drop_more bytes i 0 p, t) refl

pub digits_end : (n : ℕ) (bytes : List ℕ) (i : ℕ) → length bytes ≤ i → digits_from n (drop i bytes) ≡ (n, drop i bytes)
unfolding digits_from
digits_end n bytes i p = rw (drop_of_length-le bytes p) refl

-- digits make a number no less
pub digits_grow : (n : ℕ) (bytes : List ℕ) → n ≤ (digits_from n bytes).0
unfolding digits_from
digits_grow n [] = omega arith
digits_grow n (b ∷ bs) =
    elim (is_ascii_digit b) as (λ t. n ≤ (cond t (digits_from (10 * n + (b - 48)) bs) (n, b ∷ bs)).0) [
      | true ↦ let more = digits_grow (10 * n + (b - 48)) bs in omega arith
      | false ↦ omega arith
    ]

pub between_above : (least most : ℕ) (x : ℕ × List ℕ) → most < x.0 → count_between least most x ≡ None
between_above least most x h =
    let t : nat_le x.0 most ≡ false = grind (arith, nat_tests) in
    rw t (elim (nat_le least x.0) as (λ b. cond (b && false) (Some x) None ≡ None) [ true ↦ refl | false ↦ refl ])

-- no room is left for another digit
pub digits_too_many : (first n most : ℕ) (bytes whole : List ℕ) (i : ℕ) → i < length bytes →
    is_ascii_digit (get_or bytes i 0) ≡ true → most < 10 * n
    → digits_from first whole ≡ digits_from n (drop i bytes) → count_between 0 most (digits_from first whole) ≡ None
digits_too_many first n most bytes whole i p t large so_far =
    let step = digits_step n bytes i p t in
    let grown = digits_grow (10 * n + (get_or bytes i 0 - 48)) (drop (i + 1) bytes) in
    rw (so_far ∙ step)
    (between_above 0 most (digits_from (10 * n + (get_or bytes i 0 - 48)) (drop (i + 1) bytes)) (omega arith))
