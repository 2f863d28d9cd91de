-- Numbers of few digits, which are read in one pass.
use Rattle.text_tokens.proofs.Common.{◌≡◌, ℕ, suc, ◌+◌, ◌-◌, ◌*◌, ◌^◌, ◌<◌, Bool, true, false, true≢false, cond, ◌&&◌}
use Rattle.text_tokens.proofs.Common.{List, [], ◌∷◌, ◌++◌, length, get_or, take, drop, refl, sym, ap, ap₂, subst, ◌∙◌}
use Rattle.text_tokens.proofs.Common.{arith, inl, inr, ℤ, pos, ◌-ℤ◌, nat_lt, nat_eq, nat_tests, eqb_tells, take_more}
use Rattle.text_tokens.proofs.Common.{append-nil, prefix_len_passes, prefix_len, number, word, is_ascii_digit}
use Rattle.text_tokens.proofs.Common.{is_number_byte, AreDigits, value_from, value, exponent_of, number_token}
use Rattle.text_tokens.proofs.Common.{begins_with, front, behind, is_whole_part, behind_fraction, behind_whole}
use Rattle.text_tokens.proofs.Common.{unsigned, number_of, Read, number_at}
use Rattle.std.proofs.Math.Seq.{take-add, take-append_seam, drop-append_seam}
use Rattle.std.proofs.lemmas.List.Folds.{length-prefix_len}
use Rattle.text_tokens.proofs.Digits.{digit_range}
use Rattle.text_tokens.proofs.NumberParts.{value-append, digits_in_front, no_minus, nothing_behind, short_enough}
use Rattle.text_tokens.proofs.NumberParts.{plain_exponent, and_false}

pub value_takes : (n : ℕ) (bs : List ℕ) (i : ℕ) → i < length bs →
    value_from n (take (i + 1) bs) ≡ 10 * value_from n (take i bs) + (get_or bs i 0 - 48)
value_takes n bs i lt = ap (value_from n) (take_more bs i 0 lt) ∙ value-append n (take i bs) (get_or bs i 0 ∷ [])

-- ---- how many bytes a number has

one_digit : (b : ℕ) (bs : List ℕ) (t : Bool) → is_ascii_digit b ≡ t
    → prefix_len is_number_byte bs ≡ prefix_len is_ascii_digit bs + prefix_len is_number_byte
    (drop (prefix_len is_ascii_digit bs) bs)
    → prefix_len is_number_byte (b ∷ bs) ≡ prefix_len is_ascii_digit (b ∷ bs) + prefix_len is_number_byte
    (drop (prefix_len is_ascii_digit (b ∷ bs)) (b ∷ bs))
one_digit b bs true e h =
    let p = prefix_len is_ascii_digit bs in
    let q = prefix_len is_number_byte bs in
    let one : suc p ≡ 1 + p = omega arith in
    let next : 1 + q ≡ suc p + prefix_len is_number_byte (drop p bs) = omega (arith, h) in
    rw e (subst (λ (k : ℕ). 1 + q ≡ k + prefix_len is_number_byte (drop k (b ∷ bs))) one next)
one_digit b bs false e h =
    let none : prefix_len is_ascii_digit (b ∷ bs) ≡ 0 =
    ap (λ (t : Bool). cond t (1 + prefix_len is_ascii_digit bs) 0) e in
    subst (λ (k : ℕ). prefix_len is_number_byte (b ∷ bs) ≡ k + prefix_len is_number_byte (drop k (b ∷ bs))) (sym none)
    (omega arith)

pub digits_then : (bs : List ℕ) → prefix_len is_number_byte bs ≡ prefix_len is_ascii_digit bs + prefix_len
    is_number_byte (drop (prefix_len is_ascii_digit bs) bs)
digits_then [] = refl
digits_then (b ∷ bs) = one_digit b bs (is_ascii_digit b) refl (digits_then bs)

-- ---- digits, and what is no digit behind them

digits_len : (ds rest : List ℕ) → AreDigits ds → prefix_len is_ascii_digit rest ≡ 0 →
    prefix_len is_ascii_digit (ds ++ rest) ≡ length ds
digits_len [] rest h e = e
digits_len (d ∷ ds) rest h e = let r = digits_len ds rest h.1 e in rw h.0 (omega (arith, r))

front_is : (ds rest : List ℕ) → AreDigits ds → prefix_len is_ascii_digit rest ≡ 0 → ds ≡ front (ds ++ rest)
unfolding front
front_is ds rest h e = sym (ap (λ (n : ℕ). take n (ds ++ rest)) (digits_len ds rest h e) ∙ take-append_seam ds rest)

behind_is : (ds rest : List ℕ) → AreDigits ds → prefix_len is_ascii_digit rest ≡ 0 → rest ≡ behind (ds ++ rest)
unfolding behind
behind_is ds rest h e = sym (ap (λ (n : ℕ). drop n (ds ++ rest)) (digits_len ds rest h e) ∙ drop-append_seam ds rest)

front_alone : (ds : List ℕ) → AreDigits ds → ds ≡ front ds
front_alone ds h = front_is ds [] h refl ∙ ap front (append-nil ds)

behind_alone : (ds : List ℕ) → AreDigits ds → [] ≡ behind ds
behind_alone ds h = behind_is ds [] h refl ∙ ap behind (append-nil ds)

pub front_digits : (bs : List ℕ) → AreDigits (front bs)
unfolding front
front_digits bs = digits_in_front bs

pub no_such : (d c : ℕ) → (d ≡ c → ⊥) → nat_eq d c ≡ false
no_such d c e = grind (arith, nat_tests, e)

some_digits : (ds : List ℕ) → is_whole_part ds ≡ true → 0 < length ds
some_digits [] e = absurd (true≢false (sym e))
some_digits (d ∷ ds) e = omega arith

no_sign : (ds rest : List ℕ) → AreDigits ds → 0 < length ds → begins_with 45 (ds ++ rest) ≡ false
no_sign [] rest h lt = absurd (omega arith)
no_sign (d ∷ ds) rest h lt =
    let r = digit_range d h.0 in
    ap (λ (b : Bool). nat_lt 0 (length (d ∷ (ds ++ rest))) && b) (no_such d 45 (λ is. omega arith)) ∙ and_false _

begins_is : (c : ℕ) (xs tail : List ℕ) → begins_with c xs ≡ true → tail ≡ drop 1 xs → xs ≡ c ∷ tail
begins_is c [] tail h t = absurd (true≢false (sym h))
begins_is c (x ∷ xs) tail h t =
    elim (eqb_tells x c) [
      | inl is ↦ ap (λ (y : ℕ). y ∷ xs) is.1 ∙ ap (λ (ys : List ℕ). c ∷ ys) (sym t)
      | inr is ↦ absurd (true≢false (sym h ∙ (ap (λ (b : Bool). nat_lt 0 (length (x ∷ xs)) && b) is.0 ∙ and_false _)))
    ]

-- ---- a whole number

run_is_front : (bs : List ℕ) → prefix_len is_number_byte bs ≡ prefix_len is_ascii_digit bs →
    take (prefix_len is_number_byte bs) bs ≡ front bs
unfolding front
run_is_front bs e = ap (λ (n : ℕ). take n bs) e

whole_is : (ds : List ℕ) (n : ℕ) → AreDigits ds → is_whole_part ds ≡ true → n ≡ value ds → n < 10 ^ 9 →
    number_of ds ≡ word (number (record { negative = false; digits = n; exponent = pos 0 }))
whole_is ds n h w is few =
    no_minus ds (ap (begins_with 45) (sym (append-nil ds)) ∙ no_sign ds [] h (some_digits ds w)) ∙
    nothing_behind ds ds (front_alone ds h) (behind_alone ds h) w
    ∙ sym (short_enough false ds [] false [] n (pos 0) h tt is (omega (arith, few)) (omega arith) plain_exponent)

pub whole_number : (bs : List ℕ) (n : ℕ) → is_whole_part (front bs) ≡ true →
    prefix_len is_number_byte (drop (prefix_len is_ascii_digit bs) bs) ≡ 0 → n ≡ value (front bs) → n < 10 ^ 9
    → ◌≡◌ {A = Read} (
      word (number (record { negative = false; digits = n; exponent = pos 0 })),
      prefix_len is_ascii_digit bs,
    ) (number_at bs)
whole_number bs n w ends is few =
    let len : prefix_len is_number_byte bs ≡ prefix_len is_ascii_digit bs = omega (arith, digits_then bs, ends) in
    ap₂ (λ t k. (t, k)) (sym (ap number_of (run_is_front bs len) ∙ whole_is (front bs) n (front_digits bs) w is few))
    (sym len)

-- ---- a fraction behind it

unsigned_is : (run ds others : List ℕ) → ds ≡ front run → others ≡ behind run → is_whole_part ds ≡ true →
    unsigned false run ≡ behind_whole false ds others
unfolding unsigned
unsigned_is run ds others e f w = rw (← e, ← f, w) refl

fraction_is : (ds others fs : List ℕ) → begins_with 46 others ≡ true → fs ≡ front (drop 1 others) →
    [] ≡ behind (drop 1 others) → nat_lt 0 (length fs) ≡ true →
    behind_whole false ds others ≡ number_token false ds fs false []
unfolding behind_whole behind_fraction
fraction_is ds others fs b e f n = rw (b, ← e, ← f, n) refl

some_is : (fs : List ℕ) → 0 < length fs → nat_lt 0 (length fs) ≡ true
some_is fs lt = grind (arith, nat_tests, lt)

point_is : (fs : List ℕ) → begins_with 46 (46 ∷ fs) ≡ true
point_is fs = ap (λ (b : Bool). b && true) (some_is (46 ∷ fs) (omega arith))

fraction_exponent : (fs : List ℕ) (q : ℕ) (e : ℤ) → length fs ≡ q → e ≡ pos 0 -ℤ pos q → e ≡ exponent_of false [] fs
unfolding exponent_of
fraction_exponent fs q e len is = is ∙ ap (λ (k : ℕ). pos 0 -ℤ pos k) (sym len)

parts_are : (ds fs : List ℕ) (n q : ℕ) (e : ℤ) → AreDigits ds → AreDigits fs → is_whole_part ds ≡ true → 0 < q →
    length fs ≡ q → n ≡ value_from (value ds) fs → n < 10 ^ 9 → e ≡ pos 0 -ℤ pos q
    → number_of (ds ++ 46 ∷ fs) ≡ word (number (record { negative = false; digits = n; exponent = e }))
parts_are ds fs n q e h k w some len is few exponent_is =
    no_minus (ds ++ 46 ∷ fs) (no_sign ds (46 ∷ fs) h (some_digits ds w))
    ∙ unsigned_is (ds ++ 46 ∷ fs) ds (46 ∷ fs) (front_is ds (46 ∷ fs) h refl) (behind_is ds (46 ∷ fs) h refl) w
    ∙ fraction_is ds (46 ∷ fs) fs (point_is fs) (front_alone fs k) (behind_alone fs k)
    (some_is fs (omega (arith, some, len)))
    ∙ sym (short_enough false ds fs false [] n e h k is (omega (arith, few)) (omega arith)
    (fraction_exponent fs q e len exponent_is))

run_is_parts : (bs tail : List ℕ) → drop (prefix_len is_ascii_digit bs) bs ≡ 46 ∷ tail →
    take (prefix_len is_ascii_digit bs + suc (prefix_len is_ascii_digit tail)) bs ≡ front bs ++ 46 ∷ front tail
unfolding front
run_is_parts bs tail e =
    take-add (prefix_len is_ascii_digit bs) (suc (prefix_len is_ascii_digit tail)) bs ∙
    ap (λ (xs : List ℕ). take (prefix_len is_ascii_digit bs) bs ++ take (suc (prefix_len is_ascii_digit tail)) xs) e

front_len : (bs : List ℕ) → length (front bs) ≡ prefix_len is_ascii_digit bs
unfolding front
front_len bs = length-prefix_len is_ascii_digit bs

pub fraction_number : (bs tail : List ℕ) (n p q : ℕ) (e : ℤ) → p ≡ prefix_len is_ascii_digit bs →
    is_whole_part (front bs) ≡ true → begins_with 46 (drop p bs) ≡ true → tail ≡ drop 1 (drop p bs)
    → 0 < q → q ≡ prefix_len is_ascii_digit tail → prefix_len is_number_byte (drop q tail) ≡ 0 →
    n ≡ value_from (value (front bs)) (front tail) → n < 10 ^ 9 → e ≡ pos 0 -ℤ pos q
    → ◌≡◌ {A = Read} (word (number (record { negative = false; digits = n; exponent = e })), p + 1 + q) (number_at bs)
fraction_number bs tail n p q e p_is w b tail_is some q_is ends is few exponent_is =
    let split : drop p bs ≡ 46 ∷ tail = begins_is 46 (drop p bs) tail b tail_is in
    let split' : drop (prefix_len is_ascii_digit bs) bs ≡ 46 ∷ tail = ap (λ (k : ℕ). drop k bs) (sym p_is) ∙ split in
    let behind_digits : prefix_len is_number_byte (drop (prefix_len is_ascii_digit bs) bs) ≡ 1 + prefix_len
    is_number_byte tail = ap (prefix_len is_number_byte) split' in
    let ends' : prefix_len is_number_byte (drop (prefix_len is_ascii_digit tail) tail) ≡ 0 =
    ap (λ (k : ℕ). prefix_len is_number_byte (drop k tail)) (sym q_is) ∙ ends in
    let len : prefix_len is_number_byte bs ≡ prefix_len is_ascii_digit bs + suc (prefix_len is_ascii_digit tail) =
    omega (arith, digits_then bs, behind_digits, digits_then tail, ends') in
    let run : take (prefix_len is_number_byte bs) bs ≡ front bs ++ 46 ∷ front tail =
    ap (λ (k : ℕ). take k bs) len ∙ run_is_parts bs tail split' in
    ap₂ (λ t k. (t, k))
    (sym (ap number_of run ∙ parts_are (front bs) (front tail) n q e (front_digits bs) (front_digits tail) w some
    (front_len tail ∙ sym q_is) is few exponent_is)) (omega (arith, p_is, q_is, len))

pub first_digit : (bs : List ℕ) (n : ℕ) → n ≡ prefix_len is_ascii_digit bs → is_whole_part (front bs) ≡ true →
    (is_ascii_digit (get_or bs 0 0) ≡ true) × (0 < n)
first_digit bs n e w =
    let some = some_digits (front bs) w in
    let lt : 0 < prefix_len is_ascii_digit bs = omega (arith, some, front_len bs) in
    (prefix_len_passes is_ascii_digit bs 0 0 lt, omega (arith, e, lt))
