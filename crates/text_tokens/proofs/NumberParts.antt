-- The parts of a number.
use Rattle.text_tokens.proofs.Common.{◌≡◌, ℕ, suc, ◌+◌, ◌-◌, ◌*◌, ◌^◌, ◌<◌, ◌≤◌, true, false, Bool, List, [], ◌∷◌, ◌++◌}
use Rattle.text_tokens.proofs.Common.{length, take, refl, sym, ap, subst, ◌∙◌, arith, nat_le, ap₂, ◌&&◌, if◌then◌else◌}
use Rattle.text_tokens.proofs.Common.{ℤ, pos, neg_ℤ, ◌-ℤ◌, nat_tests, take_all, number, long_number, Token, word}
use Rattle.text_tokens.proofs.Common.{prefix_len, is_ascii_digit, AreDigits, value_from, value, significant}
use Rattle.text_tokens.proofs.Common.{exponent_of, number_token, begins_with, front, behind, is_whole_part}
use Rattle.text_tokens.proofs.Common.{behind_fraction, behind_whole, unsigned, number_of}
use Rattle.text_tokens.proofs.Digits.{large_has_many, is_short, grows}

one_more_digit : (b : ℕ) (bs : List ℕ) (t : Bool) → is_ascii_digit b ≡ t →
    AreDigits (take (prefix_len is_ascii_digit bs) bs) → AreDigits (take (prefix_len is_ascii_digit (b ∷ bs)) (b ∷ bs))
one_more_digit b bs true e h =
    let n = prefix_len is_ascii_digit bs in
    let both : AreDigits (take (suc n) (b ∷ bs)) = (e, h) in
    let one : suc n ≡ 1 + n = omega arith in
    rw e (subst (λ (k : ℕ). AreDigits (take k (b ∷ bs))) one both)
one_more_digit b bs false e h = rw e tt

pub digits_in_front : (bs : List ℕ) → AreDigits (take (prefix_len is_ascii_digit bs) bs)
digits_in_front [] = tt
digits_in_front (b ∷ bs) = one_more_digit b bs (is_ascii_digit b) refl (digits_in_front bs)

pub all_digits : (bs : List ℕ) → prefix_len is_ascii_digit bs ≡ length bs → AreDigits bs
all_digits bs e = subst AreDigits (ap (λ (n : ℕ). take n bs) e ∙ take_all (length bs) bs (omega arith))
    (digits_in_front bs)

AreDigits-append : (xs ys : List ℕ) → AreDigits xs → AreDigits ys → AreDigits (xs ++ ys)
AreDigits-append [] ys h k = k
AreDigits-append (x ∷ xs) ys h k = (h.0, AreDigits-append xs ys h.1 k)

pub value-append : (n : ℕ) (xs ys : List ℕ) → value_from n (xs ++ ys) ≡ value_from (value_from n xs) ys
value-append n [] ys = refl
value-append n (x ∷ xs) ys = value-append (10 * n + (x - 48)) xs ys

-- ---- which numbers are too long

pub and_false : (a : Bool) → (a && false) ≡ false
and_false true = refl
and_false false = refl

not_at_most : (a b : ℕ) → b < a → nat_le a b ≡ false
not_at_most a b lt = grind (arith, nat_tests, lt)

at_most : (a b : ℕ) → a ≤ b → nat_le a b ≡ true
at_most a b le = grind (arith, nat_tests, le)

abbrev short_number : Bool → List ℕ → List ℕ → Bool → List ℕ → Token
short_number negative whole fraction lowers power =
    word (number
    (record { negative = negative; digits = value (whole ++ fraction); exponent = exponent_of lowers power fraction }))

chosen : (negative : Bool) (whole fraction : List ℕ) (lowers : Bool) (power : List ℕ) (a b : Bool) →
    nat_le (length (significant (whole ++ fraction))) 30 ≡ a → nat_le (value power) 400 ≡ b
    → number_token negative whole fraction lowers
    power ≡ (if a && b then short_number negative whole fraction lowers power else word long_number)
unfolding number_token
chosen negative whole fraction lowers power a b e f =
    ap₂ (λ (x y : Bool). if x && y then short_number negative whole fraction lowers power else word long_number) e f

pub too_many : (negative : Bool) (whole fraction : List ℕ) (lowers : Bool) (power : List ℕ) → AreDigits whole →
    AreDigits fraction → 10 ^ 30 ≤ value_from (value whole) fraction
    → word long_number ≡ number_token negative whole fraction lowers power
too_many negative whole fraction lowers power h k large =
    let many = large_has_many (whole ++ fraction) (AreDigits-append whole fraction h k)
    (subst (λ (n : ℕ). 10 ^ 30 ≤ n) (sym (value-append 0 whole fraction)) large) in
    sym (chosen negative whole fraction lowers power false (nat_le (value power) 400) (not_at_most _ _ many) refl)

pub too_far : (negative : Bool) (whole fraction : List ℕ) (lowers : Bool) (power : List ℕ) → 400 < value power →
    word long_number ≡ number_token negative whole fraction lowers power
too_far negative whole fraction lowers power far =
    let a = nat_le (length (significant (whole ++ fraction))) 30 in
    sym (chosen negative whole fraction lowers power a false refl (not_at_most _ _ far) ∙
    ap (λ (x : Bool). if x then short_number negative whole fraction lowers power else word long_number)
    (and_false a))

pub short_enough : (negative : Bool) (whole fraction : List ℕ) (lowers : Bool) (power : List ℕ) (digits : ℕ)
    (exponent : ℤ) → AreDigits whole → AreDigits fraction
    → digits ≡ value_from (value whole) fraction → digits < 10 ^ 30 → value power ≤ 400 →
    exponent ≡ exponent_of lowers power fraction
    → word (number (record { negative = negative; digits = digits; exponent = exponent })) ≡ number_token negative whole
    fraction lowers power
short_enough negative whole fraction lowers power digits exponent h k is small near power_is =
    let all : digits ≡ value (whole ++ fraction) = is ∙ sym (value-append 0 whole fraction) in
    let few = is_short (whole ++ fraction) (AreDigits-append whole fraction h k)
    (subst (λ (n : ℕ). n < 10 ^ 30) all small) in
    ap₂ (λ (n : ℕ) (e : ℤ). word (number (record { negative = negative; digits = n; exponent = e }))) all power_is
    ∙ sym (chosen negative whole fraction lowers power true true (at_most _ _ few) (at_most _ _ near))

pub exponent_is : (lowers : Bool) (power fraction : List ℕ) (written : ℕ) (e : ℤ) → written ≡ value power →
    e ≡ (if lowers then neg_ℤ (pos written) else pos written) -ℤ pos (length fraction) →
    e ≡ exponent_of lowers power fraction
unfolding exponent_of
exponent_is lowers power fraction written e is f =
    f ∙ ap (λ (n : ℕ). (if lowers then neg_ℤ (pos n) else pos n) -ℤ pos (length fraction)) is

pub grown : (n : ℕ) (whole fraction : List ℕ) → n ≤ value whole → n ≤ value_from (value whole) fraction
grown n whole fraction le = let g = grows (value whole) fraction in omega arith

-- ---- a whole number alone

pub plain_exponent : pos 0 ≡ exponent_of false [] []
unfolding exponent_of
plain_exponent = refl

pub no_minus : (run : List ℕ) → begins_with 45 run ≡ false → number_of run ≡ unsigned false run
unfolding number_of
no_minus run e = rw e refl

pub nothing_behind : (run whole : List ℕ) → whole ≡ front run → [] ≡ behind run → is_whole_part whole ≡ true →
    unsigned false run ≡ number_token false whole [] false []
unfolding unsigned behind_whole behind_fraction
nothing_behind run whole e f w = rw (← e, ← f, w) refl
