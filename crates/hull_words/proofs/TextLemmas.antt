-- What std says of a text's parts, in the words of this crate.
use Rattle.hull_words.proofs.Common.{◌≡◌, ℕ, ◌<◌, ◌≤◌, ◌^◌, Bool, true, false, not, ◌&&◌, eqb, leb, ltb, List, [], ◌∷◌}
use Rattle.hull_words.proofs.Common.{◌++◌, length, take, drop, get_or, Some, None, Result, Ok, Err, refl, sym, ap, ◌∙◌}
use Rattle.hull_words.proofs.Common.{arith, rules, inl, inr, starts_is, same_Some, list_all, position_or_len}
use Rattle.hull_words.proofs.Common.{before_first, after_first, is_option, is_equals, option_name, own_value}
use Rattle.hull_words.proofs.Common.{can_be_value, is_numeral, number_in}
use Rattle.std.specs.Prelude.{codes}
use Rattle.std.proofs.lemmas.Bool.Decides.{Decides-eqb, nat_tests}
use Rattle.std.proofs.lemmas.Bool.{le-ltb, cases_lt}
use Rattle.std.proofs.lemmas.Str.Parse.{IsDigitsTest, IsNumeralModel, numerals_by_value, parse_digits}
use Rattle.std.specs.Result.{result_ok}
use Rattle.std.specs.Char.{is_ascii_digit}
use Rattle.std.specs.Str.Parse.{ParsesUnsigned, digits_value}
use Rattle.std.specs.Str.Pattern.{LacksTextAt}

pub is_option-true : (word rest : List ℕ) → word ≡ codes "--" ++ rest → is_option word ≡ true
unfolding is_option
is_option-true word rest e = (starts_is Decides-eqb word (codes "--") (is_option word) refl).1 rest e

is_not_option : (word : List ℕ) (b : Bool) → LacksTextAt (codes "--") word 0 →
    (b ≡ true → word ≡ codes "--" ++ drop 2 word) → b ≡ false
is_not_option word true lacks h = absurd (lacks (drop 2 word) (h refl))
is_not_option word false lacks h = refl

pub is_option-false : (word : List ℕ) → LacksTextAt (codes "--") word 0 → is_option word ≡ false
unfolding is_option
is_option-false word lacks =
    is_not_option word (is_option word) lacks (starts_is Decides-eqb word (codes "--") (is_option word) refl).0

-- what `strip_prefix` found
pub record IsStripped (word text : List ℕ) : Type 0 where
  pub option : is_option word ≡ true
  pub rest : text ≡ drop 2 word

pub stripped : (word text : List ℕ) (n : ℕ) → n ≡ 2 → word ≡ 45 ∷ 45 ∷ drop n word → text ≡ drop n word →
    IsStripped word text
stripped word text n two e rest =
    record { option = is_option-true word (drop n word) e; rest = rest ∙ ap (λ (k : ℕ). drop k word) two }

-- the parts round the first `=` of what follows the dashes
pub name-before : (word text name : List ℕ) → text ≡ drop 2 word → name ≡ before_first is_equals text →
    name ≡ option_name word
unfolding option_name
name-before word text name e h = h ∙ ap (before_first is_equals) e

pub value-behind : (word text value : List ℕ) → text ≡ drop 2 word → position_or_len is_equals text < length text →
    value ≡ after_first is_equals text → Some value ≡ own_value word
unfolding own_value
value-behind word text value e lt h =
    let at : ltb (position_or_len is_equals (drop 2 word)) (length (drop 2 word)) ≡ true =
    rw (← e) (grind (arith, nat_tests)) in
    rw (at, ← e, h) refl

take_whole : (xs : List ℕ) → take (length xs) xs ≡ xs
take_whole [] = refl
take_whole (x ∷ xs) = ap (λ (ys : List ℕ). x ∷ ys) (take_whole xs)

pub name-whole : (word text : List ℕ) → text ≡ drop 2 word → position_or_len is_equals text ≡ length text →
    text ≡ option_name word
unfolding option_name
name-whole word text e h = rw (← e, h) (sym (take_whole text))

pub value-none : (word text : List ℕ) → text ≡ drop 2 word → position_or_len is_equals text ≡ length text →
    None ≡ own_value word
unfolding own_value
value-none word text e h =
    let at : ltb (position_or_len is_equals (drop 2 word)) (length (drop 2 word)) ≡ false =
    rw (← e) (le-ltb _ _ (omega (arith, h))) in
    rw at refl

-- numbers
tells : IsDigitsTest (λ ds. list_all is_ascii_digit ds ≡ true)
tells = search rules

own : IsNumeralModel (λ ds. list_all is_ascii_digit ds ≡ true) (digits_value 10)
own = numerals_by_value _ tells

and_false : (a : Bool) → (a && false) ≡ false
and_false true = refl
and_false false = refl

is_numeral-long : (text : List ℕ) → 20 < length text → is_numeral text ≡ false
unfolding is_numeral
is_numeral-long text long =
    let at : leb (length text) 20 ≡ false = grind (arith, nat_tests) in
    rw (at, and_false (leb 1 (length text))) refl

is_numeral-other : (text : List ℕ) → list_all is_ascii_digit text ≡ false → is_numeral text ≡ false
unfolding is_numeral
is_numeral-other text h = rw h (and_false (leb 1 (length text) && leb (length text) 20))

is_numeral-empty : (text : List ℕ) → length text ≤ 0 → is_numeral text ≡ false
unfolding is_numeral
is_numeral-empty text h =
    let at : leb 1 (length text) ≡ false = grind (arith, nat_tests) in
    rw at refl

is_numeral-true : (text : List ℕ) → 0 < length text → length text ≤ 20 → list_all is_ascii_digit text ≡ true →
    is_numeral text ≡ true
unfolding is_numeral
is_numeral-true text some short h =
    let low : leb 1 (length text) ≡ true = grind (arith, nat_tests) in
    let high : leb (length text) 20 ≡ true = grind (arith, nat_tests) in
    rw (low, high, h) refl

other : (least most : ℕ) (text : List ℕ) → is_numeral text ≡ false → number_in least most text ≡ None
unfolding number_in
other least most text h = rw h refl

pub number_in-long : (least most : ℕ) (text : List ℕ) → 20 < length text → number_in least most text ≡ None
number_in-long least most text long = other least most text (is_numeral-long text long)

pub number_in-other : (least most : ℕ) (text : List ℕ) → list_all is_ascii_digit text ≡ false →
    number_in least most text ≡ None
number_in-other least most text h = other least most text (is_numeral-other text h)

-- what is above the range, or below it
pub number_in-above : (least most : ℕ) (text : List ℕ) → most < digits_value 10 text → number_in least most text ≡ None
unfolding number_in
number_in-above least most text h =
    let at : leb (digits_value 10 text) most ≡ false = grind (arith, nat_tests) in
    rw (at, and_false (leb least (digits_value 10 text)), and_false (is_numeral text)) refl

pub number_in-below : (least most : ℕ) (text : List ℕ) → digits_value 10 text < least → number_in least most text ≡ None
unfolding number_in
number_in-below least most text h =
    let at : leb least (digits_value 10 text) ≡ false = grind (arith, nat_tests) in
    rw (at, and_false (is_numeral text)) refl

pub number_in-within : (least most : ℕ) (text : List ℕ) → 0 < length text → length text ≤ 20 →
    list_all is_ascii_digit text ≡ true
    → least ≤ digits_value 10 text → digits_value 10 text ≤ most →
    number_in least most text ≡ Some (digits_value 10 text)
unfolding number_in
number_in-within least most text some short digits low high =
    let below : leb least (digits_value 10 text) ≡ true = grind (arith, nat_tests) in
    let above : leb (digits_value 10 text) most ≡ true = grind (arith, nat_tests) in
    rw (is_numeral-true text some short digits, below, above) refl

-- what `parse` read is the number that the digits write
pub parsed : {E : Type 0} (text : List ℕ) (r : Result ℕ E) (n : ℕ) → ParsesUnsigned 64 10 text r →
    list_all is_ascii_digit text ≡ true → Some n ≡ result_ok r
    → (0 < length text) × (n ≡ digits_value 10 text)
parsed {E} text (Ok m) n h digits e = let p = parse_digits own {E = E} 64 text (Ok m) h digits in
    (p.0.0, same_Some n m e ∙ p.1)
parsed text (Err d) n h digits e = absurd cc

-- and where it read none, there are no digits, or the number is too large for 64 bits
pub not_parsed : {E : Type 0} (least most : ℕ) (text : List ℕ) (r : Result ℕ E) → most < 2 ^ 64 →
    ParsesUnsigned 64 10 text r → list_all is_ascii_digit text ≡ true → None ≡ result_ok r
    → number_in least most text ≡ None
not_parsed least most text (Ok m) fits h digits e = absurd cc
not_parsed {E} least most text (Err d) fits h digits e =
    let p = parse_digits own {E = E} 64 text (Err d) h digits in
    elim (cases_lt 0 (length text)) [
      | inr empty ↦ other least most text (is_numeral-empty text empty)
      | inl some ↦ elim (cases_lt (digits_value 10 text) (2 ^ 64)) [
        | inl small ↦ absurd (p (some, small))
        | inr large ↦ number_in-above least most text (omega arith)
      ]
    ]

-- values
pub can_be_value-first : (text : List ℕ) → 1 ≤ length text → not (eqb (get_or text 0 0) 45) ≡ can_be_value text
unfolding can_be_value
can_be_value-first [] h = absurd (omega arith)
can_be_value-first (byte ∷ bytes) h = refl

pub can_be_value-empty : (text : List ℕ) → length text ≤ 0 → can_be_value text ≡ false
unfolding can_be_value
can_be_value-empty [] h = refl
can_be_value-empty (byte ∷ bytes) h = absurd (omega arith)

not_true : (b : Bool) → (b ≡ true → ⊥) → b ≡ false
not_true true h = absurd (h refl)
not_true false h = refl

-- what may be a value is no option
pub is_option-value : (value : List ℕ) → can_be_value value ≡ true → is_option value ≡ false
unfolding is_option can_be_value
is_option-value value h = not_true (is_option value) (λ e.
    let dashes = (starts_is Decides-eqb value (codes "--") (is_option value) refl).0 e in
    let refused : can_be_value value ≡ false = ap can_be_value dashes in
    cc)
