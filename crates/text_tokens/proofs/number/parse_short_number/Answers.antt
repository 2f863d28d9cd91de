use Rattle.text_tokens.proofs.Common.{◌≡◌, ◌+◌, ℕ, List, Bool, false, true, take, drop, sym, ap, subst, ◌∙◌, arith, pos}
use Rattle.text_tokens.proofs.Common.{ℤ, prefix_len, number, word, Read, is_ascii_digit, is_number_byte, value_from}
use Rattle.text_tokens.proofs.Common.{front, begins_with, is_whole_part}
use Rattle.text_tokens.proofs.Lemmas.{whole_number, fraction_number, first_digit}
use Rattle.text_tokens.proofs.number.parse_short_number.Goals as goal

front_at : (bs : List ℕ) (n : ℕ) → n ≡ prefix_len is_ascii_digit bs → is_whole_part (take n bs) ≡ true →
    is_whole_part (front bs) ≡ true
unfolding front
front_at bs n e w = subst (λ (k : ℕ). is_whole_part (take k bs) ≡ true) e w

abbrev as_read : Bool → ℕ → ℤ → ℕ → Read
as_read negative n e len = (word (number (record { negative = negative; digits = n; exponent = e })), len)

pub returns-then-begins_with-clause-is : goal.returns-then-begins_with-clause-is
returns-then-begins_with-clause-is c =
    let bs = c.args.bytes.now in
    let tail = c.bytes_from.result.now in
    let len = c.in_ok-digits.len in
    let fraction_len = c.in_ok-small.fraction_len in
    let s = c.in_ok-small.small in
    let known = c.in_ok-small.ensures in
    let whole = front_at bs len c.in_ok-digits.ensures.len
    (sym c.is_whole_part.ensures ∙ c.if-not-is_whole_part.false) in
    let point = ap (begins_with 46) (sym c.bytes_from-others.ensures) ∙ sym c.begins_with.ensures ∙
    c.if-begins_with.true in
    ap (λ (b : Bool). as_read b s.digits s.exponent (len + 1 + fraction_len)) known.others.1
    ∙ fraction_number bs tail s.digits len fraction_len s.exponent c.in_ok-digits.ensures.len whole point
    (c.bytes_from.ensures ∙ ap (drop 1) c.bytes_from-others.ensures)
    known.some.0 known.some.1 known.ends (known.digits.0 ∙
    ap (λ (n : ℕ). value_from n (front tail)) c.in_ok-digits.ensures.value) known.digits.1 known.others.0

pub returns-clause-is : goal.returns-clause-is
returns-clause-is c =
    let bs = c.args.bytes.now in
    let len = c.in_ok-digits.len in
    let n = c.in_ok-digits.digits in
    let whole = front_at bs len c.in_ok-digits.ensures.len
    (sym c.is_whole_part.ensures ∙ c.if-not-is_whole_part.false) in
    let ends = ap (λ (k : ℕ). prefix_len is_number_byte (drop k bs)) (sym c.in_ok-digits.ensures.len) ∙
    ap (prefix_len is_number_byte) (sym c.bytes_from-others.ensures) ∙
    c.is_end_of_number.ensures c.if-not-is_end_of_number.false in
    ap (λ (k : ℕ). as_read false n (pos 0) k) c.in_ok-digits.ensures.len ∙
    whole_number bs n whole ends c.in_ok-digits.ensures.value c.in_ok-digits.ensures.small

pub returns-then-begins_with-clause-first : goal.returns-then-begins_with-clause-first
returns-then-begins_with-clause-first c =
    let bs = c.args.bytes.now in
    let len = c.in_ok-digits.len in
    let f = first_digit bs len c.in_ok-digits.ensures.len
    (front_at bs len c.in_ok-digits.ensures.len (sym c.is_whole_part.ensures ∙ c.if-not-is_whole_part.false)) in
    (f.0, omega arith)

pub returns-clause-first : goal.returns-clause-first
returns-clause-first c =
    let bs = c.args.bytes.now in
    let len = c.in_ok-digits.len in
    first_digit bs len c.in_ok-digits.ensures.len
    (front_at bs len c.in_ok-digits.ensures.len (sym c.is_whole_part.ensures ∙ c.if-not-is_whole_part.false))
