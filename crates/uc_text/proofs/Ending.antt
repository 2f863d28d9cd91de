-- No bytes are the token at the end.
use Rattle.uc_text.proofs.Common.{◌≡◌, ℕ, Bool, true, false, cond, List, Option, Some, None, refl, rules, Token, Piece}
use Rattle.uc_text.proofs.Common.{string_of, string_token, string_at, Read, word_of, token_at, goes}
use Rattle.text_tokens.specs.Numbers.{number_token, power_digits, power, behind_fraction, behind_whole, unsigned}
use Rattle.text_tokens.specs.Numbers.{number_of}

either : (b : Bool) (t u : Token) → goes t ≡ true → goes u ≡ true → goes (cond b t u) ≡ true
either true t u h k = h
either false t u h k = k

either_read : (b : Bool) (r s : Read) → goes r.0 ≡ true → goes s.0 ≡ true → goes (cond b r s).0 ≡ true
either_read true r s h k = h
either_read false r s h k = k

goes-number_token : (negative : Bool) (whole fraction : List ℕ) (lowers : Bool) (written : List ℕ) →
    goes (number_token negative whole fraction lowers written) ≡ true
unfolding number_token
goes-number_token negative whole fraction lowers written = search (rules, either)

goes-power_digits : (negative : Bool) (whole fraction : List ℕ) (lowers : Bool) (bs : List ℕ) →
    goes (power_digits negative whole fraction lowers bs) ≡ true
unfolding power_digits
goes-power_digits negative whole fraction lowers bs = search (rules, either, goes-number_token)

goes-power : (negative : Bool) (whole fraction bs : List ℕ) → goes (power negative whole fraction bs) ≡ true
unfolding power
goes-power negative whole fraction bs = search (rules, either, goes-power_digits)

goes-behind_fraction : (negative : Bool) (whole fraction bs : List ℕ) →
    goes (behind_fraction negative whole fraction bs) ≡ true
unfolding behind_fraction
goes-behind_fraction negative whole fraction bs = search (rules, either, goes-number_token, goes-power)

goes-behind_whole : (negative : Bool) (whole bs : List ℕ) → goes (behind_whole negative whole bs) ≡ true
unfolding behind_whole
goes-behind_whole negative whole bs = search (rules, either, goes-behind_fraction)

goes-unsigned : (negative : Bool) (bs : List ℕ) → goes (unsigned negative bs) ≡ true
unfolding unsigned
goes-unsigned negative bs = search (rules, either, goes-behind_whole)

goes-number_of : (run : List ℕ) → goes (number_of run) ≡ true
unfolding number_of
goes-number_of run = search (rules, either, goes-unsigned)

goes-word_of : (run : List ℕ) → goes (word_of run) ≡ true
goes-word_of run = search (rules, either)

goes-string_token : (s : Option Piece) → goes (string_token s).0 ≡ true
goes-string_token None = refl
goes-string_token (Some s) = refl

goes-string_at : (bs : List ℕ) → goes (string_at bs).0 ≡ true
unfolding string_at
goes-string_at bs = goes-string_token (string_of bs)

pub goes-token_at : (b : ℕ) (bytes : List ℕ) → goes (token_at b bytes).0 ≡ true
unfolding token_at
goes-token_at b bytes = search (rules, either_read, goes-string_at, goes-number_of, goes-word_of)
