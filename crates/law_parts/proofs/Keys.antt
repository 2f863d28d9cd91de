-- The keys and texts among the tokens of a file are UTF-8.
use Rattle.law_parts.proofs.ReaderNames.{◌≡◌, ℕ, zero, suc, ◌-◌, Bool, true, false, cond, List, [], ◌∷◌, take, drop}
use Rattle.law_parts.proofs.ReaderNames.{Option}
use Rattle.law_parts.proofs.ReaderNames.{Some, None, refl, AllByRecursion, IsUtf8}
unfoldable use Rattle.text_tokens.specs.Numbers.{
  number_token,
  power_digits,
  power,
  behind_fraction,
  behind_whole,
  unsigned,
  number_of,
}
use Rattle.std.specs.Char.{is_ascii_digit}
use Rattle.std.specs.List.{prefix_len}
use Rattle.std.specs.Prelude.{◌==◌, ◌||◌}
use Rattle.text_tokens.specs.Grammar.{Token, open_list, close_list, open_object, close_object, comma, colon, word, bad}
use Rattle.text_tokens.specs.Scalars.{null, flag, number, long_number, text}
use Rattle.text_tokens.specs.declared.decimal.Decimal.{Decimal}
unfoldable use Rattle.text_tokens.specs.Strings.{string_of, string_at}
use Rattle.text_tokens.specs.Strings.{Piece, string_token}
unfoldable use Rattle.text_tokens.specs.Tokens.{token_at, tokens_from}
use Rattle.text_tokens.specs.Tokens.{lexed, Read, is_blank, is_letter, word_of, word_at, number_at, kinds}
use Rattle.law_parts.proofs.Strings.{says_utf8}

-- a text is UTF-8; nothing is said of other tokens
abbrev IsKeptText : Token → Type 0
IsKeptText (word (text t)) = IsUtf8 t
IsKeptText t = Unit {0}

pub record IsKept (t : Token) : Type 0 where
  pub says : IsKeptText t

either : (t : Bool) (x y : Token) → IsKept x → IsKept y → IsKept (cond t x y)
either true x y h i = h
either false x y h i = i

either_read : (t : Bool) (x y : Read) → IsKept x.0 → IsKept y.0 → IsKept (cond t x y).0
either_read true x y h i = h
either_read false x y h i = i

-- ---- numbers and words are no texts

bad_kept : IsKept bad
bad_kept = record { says = tt }

digits_kept : (d : Decimal) → IsKept (word (number d))
digits_kept d = record { says = tt }

long_kept : IsKept (word long_number)
long_kept = record { says = tt }

null_kept : IsKept (word null)
null_kept = record { says = tt }

flag_kept : (b : Bool) → IsKept (word (flag b))
flag_kept b = record { says = tt }

number_token_kept : (negative : Bool) (whole fraction : List ℕ) (lowers : Bool) (digits : List ℕ) →
    IsKept (number_token negative whole fraction lowers digits)
unfolding number_token
number_token_kept negative whole fraction lowers digits = search (either, digits_kept, long_kept)

power_digits_kept : (negative : Bool) (whole fraction : List ℕ) (lowers : Bool) (bs : List ℕ) →
    IsKept (power_digits negative whole fraction lowers bs)
unfolding power_digits
power_digits_kept negative whole fraction lowers bs = search (either, number_token_kept, bad_kept)

power_kept : (negative : Bool) (whole fraction bs : List ℕ) → IsKept (power negative whole fraction bs)
unfolding power
power_kept negative whole fraction bs = search (either, power_digits_kept)

behind_fraction_kept : (negative : Bool) (whole fraction bs : List ℕ) →
    IsKept (behind_fraction negative whole fraction bs)
unfolding behind_fraction
behind_fraction_kept negative whole fraction bs = search (either, number_token_kept, power_kept, bad_kept)

behind_whole_kept : (negative : Bool) (whole bs : List ℕ) → IsKept (behind_whole negative whole bs)
unfolding behind_whole
behind_whole_kept negative whole bs = search (either, behind_fraction_kept, bad_kept)

unsigned_kept : (negative : Bool) (bs : List ℕ) → IsKept (unsigned negative bs)
unfolding unsigned
unsigned_kept negative bs = search (either, behind_whole_kept, bad_kept)

number_kept : (run : List ℕ) → IsKept (number_of run)
unfolding number_of
number_kept run = search (either, unsigned_kept)

word_kept : (run : List ℕ) → IsKept (word_of run)
word_kept run = search (either, null_kept, flag_kept, bad_kept)

-- ---- strings

string_kept : (bs : List ℕ) → IsKept (string_at bs).0
unfolding string_at
string_kept bs = by_string (string_of bs) refl
  where
    by_string : (s : Option Piece) → string_of bs ≡ s → IsKept (string_token s).0
    by_string None e = record { says = tt }
    by_string (Some s) e = record { says = says_utf8 bs s e }

-- ---- all tokens

token_kept : (b : ℕ) (bytes : List ℕ) → IsKept (token_at b bytes).0
unfolding token_at
token_kept b bytes =
    either_read (b == 123) (open_object, 1) _ (record { says = tt })
    (either_read (b == 125) (close_object, 1) _ (record { says = tt })
    (either_read (b == 91) (open_list, 1) _ (record { says = tt })
    (either_read (b == 93) (close_list, 1) _ (record { says = tt })
    (either_read (b == 44) (comma, 1) _ (record { says = tt })
    (either_read (b == 58) (colon, 1) _ (record { says = tt })
    (either_read (b == 34) (string_at (drop 1 bytes)) _ (string_kept (drop 1 bytes))
    (either_read (b == 45 || is_ascii_digit b) (number_at bytes) _ (number_kept _)
    (either_read (is_letter b) (word_at bytes) (bad, 1) (word_kept (take (prefix_len is_letter bytes) bytes))
    (record { says = tt })))))))))

pub tokens_kept : (at passing : ℕ) (bytes : List ℕ) → AllByRecursion IsKept (kinds (tokens_from at passing bytes))
unfolding tokens_from
tokens_kept at passing [] = (record { says = tt }, tt)
tokens_kept at (suc passing) (b ∷ bytes) = tokens_kept (suc at) passing bytes
tokens_kept at zero (b ∷ bytes) = by_blank (is_blank b) (λ k. tokens_kept (suc at) k bytes)
  where
    by_blank : (t : Bool) → ((k : ℕ) → AllByRecursion IsKept (kinds (tokens_from (suc at) k bytes)))
        → AllByRecursion IsKept
        (kinds (cond t (tokens_from (suc at) 0 bytes)
        (lexed (token_at b (b ∷ bytes)).0 at ∷ tokens_from (suc at) ((token_at b (b ∷ bytes)).1 - 1) bytes)))
    by_blank true behind = behind 0
    by_blank false behind = (token_kept b (b ∷ bytes), behind ((token_at b (b ∷ bytes)).1 - 1))
