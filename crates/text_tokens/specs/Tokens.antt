-- The tokens of a list of bytes, each with the offset of its first byte.
use Rattle.std.specs.Prelude.{ℕ, zero, suc, ◌-◌, ◌==◌, ◌&&◌, ◌||◌, Bool, true, false, nat_le}
use Rattle.std.specs.Prelude.{if◌then◌else◌, List, [], ◌∷◌, take, drop, codes, bytes_eq}
use Rattle.std.specs.Char.{is_ascii_digit}
use Rattle.std.specs.List.{prefix_len}
use Rattle.text_tokens.specs.Scalars.{null, flag}
use Rattle.text_tokens.specs.Grammar.{Token, open_list, close_list, open_object, close_object}
use Rattle.text_tokens.specs.Grammar.{comma, colon, word, bad, end}
use Rattle.text_tokens.specs.Numbers.{is_number_byte, number_of}
use Rattle.text_tokens.specs.Strings.{string_at}

abbrev pub is_blank : ℕ → Bool
is_blank b = b == 32 || b == 9 || b == 10 || b == 13

abbrev pub is_letter : ℕ → Bool
is_letter b = nat_le 97 b && nat_le b 122

-- a token by itself
abbrev pub is_mark : ℕ → Bool
is_mark b = b == 44 || b == 91 || b == 93 || b == 123 || b == 125 || b == 58

abbrev pub word_of : List ℕ → Token
word_of run =
    if bytes_eq run (codes "null") then word null
    else if bytes_eq run (codes "true") then word (flag true)
    else if bytes_eq run (codes "false") then word (flag false)
    else bad

-- A token, and how many bytes it takes. What is no token takes one or more.
abbrev pub Read : Type 0
Read = Token × ℕ

-- the longest run of bytes of a number or of letters
abbrev pub number_at : List ℕ → Read
number_at bytes =
    (number_of (take (prefix_len is_number_byte bytes) bytes), prefix_len is_number_byte bytes)

abbrev pub word_at : List ℕ → Read
word_at bytes = (word_of (take (prefix_len is_letter bytes) bytes), prefix_len is_letter bytes)

-- by the first byte
unfoldable pub token_at : ℕ → List ℕ → Read
token_at b bytes =
    if b == 123 then (open_object, 1)
    else if b == 125 then (close_object, 1)
    else if b == 91 then (open_list, 1)
    else if b == 93 then (close_list, 1)
    else if b == 44 then (comma, 1)
    else if b == 58 then (colon, 1)
    else if b == 34 then string_at (drop 1 bytes)
    else if b == 45 || is_ascii_digit b then number_at bytes
    else if is_letter b then word_at bytes
    else (bad, 1)

-- A token, and the offset of its first byte.
pub record Lexed : Type 0 where
  pub token : Token
  pub offset : ℕ

abbrev pub lexed : Token → ℕ → Lexed
lexed t at = record { token = t; offset = at }

-- The tokens from an offset on, where so many bytes of the last token are still to be passed.
unfoldable pub tokens_from : ℕ → ℕ → List ℕ → List Lexed
tokens_from at passing [] = lexed end at ∷ []
tokens_from at (suc passing) (b ∷ bytes) = tokens_from (suc at) passing bytes
tokens_from at zero (b ∷ bytes) =
    if is_blank b then tokens_from (suc at) 0 bytes
    else lexed (token_at b (b ∷ bytes)).0 at ∷ tokens_from (suc at)
    ((token_at b (b ∷ bytes)).1 - 1) bytes

abbrev pub tokens : List ℕ → List Lexed
tokens bytes = tokens_from 0 0 bytes

abbrev pub kinds : List Lexed → List Token
kinds [] = []
kinds (p ∷ ps) = p.token ∷ kinds ps
