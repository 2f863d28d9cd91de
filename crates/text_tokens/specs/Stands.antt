-- Which bytes a token has that is read only when it's wanted.
use Rattle.std.specs.Prelude.{◌≡◌, ℕ, ◌+◌, List, take, drop}
use Rattle.std.specs.List.{prefix_len}
use Rattle.text_tokens.specs.Numbers.{is_number_byte}
use Rattle.text_tokens.specs.declared.token.Word.TheVariants.{LargeNumber}
use Rattle.text_tokens.specs.declared.token.Token.{Token}
use Rattle.text_tokens.specs.declared.token.Token.TheVariants as tokens

-- the bytes of the number in front
abbrev pub number_run : List ℕ → List ℕ
number_run bytes = take (prefix_len is_number_byte bytes) bytes

-- a string has the first of these behind its quote, and a number has the second
abbrev pub RefersTo : Token → List ℕ → List ℕ → Type 0
RefersTo (tokens.Text q) behind run = q.bytes.now ≡ behind
RefersTo (tokens.Word (LargeNumber r)) behind run = r.bytes.now ≡ run
RefersTo t behind run = Unit {0}

-- the token's first byte is at this offset of the text
abbrev pub StandsAt : List ℕ → ℕ → Token → Type 0
StandsAt bytes offset t = RefersTo t (drop (offset + 1) bytes) (number_run (drop offset bytes))
