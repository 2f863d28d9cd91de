-- The kinds of tokens (RFC 8259).
use Rattle.std.specs.Prelude.{ℕ, List}
use Rattle.text_tokens.specs.Scalars.{Scalar, text}

pub data Token : Type 0 where
  open_list : Token
  close_list : Token
  open_object : Token
  close_object : Token
  comma : Token
  colon : Token
  word : Scalar → Token
  -- what is no token, and the end of the input: no value has either
  bad : Token
  end : Token

-- a member's key
abbrev pub key : List ℕ → Token
key k = word (text k)
