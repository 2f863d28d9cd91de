-- The text of a value (RFC 8259), and the first fault of what is none (this project's profile).
use Rattle.std.specs.Prelude.{◌≡◌, ℕ, List, ◌∷◌, ◌++◌}
use Rattle.uc_text.specs.Values.{Value}
use Rattle.uc_text.specs.Grammar.{whole}
use Rattle.uc_text.specs.Faults.{double_keys, Passes, IsFault}
use Rattle.text_tokens.specs.Tokens.{Lexed, tokens, kinds}
use Rattle.uc_text.specs.Offsets.{test_of}
use Rattle.uc_text.specs.declared.fault.TextFault.{TextFault}

-- The bytes are a text of this value, which passes every test; so many levels are allowed.
abbrev pub IsText : ℕ → List ℕ → Value → Type 0
IsText limit bytes v = (kinds (tokens bytes) ≡ whole v) × Passes double_keys limit v

pub record IsFirstFault (limit : ℕ) (bytes : List ℕ) (f : TextFault) : Type 0 where
  pub before : List Lexed
  pub at : Lexed
  pub after : List Lexed
  pub parts : tokens bytes ≡ before ++ at ∷ after
  pub offset : f.offset ≡ at.offset
  pub fails : IsFault limit (kinds before) at.token (test_of f.code)
