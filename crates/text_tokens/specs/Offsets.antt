-- What the reader's functions say of the tokens with their offsets.
use Rattle.std.specs.Prelude.{◌≡◌, ℕ, true, List, ◌∷◌, ◌++◌, drop}
use Rattle.text_tokens.specs.Grammar as grammar
use Rattle.text_tokens.specs.Tokens.{Lexed, lexed, kinds, tokens_from}
use Rattle.text_tokens.specs.Goes.{goes}
use Rattle.text_tokens.specs.Seen.{token_of}
use Rattle.text_tokens.specs.declared.token.Lexeme.{Lexeme}

abbrev pub seen : Lexeme → Lexed
seen l = lexed (token_of l.token) l.offset

-- the tokens from an offset on
abbrev pub rest_at : List ℕ → ℕ → List Lexed
rest_at bytes at = tokens_from at 0 (drop at bytes)

-- this is the first of the tokens, and those are the others
abbrev pub NextIs : List Lexed → Lexed → List Lexed → Type 0
NextIs ts first others =
    (more : List Lexed) × (ts ≡ first ∷ more) × (goes first.token ≡ true → more ≡ others)

-- the tokens are a part that is spelled so, and the others
pub record Takes (ts : List Lexed) (spelled : List grammar.Token) (others : List Lexed) : Type
    0 where
  pub part : List Lexed
  pub parts : ts ≡ part ++ others
  pub kinds_are : kinds part ≡ spelled
