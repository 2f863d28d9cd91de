-- Whether tokens lie behind this one.
use Rattle.std.specs.Prelude.{Bool, true, false}
use Rattle.text_tokens.specs.Grammar as grammar

-- tokens lie behind it
abbrev pub goes : grammar.Token → Bool
goes grammar.end = false
goes t = true
