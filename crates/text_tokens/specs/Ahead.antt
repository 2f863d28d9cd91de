-- What lies ahead of a reader.
use Rattle.std.specs.Prelude.{ℕ, ◌-◌, List, length}
use Rattle.text_tokens.specs.Tokens.{Lexed}
use Rattle.text_tokens.specs.Offsets.{rest_at}
use Rattle.text_tokens.specs.declared.reader.Reader.{Reader}

abbrev pub rest : Reader → List Lexed
rest r = rest_at r.bytes.now r.at

-- how many bytes
abbrev pub ahead : Reader → ℕ
ahead r = length r.bytes.now - r.at
