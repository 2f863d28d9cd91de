-- What a piece of the program says.
use Rattle.std.specs.Prelude.{ℕ, List, [], ◌∷◌, Option, option_map}
use Rattle.std.specs.Char.{encode_utf8}
use Rattle.text_tokens.specs.Strings as spec
use Rattle.text_tokens.specs.declared.strings.Said.{Said}
use Rattle.text_tokens.specs.declared.strings.Said.TheVariants.{Byte, Character}
use Rattle.text_tokens.specs.declared.strings.Piece.{Piece}

abbrev pub said_by : Said → List ℕ
said_by (Byte b) = b ∷ []
said_by (Character c) = encode_utf8 c

abbrev pub piece_of : Piece → spec.Piece
piece_of p = (said_by p.said, p.len)

abbrev pub seen_piece : Option Piece → Option spec.Piece
seen_piece p = option_map piece_of p
