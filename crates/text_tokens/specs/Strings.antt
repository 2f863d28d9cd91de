-- The strings of RFC 8259, piece by piece, and the text that each is.
use Rattle.std.specs.Prelude.{ℕ, zero, suc, ◌+◌, ◌-◌, ◌*◌, ◌==◌, ◌&&◌, Bool, nat_lt, nat_le}
use Rattle.std.specs.Prelude.{if◌then◌else◌, List, [], ◌∷◌, ◌++◌, take, drop, length, slice_index}
use Rattle.std.specs.Prelude.{Option, Some, None, option_map, option_and_then}
use Rattle.std.specs.Char.{encode_utf8}
use Rattle.std.specs.Str.{is_utf8}
use Rattle.text_tokens.specs.Grammar.{Token, key, bad}

-- the byte that a letter behind a backslash stands for
unfoldable pub short_of : ℕ → Option ℕ
short_of x =
    if x == 34 then Some 34
    else if x == 92 then Some 92
    else if x == 47 then Some 47
    else if x == 98 then Some 8
    else if x == 102 then Some 12
    else if x == 110 then Some 10
    else if x == 114 then Some 13
    else if x == 116 then Some 9
    else None

unfoldable pub hex_of : ℕ → Option ℕ
hex_of x =
    if nat_le 48 x && nat_le x 57 then Some (x - 48)
    else if nat_le 97 x && nat_le x 102 then Some (x - 87)
    else if nat_le 65 x && nat_le x 70 then Some (x - 55)
    else None

-- the number of four hex digits
unfoldable pub four : ℕ → ℕ → ℕ → ℕ → Option ℕ
four a b c d =
    option_and_then
    (λ w. option_and_then
    (λ x. option_and_then (λ y. option_map (λ z. 4096 * w + 256 * x + 16 * y + z) (hex_of d))
    (hex_of c)) (hex_of b)) (hex_of a)

-- the number of the four in front
unfoldable pub unit_at : List ℕ → Option ℕ
unit_at bs =
    if nat_lt (length bs) 4 then None else four (slice_index bs 0) (slice_index bs 1)
    (slice_index bs 2) (slice_index bs 3)

abbrev pub is_high : ℕ → Bool
is_high u = nat_le 55296 u && nat_le u 56319

abbrev pub is_low : ℕ → Bool
is_low u = nat_le 56320 u && nat_le u 57343

-- What a piece says, and how many bytes it takes.
abbrev pub Piece : Type 0
Piece = List ℕ × ℕ

-- two surrogates say one character
unfoldable pub pair : ℕ → Option ℕ → Option Piece
pair high None = None
pair high (Some low) =
    if is_low low then Some (encode_utf8 (65536 + 1024 * (high - 55296) + (low - 56320)), 12) else
    None

-- the second surrogate, where one is written
unfoldable pub second_at : List ℕ → Option ℕ
second_at bs =
    if slice_index bs 0 == 92 && slice_index bs 1 == 117 then unit_at (drop 2 bs) else None

unfoldable pub unit_piece : ℕ → List ℕ → Option Piece
unit_piece u bs =
    if is_high u then pair u (second_at bs) else if is_low u then None else Some (encode_utf8 u, 6)

-- behind a backslash
unfoldable pub escape_at : List ℕ → Option Piece
escape_at bs =
    if slice_index bs 0 == 117 then option_and_then (λ u. unit_piece u (drop 5 bs))
    (unit_at (drop 1 bs))
    else option_map (λ x. (x ∷ [], 2)) (short_of (slice_index bs 0))

-- the piece that begins with this byte, which isn't a quote
unfoldable pub piece_at : ℕ → List ℕ → Option Piece
piece_at b bs =
    if b == 92 then escape_at (drop 1 bs) else if nat_lt b 32 then None else Some (b ∷ [], 1)

-- a piece in front of others
abbrev pub after_piece : Piece → Piece → Piece
after_piece p s = (p.0 ++ s.0, p.1 + s.1)

-- The pieces up to the closing quote, joined; so many bytes of the last piece are still to be
-- passed.
unfoldable pub string_from : ℕ → List ℕ → Option Piece
string_from passing [] = None
string_from (suc passing) (b ∷ bs) = string_from passing bs
string_from zero (b ∷ bs) =
    if b == 34 then Some ([], 0)
    else option_and_then (λ p. option_map (after_piece p) (string_from (p.1 - 1) bs))
    (piece_at b (b ∷ bs))

-- behind an opening quote: the text, and how many bytes of UTF-8 stand before the closing quote
unfoldable pub string_of : List ℕ → Option Piece
string_of bs =
    option_and_then (λ s. if is_utf8 (take s.1 bs) then Some s else None) (string_from 0 bs)

abbrev pub string_token : Option Piece → Token × ℕ
string_token None = (bad, 1)
string_token (Some s) = (key s.0, s.1 + 2)

unfoldable pub string_at : List ℕ → Token × ℕ
string_at bs = string_token (string_of bs)

abbrev pub len_or : Option Piece → ℕ
len_or None = 0
len_or (Some s) = s.1

abbrev pub text_or : Option Piece → List ℕ
text_or None = []
text_or (Some s) = s.0

-- what a string says
unfoldable pub said : List ℕ → List ℕ
said bs = text_or (string_of bs)
