-- The parts of a text (this project's profile; digits are decimal).
use Rattle.std.specs.Prelude.{ℕ, ℤ, ◌+◌, ◌-◌, ◌/◌, ◌%◌, ◌==◌, nat_lt, nat_le, ◌&&◌, Bool, true}
use Rattle.std.specs.Prelude.{false, not, List, [], ◌∷◌, ◌++◌, if◌then◌else◌, codes}
use Rattle.std.specs.List.{flat_map}
use Rattle.report_form.specs.Numerals.{numeral, signed_numeral}
use Rattle.report_form.specs.declared.parts.Part.{Part}
use Rattle.report_form.specs.declared.parts.Part.TheVariants.{Text, Count, Amount, Counts, Numbers}
use Rattle.report_form.specs.declared.parts.Part.TheVariants.{Amounts, Flags, Tally, Name}

-- each number behind a space
abbrev pub spaced : List ℤ → List ℕ
spaced = flat_map (λ x. 32 ∷ signed_numeral x)

abbrev pub spaced_counts : List ℕ → List ℕ
spaced_counts = flat_map (λ n. 32 ∷ numeral n)

abbrev pub flag_text : Bool → List ℕ
flag_text true = codes " 1"
flag_text false = codes " 0"

abbrev pub spaced_flags : List Bool → List ℕ
spaced_flags = flat_map flag_text

-- ---- a name between double quotes

-- a hexadecimal digit, in lower case
abbrev pub hex_of : ℕ → ℕ
hex_of k = if nat_lt k 10 then 48 + k else 97 + (k - 10)

-- neither a control character, nor a quote, nor a backslash
abbrev pub stands_as_is : ℕ → Bool
stands_as_is byte = nat_le 32 byte && (not (byte == 34) && not (byte == 92))

-- a byte in a name: itself, or `\u00` and two digits, or behind a backslash
unfoldable pub escaped : ℕ → List ℕ
escaped byte =
    if stands_as_is byte then byte ∷ []
    else if nat_lt byte 32 then codes "\\u00" ++ hex_of (byte / 16) ∷ hex_of (byte % 16) ∷ []
    else 92 ∷ byte ∷ []

abbrev pub closed : List ℕ → List ℕ
closed name = flat_map escaped name ++ codes "\""

abbrev pub quoted : List ℕ → List ℕ
quoted name = codes "\"" ++ closed name

-- a word and a number, or nothing where the number is 0
abbrev pub tally : List ℕ → ℕ → List ℕ
tally word n = if n == 0 then [] else word ++ numeral n

-- ---- the text of a part

abbrev pub part_text : Part → List ℕ
part_text (Text piece) = piece.now
part_text (Count n) = numeral n
part_text (Amount x) = signed_numeral x
part_text (Counts ns) = spaced_counts ns.now
part_text (Numbers xs) = spaced xs.now
part_text (Amounts xs) = spaced xs.now
part_text (Flags flags) = spaced_flags flags.now
part_text (Tally word n) = tally word.now n
part_text (Name name) = quoted name.now
