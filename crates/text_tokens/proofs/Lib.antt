-- The names from elsewhere that the proofs here cite.
pub mod Common
-- decimal.rt: powers of ten, and numbers that are multiples of one
pub mod Powers
-- decimal.rt, decimal_laws.rt: the number that is computed is the nearest one, and the only one
pub mod Nearest
-- the definition of rounding, at numbers that were worked out by hand
pub mod Worked
-- the longest run in front
pub mod Runs
-- the tokens from an offset on, and those from the next offset
pub mod Ahead
-- how the value of digits grows
pub mod Digits
-- the parts of a number
pub mod NumberParts
-- strings, piece by piece
pub mod Texts
-- texts stay UTF-8, piece by piece
pub mod Escapes
-- numbers of few digits, which are read in one pass
pub mod ShortNumbers
-- strings of bytes that stand for themselves
pub mod PlainStrings
-- the string with nothing in it, which stands where no string is closed
pub mod Shortest
-- whether a string says a text, piece by piece
pub mod SaidTexts
-- The lemmas that answers cite.
pub mod Lemmas
