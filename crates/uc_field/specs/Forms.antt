-- The forms of a case file's fields: each reads one value at a site, with its tests in order.
use Rattle.std.specs.Prelude.{ℕ, ◌==◌, Bool, List, [], length, Option, Result, Ok, ℤ, pos}
use Rattle.std.specs.Prelude.{nat_abs, unsigned_abs, nat_lt, int_lt, not}
use Rattle.uc_model.specs.declared.limits.TheConstants.{MOST_TIME}
use Rattle.text_tokens.specs.declared.decimal.Decimal.{Decimal}
use Rattle.text_tokens.specs.Rounding.{rounded}
use Rattle.uc_text.specs.Values.{Value}
use Rattle.uc_text.specs.Pairs.{Pair}
use Rattle.uc_text.specs.Inside.{number_in, list_in, object_in, value_under, is_whole, bit_of}
use Rattle.uc_field.specs.Sites.{fault, field_at, item_at, key_of}
use Rattle.uc_text.specs.Magnitudes.{most_cost}
use Rattle.uc_text.specs.Words.{◌>>=◌, ◌>>◌, refuse, need, each, position}
use Rattle.uc_field.specs.declared.fault.CaseCode.TheVariants.{Missing, WrongKind, NotWhole}
use Rattle.uc_field.specs.declared.fault.CaseCode.TheVariants.{Negative, TooLarge, WrongLength, NotFlag}
use Rattle.uc_field.specs.declared.fault.Field.{Field}
use Rattle.uc_field.specs.declared.fault.FieldFault.{FieldFault}
use Rattle.uc_field.specs.declared.fault.Site.{Site}

-- What tests of a case give: a value, or the fault of the first test that failed.
abbrev pub Read : Type 0 → Type 0
Read A = Result A FieldFault

abbrev pub decimal : Site → Value → Read Decimal
decimal at v = need (fault at WrongKind) (number_in v)

abbrev pub list : Site → Value → Read (List Value)
list at v = need (fault at WrongKind) (list_in v)

abbrev pub object : Site → Value → Read (List Pair)
object at v = need (fault at WrongKind) (object_in v)

-- a number at a scale, from 0 to a limit
unfoldable pub amount : ℕ → ℕ → Site → Value → Read ℤ
amount scale limit at v = do
  d ← decimal at v
  refuse (fault at TooLarge) (nat_lt limit (unsigned_abs (rounded d scale)))
  refuse (fault at Negative) (int_lt (rounded d scale) (pos 0))
  Ok (rounded d scale)

-- in thousandths: kilowatts of megawatts
abbrev pub power : ℕ → Site → Value → Read ℤ
power = amount 3

-- in millionths of the currency
unfoldable pub cost : Site → Value → Read ℤ
cost at v = do
  d ← decimal at v
  refuse (fault at TooLarge) (nat_lt most_cost (unsigned_abs (rounded d 6)))
  Ok (rounded d 6)

abbrev pub start_cost : Site → Value → Read ℤ
start_cost = amount 6 most_cost

unfoldable pub time_within : ℕ → Site → Value → Read ℕ
time_within limit at v = do
  d ← decimal at v
  refuse (fault at NotWhole) (not (is_whole d))
  refuse (fault at TooLarge) (nat_lt limit (unsigned_abs (rounded d 0)))
  refuse (fault at Negative) (int_lt (rounded d 0) (pos 0))
  Ok (nat_abs (rounded d 0))

abbrev pub time : Site → Value → Read ℕ
time = time_within MOST_TIME

unfoldable pub flag : Site → Value → Read Bool
flag at v = do
  d ← decimal at v
  refuse (fault at NotWhole) (not (is_whole d))
  need (fault at NotFlag) (bit_of d)

-- ---- keys of an object

-- the value under a key that must be there
abbrev pub under : Site → List ℕ → List Pair → Read Value
under at key members = need (fault at Missing) (value_under key members)

-- a key of an item, whose faults are those of the item's site
abbrev pub part : {A : Type 0} → Site → List ℕ → (Site → Value → Read A) → List Pair → Read A
part at name form members = do
  v ← under at name members
  form at v

-- A unit or the case: the site of its faults but for the field, and its members.
pub record Keys : Type 0 where
  pub at : Site
  pub members : List Pair

abbrev pub keys : Site → List Pair → Keys
keys at members = record { at = at; members = members }

-- a key of a unit or of the case, whose faults name its field
abbrev pub key : {A : Type 0} → Keys → Field → (Site → Value → Read A) → Read A
key o f form = do
  v ← under (field_at o.at f) (key_of f) o.members
  form (field_at o.at f) v

-- a key that may be absent
abbrev pub key_or_none : {A : Type 0} → Keys → Field → (Site → Option Value → Read A) → Read A
key_or_none o f form = form (field_at o.at f) (value_under (key_of f) o.members)

-- an item of a list, at the site of its position
abbrev pub at_item : {A : Type 0} → (Site → List A → Value → Read A)
    → Site → List A → Value → Read A
at_item read at before v = read (item_at at (position before)) before v

-- the items of a list, each at the site of its position
abbrev pub items : {A : Type 0} → (Site → List A → Value → Read A)
    → Site → List Value → Read (List A)
items read at vs = each (λ before. read (item_at at (position before)) before) [] vs

-- the items of a list of at most so many
unfoldable pub few : {A : Type 0} → (Site → List A → Value → Read A) → ℕ
    → Site → Value → Read (List A)
few read most at v = do
  vs ← list at v
  refuse (fault at TooLarge) (nat_lt most (length vs))
  each (read at) [] vs

-- a list of an item for each period
unfoldable pub full : ℕ → Site → Value → Read (List Value)
full periods at v = do
  vs ← list at v
  refuse (fault at WrongLength) (not (length vs == periods))
  Ok vs
