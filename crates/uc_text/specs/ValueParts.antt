-- The parts of a value that tests look at.
use Rattle.std.specs.Prelude.{Bool, true, false, List, [], ◌∷◌, Option, Some, None}
use Rattle.text_tokens.specs.declared.decimal.Decimal.{Decimal}
use Rattle.uc_text.specs.Values.{null, number, Value, scalar, list, object}
use Rattle.uc_text.specs.Values.{Items, no_items, item, Members, no_members, member}
use Rattle.uc_text.specs.Pairs.{Pair}

abbrev pub item_values : Items → List Value
item_values no_items = []
item_values (item v vs) = v ∷ item_values vs

abbrev pub member_pairs : Members → List Pair
member_pairs no_members = []
member_pairs (member n v ms) = record { name = n; value = v } ∷ member_pairs ms

abbrev pub is_null : Value → Bool
is_null (scalar null) = true
is_null v = false

-- the parts of a value of that kind
abbrev pub number_in : Value → Option Decimal
number_in (scalar (number d)) = Some d
number_in v = None

abbrev pub list_in : Value → Option (List Value)
list_in (list vs) = Some (item_values vs)
list_in v = None

abbrev pub object_in : Value → Option (List Pair)
object_in (object ms) = Some (member_pairs ms)
object_in v = None
