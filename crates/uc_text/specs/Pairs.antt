-- Values and members in a list, and the value that they are the parts of.
use Rattle.std.specs.Prelude.{ℕ, List, [], ◌∷◌}
use Rattle.uc_text.specs.Values.{Value, Items, no_items, item, Members, no_members, member}

pub record Pair : Type 0 where
  pub name : List ℕ
  pub value : Value

abbrev pub items_of : List Value → Items
items_of [] = no_items
items_of (v ∷ vs) = item v (items_of vs)

abbrev pub members_of : List Pair → Members
members_of [] = no_members
members_of (p ∷ ps) = member p.name p.value (members_of ps)
