-- The names in the value of a text are UTF-8.
use Rattle.law_parts.proofs.ReaderNames.{◌≡◌, List, [], ◌∷◌, ◌++◌, Some, subst, AllByRecursion, IsUtf8}
use Rattle.uc_text.specs.Values.{Value, scalar, list, object, Items, no_items, item, Members, no_members, member}
use Rattle.uc_text.specs.Pairs.{Pair}
use Rattle.uc_text.specs.ValueParts.{member_pairs, object_in}
use Rattle.uc_text.specs.Grammar.{Token, spell, spell_items, spell_more_items, spell_members, spell_more_members}
use Rattle.law_parts.proofs.Keys.{IsKept}

-- each name in a value, at any depth
abbrev mutual
  pub AreNamed : Value → Type 0
  AreNamed (scalar s) = Unit {0}
  AreNamed (list vs) = AreItemsNamed vs
  AreNamed (object ms) = AreMembersNamed ms

  pub AreItemsNamed : Items → Type 0
  AreItemsNamed no_items = Unit {0}
  AreItemsNamed (item v vs) = AreNamed v × AreItemsNamed vs

  pub AreMembersNamed : Members → Type 0
  AreMembersNamed no_members = Unit {0}
  AreMembersNamed (member k v ms) = IsUtf8 k × AreNamed v × AreMembersNamed ms

front : (xs ys : List Token) → AllByRecursion IsKept (xs ++ ys) → AllByRecursion IsKept xs
front [] ys h = tt
front (x ∷ xs) ys h = (h.0, front xs ys h.1)

back : (xs ys : List Token) → AllByRecursion IsKept (xs ++ ys) → AllByRecursion IsKept ys
back [] ys h = h
back (x ∷ xs) ys h = back xs ys h.1

mutual
  named : (v : Value) → AllByRecursion IsKept (spell v) → AreNamed v
  named (scalar s) h = tt
  named (list vs) h = items_named vs h.1
  named (object ms) h = members_named ms h.1

  items_named : (vs : Items) → AllByRecursion IsKept (spell_items vs) → AreItemsNamed vs
  items_named no_items h = tt
  items_named (item v vs) h =
      (named v (front (spell v) (spell_more_items vs) h), more_items_named vs (back (spell v) (spell_more_items vs) h))

  more_items_named : (vs : Items) → AllByRecursion IsKept (spell_more_items vs) → AreItemsNamed vs
  more_items_named no_items h = tt
  more_items_named (item v vs) h = (
    named v (front (spell v) (spell_more_items vs) h.1),
    more_items_named vs (back (spell v) (spell_more_items vs) h.1),
  )

  members_named : (ms : Members) → AllByRecursion IsKept (spell_members ms) → AreMembersNamed ms
  members_named no_members h = tt
  members_named (member k v ms) h = (
    h.0.says,
    named v (front (spell v) (spell_more_members ms) h.1.1),
    more_members_named ms (back (spell v) (spell_more_members ms) h.1.1),
  )

  more_members_named : (ms : Members) → AllByRecursion IsKept (spell_more_members ms) → AreMembersNamed ms
  more_members_named no_members h = tt
  more_members_named (member k v ms) h = (
    h.1.0.says,
    named v (front (spell v) (spell_more_members ms) h.1.1.1),
    more_members_named ms (back (spell v) (spell_more_members ms) h.1.1.1),
  )

-- the tokens of a value in front of others
pub value_named : (v : Value) (rest : List Token) → AllByRecursion IsKept (spell v ++ rest) → AreNamed v
value_named v rest h = named v (front (spell v) rest h)

-- ---- the members of an object

abbrev pub IsNamedPair : Pair → Type 0
IsNamedPair p = IsUtf8 p.name × AreNamed p.value

pairs_named : (ms : Members) → AreMembersNamed ms → AllByRecursion IsNamedPair (member_pairs ms)
pairs_named no_members h = tt
pairs_named (member k v ms) h = ((h.0, h.1), pairs_named ms h.2)

pub object_named : (v : Value) (ps : List Pair) → AreNamed v → object_in v ≡ Some ps → AllByRecursion IsNamedPair ps
object_named (scalar s) ps h e = absurd cc
object_named (list vs) ps h e = absurd cc
object_named (object ms) ps h e = let is : member_pairs ms ≡ ps = cc in
    subst (AllByRecursion IsNamedPair) is (pairs_named ms h)
