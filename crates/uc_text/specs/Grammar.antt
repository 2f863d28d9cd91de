-- The tokens of a value (RFC 8259). A value has one list of tokens, so the grammar is a function.
use Rattle.std.specs.Prelude.{List, [], ◌∷◌, ◌++◌}
use Rattle.uc_text.specs.Values.{Value, scalar, list, object, Items, no_items, item}
use Rattle.uc_text.specs.Values.{Members, no_members, member}
pub use Rattle.text_tokens.specs.Grammar.{Token, open_list, close_list, open_object, close_object}
pub use Rattle.text_tokens.specs.Grammar.{comma, colon, word, bad, end, key}

abbrev mutual
  pub spell : Value → List Token
  spell (scalar s) = word s ∷ []
  spell (list vs) = open_list ∷ spell_items vs
  spell (object ms) = open_object ∷ spell_members ms

  -- values with commas between them, and the closing bracket
  pub spell_items : Items → List Token
  spell_items no_items = close_list ∷ []
  spell_items (item v vs) = spell v ++ spell_more_items vs

  pub spell_more_items : Items → List Token
  spell_more_items no_items = close_list ∷ []
  spell_more_items (item v vs) = comma ∷ (spell v ++ spell_more_items vs)

  -- members with commas between them, and the closing brace
  pub spell_members : Members → List Token
  spell_members no_members = close_object ∷ []
  spell_members (member k v ms) = key k ∷ colon ∷ (spell v ++ spell_more_members ms)

  pub spell_more_members : Members → List Token
  spell_more_members no_members = close_object ∷ []
  spell_more_members (member k v ms) = comma ∷ key k ∷ colon ∷ (spell v ++ spell_more_members ms)

-- one value and nothing after it
abbrev pub whole : Value → List Token
whole v = spell v ++ end ∷ []
