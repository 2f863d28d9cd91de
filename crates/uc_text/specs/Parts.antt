-- What the reader's own functions say of the tokens that they pass: parts of a value.
use Rattle.std.specs.Prelude.{◌≡◌, ◌≢◌, ◌<◌, ℕ, List, [], ◌∷◌, ◌++◌, length, slice_index_or}
use Rattle.uc_text.specs.Values.{Value}
use Rattle.uc_text.specs.Pairs.{Pair}
use Rattle.uc_text.specs.Grammar.{Token, open_list, open_object, comma, colon, key, spell}
use Rattle.uc_text.specs.Faults.{Test, grammar, length_of_numbers, levels, double_keys, Passes}

-- values that were passed, each with the comma behind it
abbrev pub passed_items : List Value → List Token
passed_items [] = []
passed_items (v ∷ vs) = spell v ++ comma ∷ passed_items vs

abbrev pub passed_members : List Pair → List Token
passed_members [] = []
passed_members (p ∷ ps) = key p.name ∷ colon ∷ (spell p.value ++ comma ∷ passed_members ps)

-- some value that passes the test begins with these tokens
abbrev pub Starts : Test → ℕ → List Token → Type 0
Starts t left ts = (v : Value) × (more : List Token) × Passes t left v × (spell v ≡ ts ++ more)

abbrev pub StartsBefore : Test → ℕ → List Token → Type 0
StartsBefore grammar left ts = Unit {0}
StartsBefore length_of_numbers left ts = Starts grammar left ts
StartsBefore levels left ts = Starts length_of_numbers left ts
StartsBefore double_keys left ts = Starts levels left ts

-- The fault within a value: whatever comes behind the value, no value that passes the test begins
-- so.
pub record IsStuck (left : ℕ) (before : List Token) (at : Token) (t : Test) : Type 0 where
  pub passed : Starts double_keys left before
  pub tried : StartsBefore t left (before ++ at ∷ [])
  pub fails : (v : Value) (after more : List Token) → Passes t left v →
      spell v ++ after ≡ before ++ at ∷ more → ⊥

abbrev pub names : List Pair → List (List ℕ)
names [] = []
names (p ∷ ps) = p.name ∷ names ps

-- no name among these is that
abbrev pub IsNewName : List (List ℕ) → List ℕ → Type 0
IsNewName ks k = (i : ℕ) (d : List ℕ) → i < length ks → slice_index_or ks i d ≢ k

-- the tokens of a list that was opened, with these items passed
abbrev pub opened : List Value → List Token → List Token
opened vs before = open_list ∷ (passed_items vs ++ before)

abbrev pub opened_object : List Pair → List Token → List Token
opened_object ps before = open_object ∷ (passed_members ps ++ before)
