-- The tests of this project's profile beyond the grammar, and the first token at which one fails.
use Rattle.std.specs.Prelude.{◌≡◌, ◌≢◌, ℕ, ◌<◌, ◌-◌, List, [], ◌∷◌, ◌++◌, AllPairs}
use Rattle.uc_text.specs.Values.{Scalar, long_number, Value, scalar, list, object, Items, no_items}
use Rattle.uc_text.specs.Values.{item, Members, no_members, member, keys}
use Rattle.uc_text.specs.Grammar.{Token, whole}

-- In the order in which they are tried at one token.
pub data Test : Type 0 where
  grammar : Test
  length_of_numbers : Test
  levels : Test
  double_keys : Test

abbrev pub IsShort : Scalar → Type 0
IsShort long_number = ⊥
IsShort s = Unit {0}

abbrev pub ScalarPasses : Test → Scalar → Type 0
ScalarPasses grammar s = Unit {0}
ScalarPasses length_of_numbers s = IsShort s
ScalarPasses levels s = IsShort s
ScalarPasses double_keys s = IsShort s

-- a container where so many levels are left
abbrev pub LevelPasses : Test → ℕ → Type 0
LevelPasses grammar left = Unit {0}
LevelPasses length_of_numbers left = Unit {0}
LevelPasses levels left = 0 < left
LevelPasses double_keys left = 0 < left

abbrev pub KeysPass : Test → List (List ℕ) → Type 0
KeysPass grammar ks = Unit {0}
KeysPass length_of_numbers ks = Unit {0}
KeysPass levels ks = Unit {0}
KeysPass double_keys ks = AllPairs (λ a b. a ≢ b) ks

-- a value that passes this test and those before it
abbrev mutual
  pub Passes : Test → ℕ → Value → Type 0
  Passes t left (scalar s) = ScalarPasses t s
  Passes t left (list vs) = LevelPasses t left × ItemsPass t (left - 1) vs
  Passes t left (object ms) =
      LevelPasses t left × KeysPass t (keys ms) × MembersPass t (left - 1) ms

  pub ItemsPass : Test → ℕ → Items → Type 0
  ItemsPass t left no_items = Unit {0}
  ItemsPass t left (item v vs) = Passes t left v × ItemsPass t left vs

  pub MembersPass : Test → ℕ → Members → Type 0
  MembersPass t left no_members = Unit {0}
  MembersPass t left (member k v ms) = Passes t left v × MembersPass t left ms

-- some text that passes the test begins with these tokens
abbrev pub Begins : Test → ℕ → List Token → Type 0
Begins t left ts = (v : Value) × (more : List Token) × Passes t left v × (whole v ≡ ts ++ more)

-- the tests before this one let the tokens stand
abbrev pub PassesBefore : Test → ℕ → List Token → Type 0
PassesBefore grammar left ts = Unit {0}
PassesBefore length_of_numbers left ts = Begins grammar left ts
PassesBefore levels left ts = Begins length_of_numbers left ts
PassesBefore double_keys left ts = Begins levels left ts

-- The first fault of the tokens is at the one after `before`, and it is this test that fails.
pub record IsFault (left : ℕ) (before : List Token) (at : Token) (t : Test) : Type 0 where
  pub passed : Begins double_keys left before
  pub tried : PassesBefore t left (before ++ at ∷ [])
  pub fails : ¬ Begins t left (before ++ at ∷ [])
