-- What nodes say that were put behind others.
use Rattle.std.specs.Prelude.{◌≡◌, ℕ, List, [], ◌∷◌, ◌++◌}
use Rattle.uc_text.specs.Values.{Value, scalar, text}
use Rattle.uc_text.specs.Pairs.{Pair}
use Rattle.uc_text.specs.Nodes.{values}
use Rattle.uc_text.specs.declared.node.Node.{Node}

-- A node that says this value, whatever stands behind.
abbrev pub IsOne : List ℕ → Node → Value → Type 0
IsOne bytes n v = (more : List Node) → values bytes (n ∷ more) ≡ v ∷ values bytes more

-- They say these values in front of those behind, whatever stands behind.
pub record Adds (bytes : List ℕ) (old new : List Node) (vs : List Value) : Type 0 where
  pub block : List Node
  pub parts : new ≡ old ++ block
  pub say : (more : List Node) → values bytes (block ++ more) ≡ vs ++ values bytes more

-- members as values: each name with the value behind it
abbrev pub in_turn : List Pair → List Value
in_turn [] = []
in_turn (p ∷ ps) = scalar (text p.name) ∷ p.value ∷ in_turn ps
