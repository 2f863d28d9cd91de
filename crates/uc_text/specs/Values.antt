-- What a text says: a value of RFC 8259. Keys may repeat. Text is a list of bytes.
use Rattle.std.specs.Prelude.{ℕ, List, [], ◌∷◌}
pub use Rattle.text_tokens.specs.Scalars.{Scalar, null, flag, number, long_number, text}

mutual
  pub data Value : Type 0 where
    scalar : Scalar → Value
    list : Items → Value
    object : Members → Value

  pub data Items : Type 0 where
    no_items : Items
    item : Value → Items → Items

  pub data Members : Type 0 where
    no_members : Members
    member : List ℕ → Value → Members → Members

abbrev pub keys : Members → List (List ℕ)
keys no_members = []
keys (member k v ms) = k ∷ keys ms
