-- A text that is written in pieces (this project's profile).
use Rattle.std.specs.Prelude.{◌≡◌, ℕ, List, ◌++◌, Option, Result, OnOk, OnErr}
use Rattle.hull_io.specs.Edge.{Gains, FallsShort}

module _ {S : Type 0} (held : S → Option (List ℕ)) (faults : S → ℕ) where
  -- the sink gained a front of the text, and the rest of it waits
  pub record Pends (old new : S) (waiting text : List ℕ) : Type 0 where
    pub front : List ℕ
    pub gained : Gains held faults old new front
    pub joins : text ≡ front ++ waiting

  -- What was done where `before` waited and a text was added to it: at Ok the sink gained a front
  -- of both and the rest, `after`, waits, else it gained a front of both and fell short.
  pub record Adds {T E : Type 0} (last : Option ℕ) (old new : S) (result : Result T E)
      (before after text : List ℕ) : Type 0 where
    pub ok : OnOk result (Pends old new after (before ++ text))
    pub err : OnErr result (FallsShort held faults last old new (before ++ text))
