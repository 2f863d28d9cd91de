-- The words of the tables: tests, one after the other, and the items of a list.
use Rattle.std.specs.Prelude.{ℕ, ◌+◌, ◌-◌, Bool, false, List, [], ◌∷◌, ◌++◌, length, Option}
use Rattle.std.specs.Prelude.{Some, None, Result, Ok, Err, slice_get, if◌then◌else◌}
use Rattle.std.specs.Option.{option_map_or}

-- What comes next, where nothing has failed.
infixl 10 ◌>>=◌
abbrev pub ◌>>=◌ : {A B F : Type 0} → Result A F → (A → Result B F) → Result B F
(Ok x) >>= f = f x
(Err e) >>= f = Err e

infixl 10 ◌>>◌
abbrev pub ◌>>◌ : {A B F : Type 0} → Result A F → Result B F → Result B F
(Ok x) >> r = r
(Err e) >> r = Err e

-- one test: this fault where it holds
abbrev pub refuse : {F : Type 0} → F → Bool → Result (Unit {0}) F
refuse fault b = if b then Err fault else Ok tt

-- the value that is there, and this fault where there is none
abbrev pub need : {A F : Type 0} → F → Option A → Result A F
need fault (Some x) = Ok x
need fault None = Err fault

-- Each in order, read after those before it: the first fault among them.
unfoldable pub each : {A B F : Type 0} → (List A → B → Result A F) → List A → List B
    → Result (List A) F
each read before [] = Ok before
each read before (v ∷ vs) = do
  x ← read before v
  each read (before ++ x ∷ []) vs

-- the position of what comes after these
abbrev pub position : {A : Type 0} → List A → ℕ
position before = length before + 1

-- whether there is a last one of which this holds
abbrev pub last_is : {A : Type 0} → (A → Bool) → List A → Bool
last_is p before = option_map_or p (slice_get before (length before - 1)) false
