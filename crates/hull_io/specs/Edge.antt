-- What a shelf and a sink do, told with their ghost members. This project's profile.
use Rattle.std.specs.Prelude.{◌≡◌, ℕ, ◌<◌, ◌≤◌, ◌⊎◌, List, ◌++◌, length, take, drop, Option, None}
use Rattle.std.specs.Prelude.{Some, Result, OnOk, OnErr}

-- The count rose, or stands at the last value of its counter, where it has one.
abbrev pub Rose : Option ℕ → ℕ → ℕ → Type 0
Rose None before now = before < now
Rose (Some most) before now = (before < now) ⊎ (most ≤ now)

-- A read put `n` bytes in front of `into`: those of `bytes` from `offset` on. It put none into a
-- buffer with room exactly where there is no byte at `offset`.
pub record ReadsAt (bytes : List ℕ) (offset n : ℕ) (into : List ℕ) : Type 0 where
  pub front : take n into ≡ take n (drop offset bytes)
  pub ends : n ≡ 0 → 0 < length into → length bytes ≤ offset
  pub past : length bytes ≤ offset → n ≡ 0

-- what is held after a gain, where it is told
abbrev pub grown : Option (List ℕ) → List ℕ → Option (List ℕ)
grown None gain = None
grown (Some bytes) gain = Some (bytes ++ gain)

module _ {S : Type 0} (held : S → Option (List ℕ)) (faults : S → ℕ) where
  -- the sink gained the text
  pub record Gains (old new : S) (text : List ℕ) : Type 0 where
    pub gained : held new ≡ grown (held old) text
    pub later : faults old ≤ faults new

  -- the sink gained a front of the text, and its count rose
  pub record FallsShort (last : Option ℕ) (old new : S) (text : List ℕ) : Type 0 where
    pub front : List ℕ
    pub rest : List ℕ
    pub begins : text ≡ front ++ rest
    pub gained : held new ≡ grown (held old) front
    pub rose : Rose last (faults old) (faults new)
    pub later : faults old ≤ faults new

  -- What a writer of the text did: at Ok the sink gained it, else a front of it.
  pub record Writes {T E : Type 0} (last : Option ℕ) (old new : S) (result : Result T E)
      (text : List ℕ) : Type 0 where
    pub ok : OnOk result (Gains old new text)
    pub err : OnErr result (FallsShort last old new text)
