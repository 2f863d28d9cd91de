-- What a reader that adds schedules to a list leaves there.
use Rattle.std.specs.Prelude.{◌≡◌, ℕ, List, ◌++◌, length, Result, Ok, Err, IsTrue}
use Rattle.std.specs.List.{All}
use Rattle.uc_model.specs.Data.{Schedule}
use Rattle.uc_model.specs.declared.kinds.Kind.{Kind}
use Rattle.uc_model.specs.declared.kinds.Kind.TheVariants.{Thermal}
use Rattle.uc_text.specs.Given.{Fails}
use Rattle.uc_text.specs.declared.stop.Stop.{Stop}

-- the list has in addition what the tests give, so many and each with P, unless memory ran out
abbrev pub Adds : {A F U : Type 0} → (A → Type 0) → ℕ → List A → List A → Result U (Stop F)
    → Result (List A) F → Type 0
Adds {A = A} P count old new (Ok u) read =
    (xs : List A) × (read ≡ Ok xs) × (new ≡ old ++ xs) × (length xs ≡ count) × All P xs
Adds P count old new (Err e) read = Fails e read

-- a schedule over the horizon
abbrev pub HasLengths : ℕ → Schedule → Type 0
HasLengths periods s =
    (length s.on ≡ periods) × (length s.power ≡ periods) × (length s.reserve ≡ periods)

-- on in every period, with reserve 0
abbrev pub IsFlat : Schedule → Type 0
IsFlat s = All IsTrue s.on × All (λ r. r ≡ 0) s.reserve

abbrev pub IsFlatUnless : Kind → Schedule → Type 0
IsFlatUnless Thermal s = Unit {0}
IsFlatUnless _ s = IsFlat s

-- what a schedule of a unit of that kind keeps
abbrev pub IsShaped : Kind → ℕ → Schedule → Type 0
IsShaped kind periods s = HasLengths periods s × IsFlatUnless kind s
