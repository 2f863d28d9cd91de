-- What a reader of a tree returned, beside what the tests give.
use Rattle.std.specs.Prelude.{◌≡◌, Result, Ok, Err}
use Rattle.uc_text.specs.declared.stop.Stop.{Stop}
use Rattle.uc_text.specs.declared.stop.Stop.TheVariants as stops

abbrev pub Fails : {Y F : Type 0} → Stop F → Result Y F → Type 0
Fails stops.Memory read = Unit {0}
Fails (stops.Fault f) read = read ≡ Err f

-- what was returned, seen by view, is what the tests give, unless memory ran out
abbrev pub Gives : {X Y F : Type 0} → (X → Y) → Result X (Stop F) → Result Y F → Type 0
Gives view (Ok x) read = read ≡ Ok (view x)
Gives view (Err e) read = Fails e read
