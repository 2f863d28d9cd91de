-- A file is one value, or has one first fault. Each law is the clause of a public function.
use Rattle.std.specs.Prelude.{◌≡◌, ℕ, List, Result}
use Rattle.uc_text.specs.Values.{Value}
use Rattle.uc_text.specs.declared.fault.TextFault.{TextFault}
use Rattle.uc_text.specs.Files.{IsFile}

abbrev pub SomeFile : Type 0
SomeFile = (bytes : List ℕ) → (found : Result Value TextFault) × IsFile bytes found

abbrev pub FileIsOneJsonValueOrOneFault : Type 0
FileIsOneJsonValueOrOneFault = (bytes : List ℕ) (found other : Result Value TextFault)
    → IsFile bytes found → IsFile bytes other → found ≡ other
