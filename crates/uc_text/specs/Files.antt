-- What a file is, by what its value is read as.
use Rattle.std.specs.Prelude.{◌≡◌, ℕ, List, Result, Ok, Err}
use Rattle.uc_text.specs.Values.{Value}
use Rattle.uc_text.specs.Texts.{IsText, IsFirstFault}
use Rattle.uc_text.specs.declared.fault.TextFault.{TextFault}

-- a file's fault: of its text, or of its value
pub data FileFault (F : Type 0) : Type 0 where
  text : TextFault → FileFault F
  value : F → FileFault F

-- what the bytes of a file are: the value of a text, or the first fault of no text
abbrev pub IsFile : List ℕ → Result Value TextFault → Type 0
IsFile bytes (Ok v) = IsText 32 bytes v
IsFile bytes (Err f) = IsFirstFault 32 bytes f

abbrev pub of_value : {A F : Type 0} → Result A F → Result A (FileFault F)
of_value (Ok x) = Ok x
of_value (Err f) = Err (value f)

-- what is read of them, by the reading of a value
abbrev pub reading_of : {A F : Type 0} → (Value → Result A F) → Result Value TextFault
    → Result A (FileFault F)
reading_of read (Ok v) = of_value (read v)
reading_of read (Err f) = Err (text f)

-- the file's reading; there is one (FileLaws.antt)
abbrev pub IsReading : {A F : Type 0} → (Value → Result A F) → List ℕ
    → Result A (FileFault F) → Type 0
IsReading read bytes r =
    (found : Result Value TextFault) × IsFile bytes found × (reading_of read found ≡ r)
