-- A file is one value, or has one first fault.
use Rattle.uc_text.proofs.Common.{List, ℕ, Result, Ok, Err, ◌⊎◌, inl, inr, ap, IsText, IsFirstFault, Value, IsFile}
use Rattle.uc_text.proofs.Common.{SomeFile, FileIsOneJsonValueOrOneFault}
use Rattle.uc_text.specs.Laws.{BytesAreJsonTextOrHaveFault, JsonTextHasNoFault, JsonTextHasOneValue}
use Rattle.uc_text.specs.Laws.{BadJsonTextHasOneFirstFault}
use Rattle.uc_text.specs.declared.fault.TextFault.{TextFault}

found : Value → Result Value TextFault
found v = Ok v

refused : TextFault → Result Value TextFault
refused f = Err f

pub one_file : JsonTextHasOneValue → JsonTextHasNoFault → BadJsonTextHasOneFirstFault → FileIsOneJsonValueOrOneFault
unfolding found refused
one_file value never fault bytes (Ok v) (Ok w) a b = ap found (value 32 bytes v w a b)
one_file value never fault bytes (Ok v) (Err f) a b = absurd (never 32 bytes v f a b)
one_file value never fault bytes (Err f) (Ok v) a b = absurd (never 32 bytes v f b a)
one_file value never fault bytes (Err f) (Err g) a b = ap refused (fault 32 bytes f g a b)

some_of : (bytes : List ℕ) → ((v : Value) × IsText 32 bytes v) ⊎ ((f : TextFault) × IsFirstFault 32 bytes f) →
    (r : Result Value TextFault) × IsFile bytes r
some_of bytes (inl v) = (Ok v.0, v.1)
some_of bytes (inr f) = (Err f.0, f.1)

pub some_file : BytesAreJsonTextOrHaveFault → SomeFile
some_file law bytes = some_of bytes (law 32 bytes)
