-- What a mixture file is for a case, and what its reader answers.
use Rattle.std.specs.Prelude.{ℕ, List, Result, Ok, Err}
use Rattle.gap_proof.specs.Mixtures.{MixtureLists}
use Rattle.uc_text.specs.Files.{FileFault, text, value, IsReading}
use Rattle.uc_model.specs.Data.{Market}
use Rattle.uc_mixture.specs.Tables.{mixture_in}
use Rattle.uc_mixture.specs.declared.fault.MixtureFault.{MixtureFault}
use Rattle.uc_mixture.specs.declared.fault.MixtureFault.TheVariants as faults
use Rattle.uc_mixture.specs.declared.fault.ShareFault.{ShareFault}

-- the bytes of a mixture file are this mixture for the case, or have this fault first
abbrev pub IsMixtureFileOf : Market → List ℕ → Result MixtureLists (FileFault ShareFault) → Type 0
IsMixtureFileOf m = IsReading (mixture_in m)

-- P of the answer; nothing where memory ran out
abbrev pub IfRead : {X A : Type 0} → (X → A) → Result X MixtureFault
    → (Result A (FileFault ShareFault) → Type 0) → Type 0
IfRead view (Ok x) P = P (Ok (view x))
IfRead view (Err (faults.Text f)) P = P (Err (text f))
IfRead view (Err (faults.Share f)) P = P (Err (value f))
IfRead view (Err faults.Memory) P = Unit {0}
