-- A file is one mixture for a case, or has one first fault.
use Rattle.std.specs.Prelude.{◌≡◌, ℕ, List, Result}
use Rattle.gap_proof.specs.Mixtures.{MixtureLists}
use Rattle.uc_text.specs.Files.{FileFault}
use Rattle.uc_model.specs.Data.{Market}
use Rattle.uc_mixture.specs.MixtureFiles.{IsMixtureFileOf}
use Rattle.uc_mixture.specs.declared.fault.ShareFault.{ShareFault}

abbrev pub SomeMixture : Type 0
SomeMixture = (m : Market) (bytes : List ℕ)
    → (r : Result MixtureLists (FileFault ShareFault)) × IsMixtureFileOf m bytes r

abbrev pub MixtureFileHasOneValueOrOneFault : Type 0
MixtureFileHasOneValueOrOneFault = (m : Market) (bytes : List ℕ) (r s : Result MixtureLists (FileFault ShareFault))
    → IsMixtureFileOf m bytes r → IsMixtureFileOf m bytes s → r ≡ s
