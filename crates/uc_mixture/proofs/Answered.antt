-- The answer of the reader is the only one.
use Rattle.uc_mixture.proofs.Common.{◌≡◌, ℕ, List, Result, Ok, Err, Market, MixtureLists, mixture_of, FileFault, text}
use Rattle.uc_mixture.proofs.Common.{value, ShareFault}
use Rattle.gap_proof.specs.declared.mixtures.Mixture.{Mixture}
use Rattle.uc_mixture.specs.Laws.{MixtureFileHasOneValueOrOneFault}
use Rattle.uc_mixture.specs.MixtureFiles.{IsMixtureFileOf, IfRead}
use Rattle.uc_mixture.specs.declared.fault.MixtureFault.{MixtureFault}
use Rattle.uc_mixture.specs.declared.fault.MixtureFault.TheVariants as faults

pub is_only : MixtureFileHasOneValueOrOneFault → (m : Market) (bytes : List ℕ) (a : Result Mixture MixtureFault) →
    IfRead mixture_of a (λ r. IsMixtureFileOf m bytes r) → (r : Result MixtureLists (FileFault ShareFault)) →
    IsMixtureFileOf m bytes r → IfRead mixture_of a (λ s. s ≡ r)
is_only law m bytes (Ok x) answer r is = law m bytes (Ok (mixture_of x)) r answer is
is_only law m bytes (Err (faults.Text f)) answer r is = law m bytes (Err (text f)) r answer is
is_only law m bytes (Err (faults.Share f)) answer r is = law m bytes (Err (value f)) r answer is
is_only law m bytes (Err faults.Memory) answer r is = tt
