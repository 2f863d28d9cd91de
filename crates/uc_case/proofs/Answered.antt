-- The answer of the reader is the only one.
use Rattle.uc_case.proofs.Common.{◌≡◌, ℕ, List, Result, Ok, Err, FileFault, text, value, FieldFault}
use Rattle.uc_case.proofs.Common.{CaseFileHasOneValueOrOneFault}
use Rattle.uc_model.specs.Data.{Market}
use Rattle.uc_model.specs.PlainCases.{market_of}
use Rattle.uc_model.specs.declared.cases.Case.{Case}
use Rattle.uc_case.specs.CaseFiles.{IsCaseOf, IfRead}
use Rattle.uc_case.specs.declared.fault.CaseFault.{CaseFault}
use Rattle.uc_case.specs.declared.fault.CaseFault.TheVariants as faults

pub is_only : CaseFileHasOneValueOrOneFault → (bytes : List ℕ) (a : Result Case CaseFault) → IfRead market_of a
    (λ r. IsCaseOf bytes r) →
    (r : Result Market (FileFault FieldFault)) → IsCaseOf bytes r → IfRead market_of a (λ s. s ≡ r)
is_only law bytes (Ok c) answer r is = law bytes (Ok (market_of c)) r answer is
is_only law bytes (Err (faults.Text f)) answer r is = law bytes (Err (text f)) r answer is
is_only law bytes (Err (faults.Field f)) answer r is = law bytes (Err (value f)) r answer is
is_only law bytes (Err faults.Memory) answer r is = tt
