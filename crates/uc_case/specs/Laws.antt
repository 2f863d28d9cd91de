-- A file is one case, or has one first fault. The law is the clause of a public function.
use Rattle.std.specs.Prelude.{◌≡◌, ℕ, List, Result}
use Rattle.uc_model.specs.Data.{Market}
use Rattle.uc_case.specs.CaseFiles.{IsCaseOf}
use Rattle.uc_text.specs.Files.{FileFault}
use Rattle.uc_field.specs.declared.fault.FieldFault.{FieldFault}

abbrev pub CaseFileHasOneValueOrOneFault : Type 0
CaseFileHasOneValueOrOneFault = (bytes : List ℕ) (r s : Result Market (FileFault FieldFault))
    → IsCaseOf bytes r → IsCaseOf bytes s → r ≡ s
