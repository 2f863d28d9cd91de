-- What holds of the cases that files are. Each law is the clause of a public function.
use Rattle.std.specs.Prelude.{ℕ, IsUtf8, List, Result, Ok}
use Rattle.std.specs.List.{All}
use Rattle.uc_model.specs.Data.{Market, unit_names}
use Rattle.uc_model.specs.Limits.{IsMarket}
use Rattle.uc_case.specs.CaseFiles.{IsCaseOf}
use Rattle.uc_text.specs.Files.{FileFault}
use Rattle.uc_field.specs.declared.fault.FieldFault.{FieldFault}

-- a file is a case, or has a first fault
abbrev pub SomeCase : Type 0
SomeCase = (bytes : List ℕ) → (r : Result Market (FileFault FieldFault)) × IsCaseOf bytes r

-- a case that a file is keeps the limits of a case
abbrev pub CasesAreWithin : Type 0
CasesAreWithin = (bytes : List ℕ) (m : Market) → IsCaseOf bytes (Ok m) → IsMarket m

-- the units' names are UTF-8
abbrev pub CaseNamesAreUtf8 : Type 0
CaseNamesAreUtf8 = (bytes : List ℕ) (m : Market) → IsCaseOf bytes (Ok m) → All IsUtf8 (unit_names m)
