-- What a case file is, and what its reader answers.
use Rattle.std.specs.Prelude.{ℕ, List, Result, Ok, Err}
use Rattle.uc_model.specs.Data.{Market}
use Rattle.uc_case.specs.Cases.{case_of}
use Rattle.uc_text.specs.Files.{FileFault, text, value, IsReading}
use Rattle.uc_case.specs.declared.fault.CaseFault.{CaseFault}
use Rattle.uc_case.specs.declared.fault.CaseFault.TheVariants as faults
use Rattle.uc_field.specs.declared.fault.FieldFault.{FieldFault}

-- the bytes of a case file are this case, or have this fault first
abbrev pub IsCaseOf : List ℕ → Result Market (FileFault FieldFault) → Type 0
IsCaseOf = IsReading case_of

-- P of the answer; nothing where memory ran out
abbrev pub IfRead : {X A : Type 0} → (X → A) → Result X CaseFault
    → (Result A (FileFault FieldFault) → Type 0) → Type 0
IfRead view (Ok x) P = P (Ok (view x))
IfRead view (Err (faults.Text f)) P = P (Err (text f))
IfRead view (Err (faults.Field f)) P = P (Err (value f))
IfRead view (Err faults.Memory) P = Unit {0}
