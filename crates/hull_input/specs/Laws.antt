-- What holds of every file that was read. Each law is the clause of a public function of its name.
use Rattle.std.specs.Prelude.{◌≡◌, ℕ, List, Option, Some, Ok}
use Rattle.hull_io.specs.Edge.{Rose}
use Rattle.hull_fault.specs.declared.fault.FileKind.{FileKind}
use Rattle.report_form.specs.ReportText.{Report, report_text}
use Rattle.hull_input.specs.Files.{Reads, AreReads}
use Rattle.hull_input.specs.Steps.{IsBytes, IsReportFile}

-- whatever is told of the files of these names, something may have been read of them
abbrev pub SomeReadsOfFilesExist : {F : Type 0} (told : F → List ℕ → Option (List ℕ))
    (faults : F → List ℕ → ℕ) (last : Option ℕ) → Type 0
SomeReadsOfFilesExist {F} told faults last =
    (old new : F) (name_of : FileKind → Option (List ℕ)) → (reads : Reads)
    × AreReads (told old) (λ name. Rose last (faults old name) (faults new name)) name_of reads

-- the bytes of a file are those that were read of it
abbrev pub BytesAreThoseRead : Type 0
BytesAreThoseRead =
    (file : FileKind) (read : Option (List ℕ)) (bytes : List ℕ) → IsBytes file read (Ok bytes) →
    read ≡ Some bytes

-- what was read of a report's file is the text of the report that is found in it
abbrev pub ReportBytesAreItsText : Type 0
ReportBytesAreItsText =
    (read : Option (List ℕ)) (r : Report) → IsReportFile read (Ok r) →
    read ≡ Some (report_text r)
