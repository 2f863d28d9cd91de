-- What holds of every report within the bounds. Each law is the clause of a public function.
use Rattle.std.specs.Prelude.{◌≡◌, ◌⊎◌, ℕ, List}
use Rattle.report_form.specs.ReportText.{Report, report_text}
use Rattle.report_read.specs.Bounds.{IsReport}
use Rattle.report_read.specs.Differences.{DiffersAt}
use Rattle.report_read.specs.Faults.{IsFault}

-- no two have one text
abbrev pub OneReport : Type 0
OneReport = (a b : Report) → IsReport a → IsReport b → report_text a ≡ report_text b → a ≡ b

-- each file is the text of one, or has a line in fault
abbrev pub EachTextIsReportOrHasFault : Type 0
EachTextIsReportOrHasFault =
    (bytes : List ℕ) → ((r : Report) × IsReport r × (bytes ≡ report_text r))
    ⊎ ((line : ℕ) × IsFault bytes line)

-- a file has at most one line in fault
abbrev pub AtMostOneLineIsInFault : Type 0
AtMostOneLineIsInFault = (bytes : List ℕ) (k l : ℕ) → IsFault bytes k → IsFault bytes l → k ≡ l

-- two texts differ first at one line at most
abbrev pub OneDifference : Type 0
OneDifference =
    (text other : List ℕ) (k l : ℕ) → DiffersAt text other k → DiffersAt text other l → k ≡ l
