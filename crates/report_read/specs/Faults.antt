-- The first line of a file at which it goes on as no report does (this project's profile).
use Rattle.std.specs.Prelude.{◌≡◌, ℕ, suc, ◌==◌, ◌⊎◌, Result, Ok, Err, List, [], ◌∷◌, ◌++◌}
use Rattle.std.specs.List.{AllByRecursion, count_by}
use Rattle.report_form.specs.ReportText.{Report, report_text}
use Rattle.report_read.specs.Bounds.{IsReport}
use Rattle.report_read.specs.Plain.{report_of}
use Rattle.report_read.specs.declared.report.Report.{Report as KeptReport}
use Rattle.report_read.specs.declared.report.ReportError.{ReportError}
use Rattle.report_read.specs.declared.report.ReportError.TheVariants as errors

-- a line: bytes that aren't a line feed, and one line feed
pub record IsLine (line : List ℕ) : Type 0 where
  pub inside : List ℕ
  pub unbroken : AllByRecursion (λ b. b ≡ 10 → ⊥) inside
  pub ends : line ≡ inside ++ 10 ∷ []

-- nothing, or lines to the end of the last one
abbrev pub AreLines : List ℕ → Type 0
AreLines bytes = (bytes ≡ []) ⊎ ((front : List ℕ) × (bytes ≡ front ++ 10 ∷ []))

abbrev pub line_feeds : List ℕ → ℕ
line_feeds = count_by (λ b. b == 10)

-- the text of some report within the bounds begins so
abbrev pub Begins : List ℕ → Type 0
Begins front = (r : Report) × IsReport r × (more : List ℕ) × (report_text r ≡ front ++ more)

-- The bytes are no report's. The lines before this one, which is counted from 1, begin one; with
-- this line they begin none, or it has no end.
pub record IsFault (bytes : List ℕ) (line : ℕ) : Type 0 where
  pub none : (r : Report) → IsReport r → bytes ≡ report_text r → ⊥
  pub before : List ℕ
  pub rest : List ℕ
  pub cut : bytes ≡ before ++ rest
  pub lines : AreLines before
  pub number : line ≡ suc (line_feeds before)
  pub begins : Begins before
  pub fails : (here after : List ℕ) → IsLine here → rest ≡ here ++ after →
      Begins (before ++ here) → ⊥

-- ---- what a call answered: memory may run out at any time

abbrev pub IfFault : Result KeptReport ReportError → (ℕ → Type 0) → Type 0
IfFault (Ok r) P = Unit {0}
IfFault (Err errors.Memory) P = Unit {0}
IfFault (Err (errors.Fault line)) P = P line

abbrev pub Gives : Result KeptReport ReportError → Report → Type 0
Gives (Ok kept) r = report_of kept ≡ r
Gives (Err errors.Memory) r = Unit {0}
Gives (Err (errors.Fault line)) r = ⊥
