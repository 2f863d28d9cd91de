-- Which files a command reads, and what was read of them (this project's profile).
--
-- `told name` is what the shelf tells of a file's bytes, None where it tells none, and `rose name`
-- that its count of faults under that name rose.
use Rattle.std.specs.Prelude.{◌≡◌, ℕ, List, Option, None, Some, IfSome}
use Rattle.hull_words.specs.Asked.{SettleAsked}
use Rattle.hull_fault.specs.declared.fault.FileKind.{FileKind}
use Rattle.hull_fault.specs.declared.fault.FileKind.TheVariants.{CaseFile, ScheduleFile}
use Rattle.hull_fault.specs.declared.fault.FileKind.TheVariants.{ReportFile, PricesFile, MixtureFile}

-- ---- the names of the files

abbrev pub case_and_schedule : (case_name schedule_name : List ℕ) → FileKind → Option (List ℕ)
case_and_schedule case_name schedule_name CaseFile = Some case_name
case_and_schedule case_name schedule_name ScheduleFile = Some schedule_name
case_and_schedule case_name schedule_name ReportFile = None
case_and_schedule case_name schedule_name PricesFile = None
case_and_schedule case_name schedule_name MixtureFile = None

abbrev pub with_report : (case_name schedule_name report_name : List ℕ) → FileKind →
    Option (List ℕ)
with_report case_name schedule_name report_name CaseFile = Some case_name
with_report case_name schedule_name report_name ScheduleFile = Some schedule_name
with_report case_name schedule_name report_name ReportFile = Some report_name
with_report case_name schedule_name report_name PricesFile = None
with_report case_name schedule_name report_name MixtureFile = None

abbrev pub with_prices : (case_name schedule_name prices_name : List ℕ) → FileKind →
    Option (List ℕ)
with_prices case_name schedule_name prices_name CaseFile = Some case_name
with_prices case_name schedule_name prices_name ScheduleFile = Some schedule_name
with_prices case_name schedule_name prices_name ReportFile = None
with_prices case_name schedule_name prices_name PricesFile = Some prices_name
with_prices case_name schedule_name prices_name MixtureFile = None

abbrev pub with_mixture : (names : SettleAsked) (mixture_name : List ℕ) → FileKind →
    Option (List ℕ)
with_mixture names mixture_name CaseFile = Some names.case_name
with_mixture names mixture_name ScheduleFile = Some names.schedule_name
with_mixture names mixture_name ReportFile = None
with_mixture names mixture_name PricesFile = Some names.prices_name
with_mixture names mixture_name MixtureFile = Some mixture_name

-- ---- what was read

-- What was read of each file: its bytes, or none where its read failed.
abbrev pub Reads : Type 0
Reads = FileKind → Option (List ℕ)

-- The bytes read of a file are those that the shelf tells of it, where it tells any. Its read
-- failed only where the count of its name rose.
abbrev pub IsReadOf : (told : Option (List ℕ)) (rose : Type 0) → Option (List ℕ) → Type 0
IsReadOf told rose (Some bytes) = IfSome told (λ all. bytes ≡ all)
IsReadOf told rose None = rose

-- Each file that has a name has such bytes, or such a failure, also one that the run never came to.
abbrev pub AreReads : (told : List ℕ → Option (List ℕ)) (rose : List ℕ → Type 0) →
    (FileKind → Option (List ℕ)) → Reads → Type 0
AreReads told rose name_of reads =
    (file : FileKind) →
    IfSome (name_of file) (λ name. IsReadOf (told name) (rose name) (reads file))
