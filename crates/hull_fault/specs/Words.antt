-- The words of fault lines (this project's profile).
use Rattle.std.specs.Prelude.{ℕ, List, codes}
use Rattle.uc_model.specs.declared.kinds.Kind.{Kind}
use Rattle.uc_model.specs.declared.kinds.Kind.TheVariants as kinds
use Rattle.hull_fault.specs.declared.fault.FileKind.{FileKind}
use Rattle.hull_fault.specs.declared.fault.FileKind.TheVariants.{CaseFile, ScheduleFile}
use Rattle.hull_fault.specs.declared.fault.FileKind.TheVariants.{ReportFile, PricesFile, MixtureFile}
use Rattle.hull_fault.specs.declared.fault.ReportCode.{ReportCode}
use Rattle.hull_fault.specs.declared.fault.ReportCode.TheVariants.{OutOfForm, Wrong}

abbrev pub kind_word : Kind → List ℕ
kind_word kinds.Case = codes "case"
kind_word kinds.Thermal = codes "thermal"
kind_word kinds.Renewable = codes "renewable"
kind_word kinds.Bid = codes "bid"

abbrev pub file_word : FileKind → List ℕ
file_word CaseFile = codes "case"
file_word ScheduleFile = codes "schedule"
file_word ReportFile = codes "report"
file_word PricesFile = codes "prices"
file_word MixtureFile = codes "mixture"

-- the status of a fault of such a file
abbrev pub file_status : FileKind → ℕ
file_status CaseFile = 3
file_status ScheduleFile = 4
file_status ReportFile = 8
file_status PricesFile = 9
file_status MixtureFile = 10

-- the number that stands for what is wrong with a report
abbrev pub report_number : ReportCode → ℕ
report_number OutOfForm = 60
report_number Wrong = 61
