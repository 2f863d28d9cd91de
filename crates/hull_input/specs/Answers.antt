-- What the readers of a command's files answer.
use Rattle.std.specs.Prelude.{◌≡◌, ◌⊎◌, ◌≤◌, ℕ, List, length, map, Option, Result, Ok, Err}
use Rattle.uc_model.specs.PlainCases.{market_of}
use Rattle.uc_model.specs.PlainUnits.{prices_of}
use Rattle.board_core.specs.Setups.{IsSetup, setup_of}
use Rattle.gap_proof.specs.Mixtures.{mixture_of, IsMixture, HasMixtureShape}
use Rattle.hull_fault.specs.declared.fault.FileKind.{FileKind}
use Rattle.hull_fault.specs.declared.fault.FileKind.TheVariants.{ReportFile, PricesFile, MixtureFile}
use Rattle.hull_fault.specs.declared.fault.TopFault.{TopFault}
use Rattle.hull_fault.specs.declared.fault.TopFault.TheVariants.{Memory}
use Rattle.report_read.specs.Bounds.{IsReport, AreInOrder}
use Rattle.report_read.specs.Plain.{report_of, told_of}
use Rattle.report_read.specs.declared.report.Report.{Report}
use Rattle.hull_input.specs.declared.input.MixedInput.{MixedInput}
use Rattle.hull_input.specs.declared.input.PricedInput.{PricedInput}
use Rattle.hull_input.specs.declared.input.ReportedRun.{ReportedRun}
use Rattle.hull_input.specs.declared.input.SearchInput.{SearchInput}
use Rattle.hull_input.specs.Files.{Reads, IsReadOf, AreReads}
use Rattle.hull_input.specs.Planned.{PlannedCase, planned_of, planned_run, IsPlanned}
use Rattle.hull_input.specs.Sizes.{IsRounds}
use Rattle.hull_input.specs.Steps.{Then, IsInput, IsWithinWork, IsReportFile, IsReported}
use Rattle.hull_input.specs.Steps.{IsPricesFile, IsPriced, IsMixtureFile, IsCertifiable}

-- ---- a step

-- a fault is a refusal that is due, or want of memory
abbrev pub IsFaultOf : {A : Type 0} → (Result A TopFault → Type 0) → TopFault → Type 0
IsFaultOf is_due f = is_due (Err f) ⊎ (f ≡ Memory)

-- what a step answers is what is due, unless memory ran out
abbrev pub IsAnswer : {A X : Type 0} → (Result A TopFault → Type 0) → (X → A) →
    Result X TopFault → Type 0
IsAnswer is_due view (Ok x) = is_due (Ok (view x))
IsAnswer is_due view (Err f) = IsFaultOf is_due f

-- ---- a shelf that is read

-- it tells the same, and no count falls
pub record IsLaterShelf {F : Type 0} (told : F → List ℕ → Option (List ℕ))
    (faults : F → List ℕ → ℕ) (old new : F) : Type 0 where
  pub told_same : told new ≡ told old
  pub later : (any : List ℕ) → faults old any ≤ faults new any

-- what was read of a file has P
abbrev pub HasRead : Option (List ℕ) → Type 0 → (Option (List ℕ) → Type 0) → Type 0
HasRead told rose P = (read : Option (List ℕ)) × IsReadOf told rose read × P read

-- what was read of the files of these names has P
abbrev pub HasReads : (List ℕ → Option (List ℕ)) → (List ℕ → Type 0) →
    (FileKind → Option (List ℕ)) → (Reads → Type 0) → Type 0
HasReads told rose name_of P = (reads : Reads) × AreReads told rose name_of reads × P reads

-- ---- an input with prices

-- a feasible schedule of its case, and prices over the periods
pub record IsFitPriced (p : PricedInput) : Type 0 where
  pub planned : IsPlanned p.input
  pub horizon : length (prices_of p.prices).energy ≡ (market_of p.input.case).periods

-- the input and the prices of their files, or their first refusal, or want of memory
abbrev pub IsPricedAnswer : Reads → Result PricedInput TopFault → Type 0
IsPricedAnswer reads (Ok p) =
    IsInput reads (Ok (planned_of p.input))
    × IsPricesFile (market_of p.input.case).periods (reads PricesFile) (Ok (prices_of p.prices))
IsPricedAnswer reads (Err f) = IsFaultOf (Then (IsInput reads) (IsPriced reads)) f

-- ---- and with a mixture

-- a feasible schedule and prices, and a mixture of feasible schedules of its units
pub record IsFitMixed (x : MixedInput) : Type 0 where
  pub priced : IsFitPriced x.priced
  pub shape : HasMixtureShape (market_of x.priced.input.case) (mixture_of x.mixture)
  pub feasible : IsMixture (market_of x.priced.input.case) (mixture_of x.mixture)

-- the input, the prices and the mixture of their files, or their first refusal, or want of memory
abbrev pub IsMixedAnswer : Reads → Result MixedInput TopFault → Type 0
IsMixedAnswer reads (Ok x) =
    IsPricedAnswer reads (Ok x.priced)
    × IsMixtureFile (market_of x.priced.input.case) (reads MixtureFile) (Ok (mixture_of x.mixture))
IsMixedAnswer reads (Err f) = IsFaultOf (Then (IsInput reads) (IsCertifiable reads)) f

-- ---- a run with its report

-- a report within the bounds of reading, its units in order
abbrev pub IsFitReport : Report → Type 0
IsFitReport r = IsReport (report_of r) × AreInOrder 0 (map told_of r.lines.items)

-- such a report, and a run with its budget and number of proposals ahead
pub record IsFitReported (x : ReportedRun) : Type 0 where
  pub setup : IsSetup (setup_of x.terms)
  pub budget : x.terms.budget ≡ x.report.budget
  pub ahead : x.terms.ahead ≡ x.report.ahead
  pub report : IsFitReport x.report

-- the report and the run of its budget, or their first refusal, or want of memory
abbrev pub IsReportedAnswer : Reads → Result ReportedRun TopFault → Type 0
IsReportedAnswer reads (Ok x) =
    (c : PlannedCase) × IsInput reads (Ok c)
    × IsReportFile (reads ReportFile) (Ok (report_of x.report))
    × IsWithinWork (report_of x.report).budget c (Ok (planned_run x.terms))
IsReportedAnswer reads (Err f) = IsFaultOf (Then (IsInput reads) (IsReported reads)) f

-- ---- a search

-- a feasible schedule of its case, and rounds that a search may have
pub record IsFitSearch (search : SearchInput) : Type 0 where
  pub planned : IsPlanned search.input
  pub rounds : IsRounds search.rounds
