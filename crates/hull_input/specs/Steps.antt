-- The steps of a command, in the order in which they refuse: each goes on with what it found, or
-- ends in a refusal (this project's profile). What a file's bytes are is said in uc_case, uc_plan,
-- uc_prices, uc_mixture and report_read, and the rules of a schedule in uc_model. The steps of `try`
-- and `audit` that read no file are in hull_command's FurtherSteps.
use Rattle.std.specs.Prelude.{◌≡◌, ℕ, ◌*◌, nat_lt, List, [], length, Option, None, Some, Result}
use Rattle.std.specs.Prelude.{Ok, Err, slice_get, if◌then◌else◌, ◌/◌, min, max}
use Rattle.std.specs.Result.{result_map_both}
use Rattle.uc_model.specs.Data.{Market, PriceLists, Schedule, unit_count}
use Rattle.uc_model.specs.Systems.{IsFeasiblePlan, plan_cost}
use Rattle.uc_model.specs.Refusals.{refusals}
use Rattle.plain_lists.specs.declared.limits.TheConstants.{MOST_BYTES, MOST_WORK}
use Rattle.hull_words.specs.declared.defaults.TheConstants.{DEFAULT_ROUNDS}
use Rattle.uc_text.specs.Files.{FileFault, text, value}
use Rattle.uc_case.specs.CaseFiles.{IsCaseOf}
use Rattle.uc_field.specs.declared.fault.FieldFault.{FieldFault}
use Rattle.uc_plan.specs.PlanFiles.{IsPlanOf}
use Rattle.uc_plan.specs.declared.fault.ShapeFault.{ShapeFault}
use Rattle.hull_input.specs.Files.{Reads}
use Rattle.hull_input.specs.Planned.{PlannedCase}
use Rattle.uc_prices.specs.PricesFiles.{IsPricesOf}
use Rattle.uc_prices.specs.declared.fault.PriceFault.{PriceFault}
use Rattle.uc_mixture.specs.MixtureFiles.{IsMixtureFileOf}
use Rattle.uc_mixture.specs.declared.fault.ShareFault.{ShareFault}
use Rattle.gap_proof.specs.Mixtures.{MixtureLists, IsMixture}
use Rattle.gap_proof.specs.MixtureRefused.{mixture_refusals, entry_refusal_of}
use Rattle.gap_proof.specs.declared.mixture_check.EntryFault.{EntryFault}
use Rattle.plan_check.specs.Checks.{refusal_of}
use Rattle.plan_check.specs.declared.RuleFault.{RuleFault}
use Rattle.hull_fault.specs.declared.fault.FileKind.{FileKind}
use Rattle.hull_fault.specs.declared.fault.FileKind.TheVariants.{CaseFile, ScheduleFile}
use Rattle.hull_fault.specs.declared.fault.FileKind.TheVariants.{ReportFile, PricesFile, MixtureFile}
use Rattle.hull_fault.specs.declared.fault.ReportCode.TheVariants.{OutOfForm}
use Rattle.hull_fault.specs.declared.fault.TopFault.{TopFault}
use Rattle.hull_fault.specs.declared.fault.TopFault.TheVariants.{Read, CaseText, CaseField}
use Rattle.hull_fault.specs.declared.fault.TopFault.TheVariants.{PlanText, PlanShape, PlanRule}
use Rattle.hull_fault.specs.declared.fault.TopFault.TheVariants.{TooBig, Work, Report as Unfit}
use Rattle.hull_fault.specs.declared.fault.TopFault.TheVariants.{PricesText, PricesValue}
use Rattle.hull_fault.specs.declared.fault.TopFault.TheVariants.{MixtureText, MixtureShare}
use Rattle.hull_fault.specs.declared.fault.TopFault.TheVariants.{MixtureRule}
use Rattle.report_form.specs.ReportText.{Report, report_text}
use Rattle.report_read.specs.Bounds.{IsReport}
use Rattle.report_read.specs.Faults.{IsFault}

-- ---- one step after another

-- where the step found x, the next one goes on with it; else its refusal stands
abbrev pub Goes : {A B : Type 0} → Result A TopFault → (A → Result B TopFault → Type 0) →
    Result B TopFault → Type 0
Goes (Ok x) next due = next x due
Goes (Err fault) next due = due ≡ Err fault

-- one step, and then the next
abbrev pub Then : {A B : Type 0} → (Result A TopFault → Type 0) →
    (A → Result B TopFault → Type 0) → Result B TopFault → Type 0
Then {A} first next due = (found : Result A TopFault) × first found × Goes found next due

-- ---- a file

-- its bytes, where it was read and hasn't more than 67,108,864
abbrev pub bytes_of : FileKind → Option (List ℕ) → Result (List ℕ) TopFault
bytes_of file None = Err (Read file)
bytes_of file (Some bytes) =
    if nat_lt MOST_BYTES (length bytes) then Err (TooBig file) else Ok bytes

abbrev pub IsBytes : FileKind → Option (List ℕ) → Result (List ℕ) TopFault → Type 0
IsBytes file read due = due ≡ bytes_of file read

-- ---- the case

abbrev pub case_fault : FileFault FieldFault → TopFault
case_fault (text f) = CaseText f
case_fault (value f) = CaseField f

-- the case that bytes are, or else the first fault of their text or of its values
abbrev pub IsCase : List ℕ → Result Market TopFault → Type 0
IsCase bytes due =
    (found : Result Market (FileFault FieldFault)) × IsCaseOf bytes found
    × (due ≡ result_map_both (λ m. m) case_fault found)

-- the case of its file
abbrev pub IsCaseFile : Option (List ℕ) → Result Market TopFault → Type 0
IsCaseFile read = Then (IsBytes CaseFile read) IsCase

-- ---- the schedule

abbrev pub plan_fault : FileFault ShapeFault → TopFault
plan_fault (text f) = PlanText f
plan_fault (value f) = PlanShape f

-- the schedules of all units that bytes are, or else the first fault of their text or of its values
abbrev pub IsPlan : Market → List ℕ → Result (List Schedule) TopFault → Type 0
IsPlan m bytes due =
    (found : Result (List Schedule) (FileFault ShapeFault)) × IsPlanOf m bytes found
    × (due ≡ result_map_both (λ plan. plan) plan_fault found)

-- the schedules of their file
abbrev pub IsPlanFile : Market → Option (List ℕ) → Result (List Schedule) TopFault → Type 0
IsPlanFile m read = Then (IsBytes ScheduleFile read) (IsPlan m)

-- a feasible schedule comes with its cost, and any other with its first refusal
abbrev pub IsChecked : Market → List Schedule → Result PlannedCase TopFault → Type 0
IsChecked m plan (Ok c) =
    IsFeasiblePlan m plan × (refusals m plan ≡ [])
    × (c ≡ record { market = m; plan = plan; cost = plan_cost m plan })
IsChecked m plan (Err f) =
    (rule : RuleFault) × (f ≡ PlanRule rule)
    × (slice_get (refusals m plan) 0 ≡ Some (refusal_of rule))

-- THE INPUT of a command that reads files: the case, then the form of its schedule, then its rules
abbrev pub IsInput : Reads → Result PlannedCase TopFault → Type 0
IsInput reads =
    Then (IsCaseFile (reads CaseFile)) (λ m.
    Then (IsPlanFile m (reads ScheduleFile)) (IsChecked m))

-- ---- a run

-- proposals, units and periods multiplied; a bid counts as a unit
abbrev pub work_for : ℕ → Market → ℕ
work_for proposals m = proposals * unit_count m * m.periods

-- the fault of too many
abbrev pub above_work : ℕ → Market → TopFault
above_work proposals m = Work proposals (unit_count m) m.periods

-- a run has at most 50,000,000
abbrev pub within_work : ℕ → PlannedCase → Result PlannedCase TopFault
within_work proposals c =
    if nat_lt MOST_WORK (work_for proposals c.market) then Err (above_work proposals c.market)
    else Ok c

abbrev pub IsWithinWork : ℕ → PlannedCase → Result PlannedCase TopFault → Type 0
IsWithinWork proposals c due = due ≡ within_work proposals c

-- ---- a search

-- The most rounds of a search over a case: as many as words say, or else as many as that limit
-- allows, 150 at most and 1 at least.
abbrev pub rounds_for : Option ℕ → Market → ℕ
rounds_for (Some rounds) m = rounds
rounds_for None m = max (min (MOST_WORK / max (work_for 1 m) 1) DEFAULT_ROUNDS) 1

-- a search is a run of so many proposals as it has rounds
abbrev pub IsWithinRounds : Option ℕ → PlannedCase → Result PlannedCase TopFault → Type 0
IsWithinRounds rounds c = IsWithinWork (rounds_for rounds c.market) c

-- ---- a report

-- the report within the bounds of reading that bytes are the text of, or else the first line at
-- which they go on as none does
abbrev pub IsReportIn : List ℕ → Result Report TopFault → Type 0
IsReportIn bytes (Ok r) = IsReport r × (bytes ≡ report_text r)
IsReportIn bytes (Err f) = (line : ℕ) × IsFault bytes line × (f ≡ Unfit OutOfForm line)

-- the report of its file
abbrev pub IsReportFile : Option (List ℕ) → Result Report TopFault → Type 0
IsReportFile read = Then (IsBytes ReportFile read) IsReportIn

-- A REPORT'S RUN: the report of its file, then the limit of work for that report's budget
abbrev pub IsReported : Reads → PlannedCase → Result PlannedCase TopFault → Type 0
IsReported reads c = Then (IsReportFile (reads ReportFile)) (λ r. IsWithinWork r.budget c)

-- ---- prices

abbrev pub prices_fault : FileFault PriceFault → TopFault
prices_fault (text f) = PricesText f
prices_fault (value f) = PricesValue f

-- the prices over so many periods that bytes are, or else the first fault of their text or of its
-- values
abbrev pub IsPrices : ℕ → List ℕ → Result PriceLists TopFault → Type 0
IsPrices periods bytes due =
    (found : Result PriceLists (FileFault PriceFault)) × IsPricesOf periods bytes found
    × (due ≡ result_map_both (λ prices. prices) prices_fault found)

-- the prices of their file
abbrev pub IsPricesFile : ℕ → Option (List ℕ) → Result PriceLists TopFault → Type 0
IsPricesFile periods read = Then (IsBytes PricesFile read) (IsPrices periods)

-- an input is left by a file of prices over its periods, and refused by the first fault of any other
abbrev pub IsPriced : Reads → PlannedCase → Result PlannedCase TopFault → Type 0
IsPriced reads c =
    Then (IsPricesFile c.market.periods (reads PricesFile)) (λ prices due. due ≡ Ok c)

-- ---- a mixture

abbrev pub mixture_fault : FileFault ShareFault → TopFault
mixture_fault (text f) = MixtureText f
mixture_fault (value f) = MixtureShare f

-- the mixture over the thermal units of a case that bytes are, whatever its schedules keep, or else
-- the first fault of their text or of its values
abbrev pub IsShares : Market → List ℕ → Result MixtureLists TopFault → Type 0
IsShares m bytes due =
    (found : Result MixtureLists (FileFault ShareFault)) × IsMixtureFileOf m bytes found
    × (due ≡ result_map_both (λ x. x) mixture_fault found)

-- the mixture of its file
abbrev pub IsSharesFile : Market → Option (List ℕ) → Result MixtureLists TopFault → Type 0
IsSharesFile m read = Then (IsBytes MixtureFile read) (IsShares m)

-- a mixture of feasible schedules is left, and any other has its first refusal
abbrev pub IsMixed : Market → MixtureLists → Result MixtureLists TopFault → Type 0
IsMixed m x (Ok left) = IsMixture m x × (mixture_refusals m x ≡ []) × (left ≡ x)
IsMixed m x (Err f) =
    (rule : EntryFault) × (f ≡ MixtureRule rule)
    × (slice_get (mixture_refusals m x) 0 ≡ Some (entry_refusal_of rule))

-- the form of the mixture of its file, then the rules of its schedules
abbrev pub IsMixtureFile : Market → Option (List ℕ) → Result MixtureLists TopFault → Type 0
IsMixtureFile m read = Then (IsSharesFile m read) (IsMixed m)

-- an input is left by a file of such a mixture, and refused by the first fault of any other
abbrev pub HasMixture : Reads → PlannedCase → Result PlannedCase TopFault → Type 0
HasMixture reads c =
    Then (IsMixtureFile c.market (reads MixtureFile)) (λ x due. due ≡ Ok c)

-- THE CERTIFICATE of an input: the prices of their file, then the mixture of its own
abbrev pub IsCertifiable : Reads → PlannedCase → Result PlannedCase TopFault → Type 0
IsCertifiable reads c = Then (IsPriced reads c) (HasMixture reads)
