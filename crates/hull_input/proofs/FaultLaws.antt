-- What a reader refuses is what the step of its file refuses.
use Rattle.hull_input.proofs.Common.{ℕ, List, Result, Err, refl, inl, inr, IsFaultOf, IsCase, IsPlan, IsPrices}
use Rattle.hull_input.proofs.Common.{IsReportIn, IsShares, market_of, schedules_of, prices_of, mixture_of, text, value}
use Rattle.hull_fault.specs.Sources.{of_case, of_plan, of_prices, of_report, of_mixture}
use Rattle.gap_proof.specs.declared.mixtures.Mixture.{Mixture}
use Rattle.report_read.specs.Faults.{IfFault, IsFault}
use Rattle.report_read.specs.declared.report.Report.{Report}
use Rattle.report_read.specs.declared.report.ReportError.{ReportError}
use Rattle.report_read.specs.declared.report.ReportError.TheVariants as reports
use Rattle.uc_case.specs.CaseFiles.{IfRead as IfCase, IsCaseOf}
use Rattle.uc_case.specs.declared.fault.CaseFault.{CaseFault}
use Rattle.uc_case.specs.declared.fault.CaseFault.TheVariants as cases
use Rattle.uc_mixture.specs.MixtureFiles.{IfRead as IfMixture, IsMixtureFileOf}
use Rattle.uc_mixture.specs.declared.fault.MixtureFault.{MixtureFault}
use Rattle.uc_mixture.specs.declared.fault.MixtureFault.TheVariants as mixtures
use Rattle.uc_model.specs.Data.{Market}
use Rattle.uc_model.specs.declared.cases.Case.{Case}
use Rattle.uc_model.specs.declared.cases.Plan.{Plan}
use Rattle.uc_model.specs.declared.units.Prices.{Prices}
use Rattle.uc_plan.specs.PlanFiles.{IfRead as IfPlan, IsPlanOf}
use Rattle.uc_plan.specs.declared.fault.PlanFault.{PlanFault}
use Rattle.uc_plan.specs.declared.fault.PlanFault.TheVariants as plans
use Rattle.uc_prices.specs.PricesFiles.{IfRead as IfPrices, IsPricesOf}
use Rattle.uc_prices.specs.declared.fault.PricesFault.{PricesFault}
use Rattle.uc_prices.specs.declared.fault.PricesFault.TheVariants as prices

pub case_refuses : (bytes : List ℕ) (f : CaseFault) →
    (let r : Result Case CaseFault = Err f in IfCase market_of r (IsCaseOf bytes)) →
    IsFaultOf (IsCase bytes) (of_case f)
case_refuses bytes (cases.Text f) is = inl (Err (text f), is, refl)
case_refuses bytes (cases.Field f) is = inl (Err (value f), is, refl)
case_refuses bytes cases.Memory is = inr refl

pub plan_refuses : (m : Market) (bytes : List ℕ) (f : PlanFault) →
    (let r : Result Plan PlanFault = Err f in IfPlan schedules_of r (IsPlanOf m bytes)) →
    IsFaultOf (IsPlan m bytes) (of_plan f)
plan_refuses m bytes (plans.Text f) is = inl (Err (text f), is, refl)
plan_refuses m bytes (plans.Shape f) is = inl (Err (value f), is, refl)
plan_refuses m bytes plans.Memory is = inr refl

pub prices_refuse : (periods : ℕ) (bytes : List ℕ) (f : PricesFault) →
    (let r : Result Prices PricesFault = Err f in IfPrices prices_of r (IsPricesOf periods bytes)) →
    IsFaultOf (IsPrices periods bytes) (of_prices f)
prices_refuse periods bytes (prices.Text f) is = inl (Err (text f), is, refl)
prices_refuse periods bytes (prices.Price f) is = inl (Err (value f), is, refl)
prices_refuse periods bytes prices.Memory is = inr refl

pub report_refuses : (bytes : List ℕ) (f : ReportError) →
    (let r : Result Report ReportError = Err f in IfFault r (IsFault bytes)) →
    IsFaultOf (IsReportIn bytes) (of_report f)
report_refuses bytes (reports.Fault line) is = inl (line, is, refl)
report_refuses bytes reports.Memory is = inr refl

pub shares_refuse : (m : Market) (bytes : List ℕ) (f : MixtureFault) →
    (let r : Result Mixture MixtureFault = Err f in IfMixture mixture_of r (IsMixtureFileOf m bytes)) →
    IsFaultOf (IsShares m bytes) (of_mixture f)
shares_refuse m bytes (mixtures.Text f) is = inl (Err (text f), is, refl)
shares_refuse m bytes (mixtures.Share f) is = inl (Err (value f), is, refl)
shares_refuse m bytes mixtures.Memory is = inr refl
