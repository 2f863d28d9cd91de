-- The fault of each reader, as the fault that a command ends with (this project's profile).
use Rattle.hull_fault.specs.declared.fault.ReportCode.TheVariants.{OutOfForm}
use Rattle.hull_fault.specs.declared.fault.TopFault.{TopFault}
use Rattle.hull_fault.specs.declared.fault.TopFault.TheVariants.{CaseText, CaseField, PlanText}
use Rattle.hull_fault.specs.declared.fault.TopFault.TheVariants.{PlanShape, PricesText, PricesValue}
use Rattle.hull_fault.specs.declared.fault.TopFault.TheVariants.{MixtureText, MixtureShare, Memory}
use Rattle.hull_fault.specs.declared.fault.TopFault.TheVariants.{Report as Unfit}
use Rattle.report_read.specs.declared.report.ReportError.{ReportError}
use Rattle.report_read.specs.declared.report.ReportError.TheVariants as reports
use Rattle.uc_case.specs.declared.fault.CaseFault.{CaseFault}
use Rattle.uc_case.specs.declared.fault.CaseFault.TheVariants as cases
use Rattle.uc_mixture.specs.declared.fault.MixtureFault.{MixtureFault}
use Rattle.uc_mixture.specs.declared.fault.MixtureFault.TheVariants as mixtures
use Rattle.uc_plan.specs.declared.fault.PlanFault.{PlanFault}
use Rattle.uc_plan.specs.declared.fault.PlanFault.TheVariants as plans
use Rattle.uc_prices.specs.declared.fault.PricesFault.{PricesFault}
use Rattle.uc_prices.specs.declared.fault.PricesFault.TheVariants as prices

abbrev pub of_case : CaseFault → TopFault
of_case (cases.Text f) = CaseText f
of_case (cases.Field f) = CaseField f
of_case cases.Memory = Memory

abbrev pub of_plan : PlanFault → TopFault
of_plan (plans.Text f) = PlanText f
of_plan (plans.Shape f) = PlanShape f
of_plan plans.Memory = Memory

abbrev pub of_report : ReportError → TopFault
of_report (reports.Fault line) = Unfit OutOfForm line
of_report reports.Memory = Memory

abbrev pub of_prices : PricesFault → TopFault
of_prices (prices.Text f) = PricesText f
of_prices (prices.Price f) = PricesValue f
of_prices prices.Memory = Memory

abbrev pub of_mixture : MixtureFault → TopFault
of_mixture (mixtures.Text f) = MixtureText f
of_mixture (mixtures.Share f) = MixtureShare f
of_mixture mixtures.Memory = Memory
