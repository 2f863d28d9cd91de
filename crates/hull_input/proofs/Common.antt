-- The names that the proofs of this crate take from its specs and from other crates, passed on from one place.
pub use Rattle.std.proofs.Common.{◌≡◌, ℕ, ℤ, List, ap, sym, subst, ◌∙◌, inl, inr, Option, Some, Result, Ok, Err, refl}
pub use Rattle.std.proofs.Common.{◌≤◌, ◌<◌}
pub use Rattle.std.proofs.Common.{Bool, true, false, [], length, arith, ◌+◌, replicate, None, rules}
pub use Rattle.std.proofs.lemmas.Bool.{le-ltb, lt-ltb}
pub use Rattle.std.proofs.lemmas.Int.{to_z-of_z}
pub use Rattle.std.proofs.lemmas.List.{length-replicate}
pub use Rattle.std.proofs.lemmas.Result.{err_from_is_err_and}
pub use Rattle.std.specs.Int.{w128}
pub use Rattle.std.specs.Prelude.{IfSome, nat_lt, if◌then◌else◌}
pub use Rattle.hull_input.specs.Answers.{IsFaultOf, HasRead, HasReads, IsAnswer}
pub use Rattle.hull_input.specs.Files.{case_and_schedule, with_report, with_prices, with_mixture, Reads, IsReadOf}
pub use Rattle.hull_input.specs.Files.{AreReads}
pub use Rattle.hull_input.specs.Planned.{planned_of, planned_run, PlannedCase}
pub use Rattle.hull_input.specs.Steps.{Then, bytes_of, IsBytes, IsCase, IsCaseFile, IsPlan, IsPlanFile, IsChecked}
pub use Rattle.hull_input.specs.Steps.{IsInput, IsWithinWork, IsReportIn, IsReportFile, IsReported, IsPrices}
pub use Rattle.hull_input.specs.Steps.{IsPricesFile, IsPriced, IsShares, IsSharesFile, IsMixed, IsMixtureFile}
pub use Rattle.hull_input.specs.Steps.{IsCertifiable}
pub use Rattle.hull_io.specs.Edge.{Rose}
pub use Rattle.hull_fault.specs.declared.fault.FileKind.TheVariants.{CaseFile, ScheduleFile, ReportFile, PricesFile}
pub use Rattle.hull_fault.specs.declared.fault.FileKind.TheVariants.{MixtureFile}
pub use Rattle.hull_fault.specs.declared.fault.TopFault.{TopFault}
pub use Rattle.hull_fault.specs.declared.fault.TopFault.TheVariants.{TooBig}
pub use Rattle.hull_words.specs.Asked.{SettleAsked, settle_asked}
pub use Rattle.report_form.specs.ReportText.{Report, report_text}
unfoldable pub use Rattle.report_read.specs.Plain.{report_of}
pub use Rattle.uc_text.specs.Files.{text, value}
pub use Rattle.uc_model.specs.Data.{Market}
pub use Rattle.uc_model.specs.PlainCases.{market_of, schedules_of}
pub use Rattle.uc_model.specs.PlainUnits.{prices_of}
pub use Rattle.gap_proof.specs.Mixtures.{mixture_of}
