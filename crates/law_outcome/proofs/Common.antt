-- The names that the proofs of this crate take from its specs and from other crates, passed on from one place.
pub use Rattle.std.proofs.Common.{◌≡◌, ℕ, ◌<◌, ◌⊎◌, inl, inr, Bool, true, false, List, [], ◌∷◌, Option, None, Some}
pub use Rattle.std.proofs.Common.{Result, Ok, Err, refl, sym, ap, ◌∙◌, subst, arith, length, ◌-◌, ◌≤◌, slice_get, ℤ}
pub use Rattle.std.proofs.Common.{unsigned_abs, ◌*◌, pos, ◌≢◌}
pub use Rattle.std.proofs.lemmas.Bool.{ltb-true, cases_lt}
pub use Rattle.std.proofs.lemmas.List.{length-map, get_or-map}
pub use Rattle.std.proofs.lemmas.Option.{slice_get_within, same_Some}
pub use Rattle.std.specs.List.{All}
pub use Rattle.std.specs.Prelude.{nat_lt, if◌then◌else◌, IsTrue, IfSome, IsSome, ◌≤ℤ◌}
pub use Rattle.hull_input.specs.Planned.{PlannedCase}
pub use Rattle.plan_settle.specs.FixedCase.{fixed_market}
pub use Rattle.law_parts.specs.BoundLaws.{RunPricesAreWithin}
pub use Rattle.hull_input.specs.Files.{IsReadOf, AreReads, Reads, case_and_schedule, with_report, with_prices}
pub use Rattle.hull_input.specs.Files.{with_mixture}
pub use Rattle.hull_input.specs.Laws.{BytesAreThoseRead, ReportBytesAreItsText}
pub use Rattle.hull_input.specs.Steps.{bytes_of, IsInput, IsWithinWork, IsReportFile, Goes, Then, IsBytes, case_fault}
pub use Rattle.hull_input.specs.Steps.{plan_fault, IsCase, IsCaseFile, IsPlan, IsPlanFile, IsChecked, IsReportIn}
pub use Rattle.hull_input.specs.Steps.{IsPrices, IsPricesFile, IsPriced, prices_fault, IsShares, IsSharesFile, IsMixed}
pub use Rattle.hull_input.specs.Steps.{IsMixtureFile, HasMixture, IsCertifiable, mixture_fault, rounds_for}
pub use Rattle.hull_input.specs.Steps.{IsWithinRounds}
pub use Rattle.hull_command.specs.FurtherSteps.{IsMade, IsJudged, IsAudit}
pub use Rattle.hull_command.specs.Laws.{WordsHaveNumbersInRange}
pub use Rattle.hull_command.specs.Outcome.{command_for, HasText, Ends, status_at, IsBoundText, IsFixedText}
pub use Rattle.hull_command.specs.Outcome.{IsReportText, IsAuditText, IsSettlementText, IsCertificateText, Command}
pub use Rattle.hull_command.specs.declared.end.End.{End}
pub use Rattle.hull_command.specs.declared.end.End.TheVariants.{Done, Cut, Refused, Done as done_whole}
pub use Rattle.plain_lists.specs.declared.limits.TheConstants.{MOST_BYTES}
pub use Rattle.hull_fault.specs.FaultLines.{status_of, fault_line}
pub use Rattle.right_report.specs.Laws.{RightReportHasForm, ReportPaymentsMakeUpTheGap, OneIsChosen, OneRightReport}
pub use Rattle.right_report.specs.RightReport.{unit_lines, IsRightReport}
pub use Rattle.right_report.specs.RightSide.{PaymentsOfFixedReportSideMakeUpTheGap, OneRightSide}
pub use Rattle.hull_fault.specs.declared.fault.FileKind.TheVariants.{CaseFile, ScheduleFile, ReportFile, PricesFile}
pub use Rattle.hull_fault.specs.declared.fault.FileKind.TheVariants.{MixtureFile}
pub use Rattle.hull_fault.specs.declared.fault.TopFault.{TopFault}
pub use Rattle.hull_fault.specs.Words.{report_number}
pub use Rattle.hull_fault.specs.declared.fault.ReportCode.{ReportCode}
pub use Rattle.hull_fault.specs.declared.fault.ReportCode.TheVariants.{OutOfForm, Wrong}
pub use Rattle.hull_fault.specs.declared.fault.TopFault.TheVariants.{TooBig, Report as Unfit, PlanRule, Words, Read}
pub use Rattle.hull_fault.specs.declared.fault.TopFault.TheVariants.{CaseText, CaseField, PlanText, PlanShape, Work}
pub use Rattle.hull_fault.specs.declared.fault.TopFault.TheVariants.{Memory, PricesText, PricesValue, MixtureText}
pub use Rattle.hull_fault.specs.declared.fault.TopFault.TheVariants.{MixtureShare, MixtureRule, Report as report_fault}
pub use Rattle.hull_words.specs.Asked.{Asked, AuditAsked, audit, BoundAsked, bound, PriceAsked, fixed, price, check}
pub use Rattle.hull_words.specs.Asked.{try, settle, certify, convex, CheckAsked, SettleAsked, CertifyAsked, ConvexAsked}
pub use Rattle.hull_words.specs.Words.{words_of}
pub use Rattle.hull_words.specs.declared.word_fault.WordFault.{WordFault}
pub use Rattle.report_form.specs.Laws.{IsFlatLine, HasForm, TextDeterminesReport}
pub use Rattle.report_form.specs.ReportText.{UnitLine, Report, report_text}
pub use Rattle.law_outcome.specs.Laws.{OverReads, IsAuditPromised, IsWrongAt, IsAuditRefused, IsBoundPromised}
pub use Rattle.law_outcome.specs.Laws.{IsFixedPromised, is_refusal, IsWritten, IsUnread, HasCause, IsQuiet, IsDecided}
pub use Rattle.law_outcome.specs.Laws.{word_fault, FollowsFromWords, IsPromised, IsSettlePromised, HasNoPrices}
pub use Rattle.law_outcome.specs.Laws.{IsCertifyPromised, HasNoMixture, AskForPrices, AreAlike, with_workers}
pub use Rattle.law_outcome.specs.Laws.{TellTheSame, TextFollows, IsConvexPromised}
pub use Rattle.uc_model.specs.Data.{Market, PriceLists, Schedule, unit_count}
pub use Rattle.price_settle.specs.Laws.{PlanHasAtMostOneSettlement, SettlementsAddUp}
pub use Rattle.price_settle.specs.Settled.{Settled, IsSettledAt}
pub use Rattle.uc_model.specs.Laws.{PaymentsAreAtLeastZero}
pub use Rattle.uc_model.specs.PriceRule.{Proposal, chosen_number}
pub use Rattle.plain_lists.specs.Sums.{int_at}
pub use Rattle.uc_model.specs.Systems.{plan_cost, IsFeasiblePlan}
pub use Rattle.gap_proof.specs.Mixtures.{MixtureLists, IsMixture}
