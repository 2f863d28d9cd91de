-- The names that the proofs of this crate take from its specs and from other crates, passed on from one place.
pub use Rattle.std.proofs.Common.{◌≡◌, ℕ, ℤ, List, subst, sym, ap, ◌∙◌, inl, inr, Option, Some, Result, Ok, Err, refl}
pub use Rattle.std.proofs.Common.{◌≤◌, false, [], ◌∷◌, length, arith, ◌+◌, Bool, true, None, pos, ◌&&◌, cond, leb}
pub use Rattle.std.proofs.Common.{option_map, unwrap_or, unsigned_abs, rules}
pub use Rattle.std.proofs.lemmas.Bool.{leb-true}
pub use Rattle.std.proofs.lemmas.Int.{ints, to_z-of_z}
pub use Rattle.std.proofs.lemmas.Result.{err_from_is_err_and}
pub use Rattle.std.specs.Int.{w64, w128}
pub use Rattle.std.specs.Prelude.{option_and_then}
pub use Rattle.hull_input.specs.Planned.{planned_in, planned_of, planned_run, PlannedCase}
pub use Rattle.plan_settle.specs.Ended.{IsEnded}
pub use Rattle.board_core.specs.declared.terms.Terms.{Terms}
pub use Rattle.hull_command.specs.Answers.{IsRunText, IsCommandAnswer, IsEndOf, IsCertifiedAt}
pub use Rattle.hull_input.specs.Answers.{IsFaultOf}
pub use Rattle.hull_input.specs.Sizes.{HasNumbers}
pub use Rattle.hull_command.specs.Inputs.{try_asked, bound_asked, audit_asked, certify_asked}
pub use Rattle.hull_command.specs.Rest.{Completes, rest_with, nothing_read}
pub use Rattle.hull_command.specs.Outcome.{IsReportText, IsBoundText, Command, command_for, Ends}
pub use Rattle.hull_command.specs.Outcome.{IsAuditText}
pub use Rattle.hull_input.specs.Steps.{Then, IsInput, IsWithinWork, IsReportFile, IsPricesFile, IsMixtureFile}
pub use Rattle.hull_input.specs.Steps.{IsReported}
pub use Rattle.hull_input.specs.Files.{Reads}
pub use Rattle.hull_command.specs.FurtherSteps.{IsAudit, IsMade}
pub use Rattle.hull_io.specs.Edge.{Gains, FallsShort, Rose, Writes}
pub use Rattle.right_report.specs.RightSide.{told_of}
pub use Rattle.hull_report.specs.FixedText.{fixed_text}
pub use Rattle.hull_report.specs.TryText.{try_text}
pub use Rattle.hull_fault.specs.declared.fault.FileKind.TheVariants.{ReportFile, CaseFile, PricesFile, MixtureFile}
pub use Rattle.hull_fault.specs.declared.fault.TopFault.{TopFault}
pub use Rattle.hull_fault.specs.declared.fault.TopFault.TheVariants.{Words}
pub use Rattle.hull_words.specs.Asked.{Asked, Found, CheckAsked, PriceAsked, SettleAsked, price, check, try, bound}
pub use Rattle.hull_words.specs.Asked.{fixed, audit, settle, certify, convex, with_both, names_from, settle_from}
pub use Rattle.hull_words.specs.Asked.{asked_from, asked, price_asked, settle_asked, convex_asked}
pub use Rattle.hull_words.specs.Words.{first_fault, backwards, or_fault, or_missing, asked_of, later_words, texts}
unfoldable pub use Rattle.hull_words.specs.Words.{found_in, words_of}
pub use Rattle.hull_words.specs.declared.word_fault.WordFault.{WordFault}
pub use Rattle.report_form.specs.ReportText.{Report}
unfoldable pub use Rattle.report_read.specs.Plain.{report_of}
pub use Rattle.uc_model.specs.Data.{unit_count}
pub use Rattle.uc_model.specs.PlainCases.{market_of, schedules_of}
pub use Rattle.uc_model.specs.PlainUnits.{prices_of}
pub use Rattle.gap_proof.specs.Mixtures.{MixtureLists, mixture_of}
pub use Rattle.gap_proof.specs.MixtureBound.{mixture_bound}
