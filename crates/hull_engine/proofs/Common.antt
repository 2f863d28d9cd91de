-- The names that the proofs of this crate take from its specs and from other crates, passed on from one place.
pub use Rattle.std.proofs.Common.{◌≡◌, ℕ, ℤ, List, subst, sym, ap, ◌∙◌, inl, inr, Option, Result, Ok, Err, refl, ◌≤◌}
pub use Rattle.std.proofs.Common.{[], ◌∷◌, ◌++◌, length, arith, length-append, rules}
pub use Rattle.std.proofs.lemmas.Int.{to_z-of_z}
pub use Rattle.std.proofs.lemmas.List.{length-map}
pub use Rattle.std.proofs.lemmas.List.Elements.{All-push}
pub use Rattle.std.specs.Int.{w64}
pub use Rattle.std.specs.List.{All}
pub use Rattle.std.specs.Prelude.{OnOk, OnErr}
pub use Rattle.hull_input.specs.Planned.{planned_in, planned_run, PlannedCase}
pub use Rattle.plan_settle.specs.Ended.{IsEnded}
pub use Rattle.board_core.specs.Setups.{setup_of}
pub use Rattle.board_core.specs.declared.terms.Terms.{Terms}
pub use Rattle.unit_program.specs.Tops.{IsBenchOver}
pub use Rattle.hull_command.specs.Answers.{HasStatus, IsRunText, IsCommandAnswer}
pub use Rattle.hull_fault.specs.declared.fault.TopFault.TheVariants.{Memory}
pub use Rattle.hull_command.specs.Rest.{Completes, rest_with, rest_of, nothing_read}
pub use Rattle.hull_command.specs.Outcome.{IsReportText, IsBoundText, IsFixedText, Command, command_for, Ends, HasText}
pub use Rattle.hull_input.specs.Files.{Reads}
pub use Rattle.hull_io.specs.Edge.{Gains, FallsShort}
pub use Rattle.right_report.specs.RightSide.{told_of}
pub use Rattle.hull_report.specs.FixedText.{fixed_text}
pub use Rattle.hull_report.specs.TryText.{try_text}
pub use Rattle.hull_words.specs.Words.{texts}
unfoldable pub use Rattle.hull_words.specs.Words.{words_of}
pub use Rattle.report_form.specs.ReportText.{Report, report_text}
unfoldable pub use Rattle.report_read.specs.Plain.{report_of}
pub use Rattle.uc_model.specs.Data.{unit_count}
pub use Rattle.uc_model.specs.PlainCases.{market_of, proposal_of}
