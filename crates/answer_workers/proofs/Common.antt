-- The names that the proofs of this crate take from its specs and from other crates, passed on from one place.
pub use Rattle.std.proofs.Common.{◌≡◌, ℕ, suc, ◌+◌, ◌<◌, ◌≤◌, inl, inr, Bool, true, false, cond, List, [], ◌∷◌}
pub use Rattle.std.proofs.Common.{◌++◌, map, length, refl, sym, ap, ◌∙◌, subst, arith, append_assoc, ◌≢◌, append-nil}
pub use Rattle.std.proofs.Common.{get_or, set}
pub use Rattle.std.proofs.lemmas.List.{get_or-set_same, get_or-set_other, get_or_default, length-set, length-replicate}
pub use Rattle.std.proofs.lemmas.List.{length-append}
pub use Rattle.std.proofs.lemmas.List.Elements.{All-nil, All-cons, All-append, All-weaker, All-head, All-tail, All-set}
pub use Rattle.std.proofs.lemmas.List.Elements.{All-push, AllWithin-set, AllWithin-more_set}
pub use Rattle.std.proofs.lemmas.Option.{slice_get_within, get_or_from_slice_get}
pub use Rattle.std.specs.List.{All, AllWithin, Contains}
pub use Rattle.std.specs.Prelude.{vec_capacity}
pub use Rattle.std.specs.Vec.{with_item}
pub use Rattle.answer_workers.specs.Answers.{HasSchedule, IsBenchOf}
pub use Rattle.unit_program.specs.Answers.{IsResponse, Suffices}
pub use Rattle.answer_workers.specs.Workers.{Came, GoesOn, IsWorkerOf, HasWorked, HaveWorked, HasFinished, HasParts}
pub use Rattle.answer_workers.specs.Workers.{market_at, IsTold, IsEnd, IsAnswerable, IsAnswered, AreGiven, AreAnswered}
pub use Rattle.answer_workers.specs.Workers.{IsHeldFor}
pub use Rattle.answer_workers.specs.declared.worker.Worker.{Worker}
pub use Rattle.answer_workers.specs.declared.worker.Held.{Held}
pub use Rattle.answer_workers.specs.declared.worker.TheConstants.{MOST_HELD}
pub use Rattle.board_store.specs.Board.{Answer, Content, rules_of, Setup}
pub use Rattle.board_store.specs.Calls.{differs_from, after_claim, after_post, claim_answer}
pub use Rattle.board_store.specs.Rounds.{Given, Taken, Closing, Stopped, ClaimReply, Finished, Halted, GivenTask}
pub use Rattle.board_store.specs.Rounds.{NotYet, PostReply, OtherProposal, OtherUnit, OtherContent, Doubled}
pub use Rattle.board_store.specs.Rounds.{OtherHolder, TakenPost, claim_reply, post_reply, post_event, posts}
pub use Rattle.board_store.specs.Rounds.{with_post, is_closed, with_claim, with_answer}
pub use Rattle.board_share.specs.Seats.{SeatValue, view_of, IsSameBoard}
pub use Rattle.board_share.specs.Tells.{Called}
pub use Rattle.board_share.specs.Views.{BoardEvent, View, caller_of, content}
pub use Rattle.board_share.specs.declared.shared.SharedBoard.{SharedBoard}
pub use Rattle.uc_model.specs.Data.{AnyUnit, Thermal, Flat, Bid, Market, NamedThermalUnit, NamedRenewableUnit}
pub use Rattle.uc_model.specs.Data.{NamedBidUnit, PriceLists, units}
pub use Rattle.uc_model.specs.PlainCases.{task_unit}
pub use Rattle.uc_model.specs.PlainUnits.{schedule_of, prices_of}
pub use Rattle.uc_model.specs.Schedules.{IsFeasible}
pub use Rattle.uc_model.specs.TaskRoom.{IsTaskFor}
pub use Rattle.uc_model.specs.declared.cases.Task.{Task}
pub use Rattle.uc_model.specs.declared.units.Answered.{Answered}
pub use Rattle.unit_program.specs.Benches.{IsBenchFor}
pub use Rattle.unit_program.specs.declared.bench.Bench.{Bench}
