-- The names that the proofs of this crate take from its specs and from other crates, passed on from one place.
pub use Rattle.std.proofs.Common.{◌≡◌, ◌<◌, true, [], length, refl, arith, ◌≢◌, ℕ, ◌+◌, Bool, false, ◌||◌, inl, inr}
pub use Rattle.std.proofs.Common.{⊎_elim, Some, List, ◌∷◌, ◌++◌, take, drop, subst, sym, ap, ◌∙◌, append_assoc}
pub use Rattle.std.proofs.Common.{append-nil, length-append, suc, ◌*◌, ◌≤◌, map, zero, ◌⊎◌, slice_index_or, eq-eqb}
pub use Rattle.std.proofs.Common.{ne_eqb, vec_len, rules}
pub use Rattle.std.proofs.lemmas.Int.{to_z-of_z}
pub use Rattle.std.proofs.lemmas.List.{length-replicate}
pub use Rattle.std.proofs.lemmas.List.Elements.{All-nil, All-cons, All-head, All-tail, All-append, All-weaker, All-pop}
pub use Rattle.std.proofs.lemmas.List.Elements.{All-push, Contains-push, Contains-push_cases, Contains-append_left}
pub use Rattle.std.proofs.lemmas.Slice.Zip.{AllZip-long}
pub use Rattle.std.specs.Int.{w64, w128}
pub use Rattle.std.specs.List.{All, AllZip, Contains, list_any}
pub use Rattle.std.specs.Prelude.{◌==◌, if◌then◌else◌, vec_capacity}
pub use Rattle.answer_workers.specs.Answers.{IsBenchOf}
pub use Rattle.answer_workers.specs.Workers.{IsWorkerOf, HasParts, Came, HasWorked, HaveWorked, HaveEnded, HasSeenHalt}
pub use Rattle.answer_workers.specs.Workers.{HasFinished}
pub use Rattle.answer_workers.specs.declared.worker.Worker.{Worker}
pub use Rattle.board_core.specs.Boards.{empty_board}
pub use Rattle.board_core.specs.Setups.{IsSetup, setup_of}
pub use Rattle.unit_program.specs.Answers.{Suffices}
pub use Rattle.board_store.specs.Board.{Content, IsLegalHistory, Setup}
pub use Rattle.board_store.specs.Calls.{has_finished}
pub use Rattle.board_store.specs.Laws.{FinishedStays}
pub use Rattle.board_run.specs.Crews.{StartsWith, named_by, IsNew, IsCrew, IsHired, IsCalmWorker, IsCalm, SomeEnd}
pub use Rattle.board_run.specs.Crews.{AreOut}
pub use Rattle.plan_settle.specs.Ended.{IsEnded}
pub use Rattle.board_share.specs.Seats.{SeatValue, view_of, IsSeatOf, IsSameBoard, IsOwner}
pub use Rattle.board_share.specs.Views.{BoardEvent, View, caller_of, content, cut_left, cut_right, first_view, without}
pub use Rattle.unit_program.specs.Tops.{IsBenchOver}
pub use Rattle.uc_model.specs.Data.{AnyUnit, Thermal, Flat, Bid, Market, NamedThermalUnit, NamedRenewableUnit}
pub use Rattle.uc_model.specs.Data.{NamedBidUnit}
pub use Rattle.uc_model.specs.PlainCases.{market_of}
pub use Rattle.uc_model.specs.PlainUnits.{schedule_of}
pub use Rattle.uc_model.specs.Runs.{Fits}
pub use Rattle.uc_model.specs.Systems.{IsFeasiblePlan}
