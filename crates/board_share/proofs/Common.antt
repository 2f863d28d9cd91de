-- The names that the proofs of this crate take from its specs and from other crates, passed on from one place.
pub use Rattle.std.proofs.Common.{⊎_elim, ◌≡◌, ℕ, zero, suc, ◌<◌, ◌≤◌, [], ◌∷◌, length, subst, sym, ◌∙◌, refl, arith}
pub use Rattle.std.proofs.Common.{lit<, ◌≢◌, List, ◌++◌, set, ap, append-nil, ◌+◌, get_or, append_assoc, length-append}
pub use Rattle.std.proofs.Common.{Bool, true, false, ◌⊎◌, inl, inr, slice_index_or, eq-eqb, ne_eqb, ◌%◌, ◌^◌}
pub use Rattle.std.proofs.Common.{length-set, cond, rules}
pub use Rattle.std.proofs.lemmas.List.{get_or-set_same, set-get_or, get_or-set_other, length-map}
pub use Rattle.std.proofs.lemmas.List.Elements.{All-append, Contains-append_right, Contains-append_cases}
pub use Rattle.std.proofs.lemmas.List.Elements.{Contains-append_left}
pub use Rattle.std.proofs.lemmas.List.Sums.{sum_by-le-sum_by, sum_by-cons, sum_by-append}
pub use Rattle.std.specs.Prelude.{All, Contains, nat_lt, if◌then◌else◌, ◌==◌, sum_by}
pub use Rattle.atomic_table.proofs.Lists.{set_else, set_here, at_longer, at_last, set_again, one_turn, at_set}
pub use Rattle.atomic_table.specs.Table.{opening, State, Final, Seen, Joins, Allows, step, keeps, Splits, Step, Act}
pub use Rattle.atomic_table.specs.Table.{takes, gives, Valid, carried_after, stepped, rest}
pub use Rattle.board_core.specs.Replies.{claim_of, posted_of}
pub use Rattle.board_store.specs.Answers.{answer_of}
pub use Rattle.board_core.specs.Tasks.{LeavesTask}
pub use Rattle.board_store.specs.Board.{Content, Setup, Answer, rules_of, IsLegalHistory}
pub use Rattle.board_store.specs.Calls.{differs_from, claim_answer, after_claim, post_answer, after_post, after_halt}
pub use Rattle.board_store.specs.Rounds.{ClaimReply, Finished, Halted, GivenTask, NotYet, PostReply, OtherProposal}
pub use Rattle.board_store.specs.Rounds.{OtherUnit, OtherContent, Doubled, OtherHolder, TakenPost, claim_reply}
pub use Rattle.board_store.specs.Rounds.{post_reply, post_event, posts, with_claim, with_answer, Given, Taken}
pub use Rattle.board_store.specs.Rounds.{Closing, Stopped, is_halt_of, with_post, is_closed}
pub use Rattle.board_store.specs.declared.entries.Entry.{Entry}
pub use Rattle.board_share.specs.Rule.{Shared, Sees, home, HasTicket, Joined, Past, Callers, Spot, away, InSpot, Homes}
pub use Rattle.board_share.specs.Rule.{Counted, Differ, Tickets, Slot, tickets_of, live_of}
pub use Rattle.board_share.specs.Seats.{SeatValue}
pub use Rattle.board_share.specs.Tells.{OnlyMade, Mine, told, HasJoined, Follows, drew, Took, ticket_of, looked}
pub use Rattle.board_share.specs.Tells.{hand_history, grew, passed, Called, HasTaken}
pub use Rattle.board_share.specs.Unchanged.{UnlessGiven, UnlessTaken}
pub use Rattle.board_share.specs.Views.{BoardEvent, caller_of, idle, turn, View, first_view, live_count, content, Stage}
pub use Rattle.board_share.specs.Views.{spent, joined, at_stage, nobody, glued, longer, without, ticket_count, waits}
pub use Rattle.board_share.specs.Views.{cut_left, cut_right}
pub use Rattle.uc_model.specs.Data.{AnyUnit, PriceLists}
pub use Rattle.uc_model.specs.PlainCases.{task_unit}
pub use Rattle.uc_model.specs.PlainUnits.{prices_of}
pub use lib.ListN.{get_elem?}
pub use mathlib.Core.Option.{some, some-injective, some-ne-none, none}
pub use native.Mathlib.Decide.{ℕ_discrete}
