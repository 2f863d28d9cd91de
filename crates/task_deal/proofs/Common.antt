-- The names that the proofs of this crate take from its specs and from other crates, passed on from one place.
pub use Rattle.std.proofs.Common.{◌≡◌, ℕ, List, [], ◌∷◌, ◌++◌, ap, ◌∙◌, sym, refl, append_assoc, arith, ◌+◌, ◌<◌, ◌≤◌}
pub use Rattle.std.proofs.Common.{length, set, slice_index_or, Option, Some, None, MatchOption, subst, zero, suc}
pub use Rattle.std.proofs.Common.{length-append, All, ◌-◌, ℤ, pos, negsuc, ◌+ℤ◌, map, ⊎_elim, ◌⊎◌, inl, inr, ◌≢◌, drop}
pub use Rattle.std.proofs.Common.{append-nil, take, vec_len, vec_capacity, rules}
pub use Rattle.std.proofs.Math.Seq.{drop-append_seam, take-length}
pub use Rattle.std.proofs.lemmas.List.Elements.{Contains-append_left, Contains-push, Contains-push_cases}
pub use Rattle.std.proofs.lemmas.List.Elements.{length_all_zip, All-cons, All-head, All-tail, All-push, AllZip-push}
pub use Rattle.std.proofs.lemmas.List.Sorted.{Contains-permutation, IsPermutation-sym, sum_by-IsPermutation}
pub use Rattle.std.proofs.lemmas.List.Sorted.{IsPermutation-refl, IsPermutation-cons, IsPermutation-middle}
pub use Rattle.std.proofs.lemmas.List.Sorted.{IsPermutation-trans}
pub use Rattle.std.specs.List.{AllZip, concat}
pub use Rattle.std.specs.Prelude.{Contains, IsPermutation, sum_by}
pub use Rattle.std.specs.declared.alloc.Global.{Global}
pub use Rattle.crossbeam_deque.specs.Handles.{Pass, view, worker_view, worker_flavor, SameWorker, SamePass, IsPassOf}
pub use Rattle.crossbeam_deque.specs.Handles.{stealer_deque, worker_deque, worker_port}
pub use Rattle.crossbeam_deque.specs.Injected.{InjectorPass, injector_view, IsInjectorPassOf}
pub use Rattle.crossbeam_deque.specs.Tasks.{ordered, Pushes, Takes, Finds, FindsFew, Admits, Forks, Merges, Learns}
pub use Rattle.task_deal.specs.Apart.{backwards, HasPart, source_taken}
pub use Rattle.task_deal.specs.Drains.{RanTaken}
pub use Rattle.task_deal.specs.Jobs.{HasRun, below, added, all_added, IsDealt}
pub use Rattle.task_deal.specs.Ledger.{IsEmptied, run_sum, Ledger}
pub use Rattle.task_deal.specs.Members.{HasWorked}
pub use Rattle.task_deal.specs.Open.{AreOpen}
pub use Rattle.task_deal.specs.Rule.{sum_of, account, Fits, IsSettled, IsHelper, AreHelpers, IsFair}
pub use Rattle.task_deal.specs.Seats.{Gains, Found, FoundIn, Each, Stands, own_taken, own_put, IsPart, AreParts}
pub use Rattle.task_deal.specs.Seats.{HaveTaken, taken_by, IsSeatOf, gained, SameDeque}
pub use Rattle.task_deal.specs.declared.member.Member.{Member}
pub use Rattle.task_deal.specs.declared.rule.Account.{Account}
pub use Rattle.task_deal.specs.declared.rule.Rule.{Rule}
pub use Rattle.task_deal.specs.declared.rule.Shared.{Shared}
pub use Rattle.task_deal.specs.declared.seat.Seat.{Seat}
pub use lib.ListN.{get_elem?}
pub use mathlib.Core.Option.{some, some-injective, some-ne-none}
