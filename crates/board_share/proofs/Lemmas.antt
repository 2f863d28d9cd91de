-- The lemmas that answers cite, passed on from one place.
pub use Rattle.board_share.proofs.Joins.{joins, tells, has_joined}
pub use Rattle.board_share.proofs.Steps.{draws, passes, looks, took_from, grows, grown_by}
pub use Rattle.board_share.proofs.Unmoved.{post_seen, claim_seen}
pub use Rattle.board_share.proofs.WholeCalls.{call_tells, handed, claim_goes_on, post_goes_on, halt_goes_on}
pub use Rattle.board_share.proofs.WholeCalls.{length-entries, in_hand, lent_setup, seen_before, legal_after}
