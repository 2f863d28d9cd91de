use Rattle.test_tiny.proofs.Common.{ℕ, ◌<◌, ◌≤◌, false, IsFalse, slice_index_or}
use Rattle.test_tiny.proofs.commitment.stays_off.Given as goal

abbrev pub invariant-loop-later : goal.invariant-loop-later
invariant-loop-later l = (j : ℕ) → l.index ≤ j → j < l.later → IsFalse (slice_index_or l.response.on.items j false)
