use Rattle.test_tiny.proofs.Common.{ℕ, ◌<◌, ◌≤◌, false, IsTrue, slice_index_or}
use Rattle.test_tiny.proofs.commitment.stays_on.Given as goal

abbrev pub invariant-loop-later : goal.invariant-loop-later
invariant-loop-later l = (j : ℕ) → l.index ≤ j → j < l.later → IsTrue (slice_index_or l.response.on.items j false)
