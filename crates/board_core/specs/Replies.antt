-- The answers of the calls, as the machine gives them (this project's profile).
use Rattle.std.specs.Prelude.{ℕ, Bool, if◌then◌else◌, Option, Some, None}
use Rattle.board_store.specs.Rounds.{ClaimReply, Finished, Halted, GivenTask, NotYet, PostReply}
use Rattle.board_store.specs.Rounds.{OtherProposal, OtherUnit, OtherContent, Doubled, OtherHolder}
use Rattle.board_store.specs.Rounds.{TakenPost}
use Rattle.board_store.specs.TaskDifference.{Difference}
use Rattle.board_core.specs.declared.replies.Claim.{Claim}
use Rattle.board_core.specs.declared.replies.Claim.TheVariants as claim
use Rattle.board_core.specs.declared.replies.Posted.{Posted}
use Rattle.board_core.specs.declared.replies.Posted.TheVariants as posted
use Rattle.board_core.specs.declared.replies.Differs.TheVariants as differs

abbrev pub claim_of : ClaimReply → Claim
claim_of Finished = claim.Finished
claim_of Halted = claim.Halted
claim_of (GivenTask n u) = claim.Given
claim_of NotYet = claim.NotYet

abbrev pub posted_of : PostReply Difference → Posted
posted_of (OtherProposal n opened) = posted.Stranger (differs.Proposal n opened)
posted_of (OtherUnit u units) = posted.Stranger (differs.Unit u units)
posted_of (OtherContent d) = posted.Stranger (differs.Content d.place d.board d.task)
posted_of (Doubled k) = posted.Doubled k
posted_of (OtherHolder c holder) = posted.Stranger (differs.Holder c holder)
posted_of (TakenPost closed) = posted.Taken closed

-- the proposal where it closes
abbrev pub closed_of : Bool → ℕ → Option ℕ
closed_of closes n = if closes then Some n else None
