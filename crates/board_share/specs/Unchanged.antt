-- Answers of calls that change nothing (this project's profile).
use Rattle.board_core.specs.declared.replies.Claim.{Claim}
use Rattle.board_core.specs.declared.replies.Claim.TheVariants as claim
use Rattle.board_core.specs.declared.replies.Posted.{Posted}
use Rattle.board_core.specs.declared.replies.Posted.TheVariants as posted

-- P holds where the claim gives no task
abbrev pub UnlessGiven : Claim → Type 0 → Type 0
UnlessGiven claim.Finished P = P
UnlessGiven claim.Halted P = P
UnlessGiven claim.Given P = Unit {0}
UnlessGiven claim.NotYet P = P

-- P holds where the post is refused
abbrev pub UnlessTaken : Posted → Type 0 → Type 0
UnlessTaken (posted.Stranger d) P = P
UnlessTaken (posted.Doubled k) P = P
UnlessTaken (posted.Taken closed) P = Unit {0}
