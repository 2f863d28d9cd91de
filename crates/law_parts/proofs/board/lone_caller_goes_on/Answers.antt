use Rattle.law_parts.proofs.Calls.{held_is_taken}
use Rattle.law_parts.proofs.OneCaller.{claims_are_given, given_is_taken_of}
use Rattle.law_parts.proofs.board.lone_caller_goes_on.Goals as goal

pub returns : goal.returns
returns c = record { held = held_is_taken; given = claims_are_given; taken = given_is_taken_of }
