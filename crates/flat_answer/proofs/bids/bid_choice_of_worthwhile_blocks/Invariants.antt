use Rattle.flat_answer.proofs.Lemmas.{IsPart}
use Rattle.flat_answer.proofs.bids.bid_choice_of_worthwhile_blocks.Given as goal

abbrev pub invariant-loop-block : goal.invariant-loop-block
invariant-loop-block l = IsPart l.price l.blocks l.block-index l.choice.power l.choice.earned
