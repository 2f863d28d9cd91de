use Rattle.flat_answer.proofs.Common.{length, renewable_of, prices_of, schedule_of}
use Rattle.flat_answer.proofs.Lemmas.{flat_can, flat_earns, IsAnswered}
use Rattle.flat_answer.proofs.renewables.best_flat.Given as goal

abbrev pub invariant-loop-k : goal.invariant-loop-k
invariant-loop-k l = IsAnswered (length l.prices.energy.items) (flat_can (renewable_of l.flat))
    (flat_earns (prices_of l.prices)) l.k (schedule_of l.into.response) l.into.earned
