-- Linear arithmetic over ℤ, and the same with the least and the greatest of two numbers.
use Rattle.std.proofs.Common.{arith}
use Rattle.std.proofs.lemmas.Int.{ints, clamps}

pub ruleset signed = (arith, ints)

pub ruleset bounded = (arith, ints, clamps)
