use Rattle.convex_search.proofs.Common.{◌≡◌, length}
use Rattle.convex_search.proofs.short.write_weights_above_threshold.Given as goal

abbrev pub invariant-loop-index : goal.invariant-loop-index
invariant-loop-index l = length l.wanted.items ≡ length l.initial.wanted.items
