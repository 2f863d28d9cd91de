use Rattle.price_space.proofs.Common.{◌≡◌, ℕ, ◌<◌, length, market_of, proposal_of, int_at, price_after}
use Rattle.price_space.proofs.step.take_step.Given as goal

abbrev pub invariant-loop-k : goal.invariant-loop-k
invariant-loop-k l = record {
  same_length : length l.into.items ≡ length l.initial.into.items;
  stepped : (j : ℕ) → j < l.k →
      int_at l.into.items j ≡ price_after (market_of l.case) (proposal_of l.row) l.step.gap l.step.scale l.product j;
  spare : l.into.spare ≡ l.initial.into.spare;
}
