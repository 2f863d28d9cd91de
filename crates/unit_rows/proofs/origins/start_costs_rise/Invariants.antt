use Rattle.unit_rows.proofs.Common.{ℕ, suc, ◌<◌, ◌≤ℤ◌, slice_index_or, Lag}
use Rattle.unit_rows.proofs.origins.start_costs_rise.Given as goal

abbrev pub invariant-loop-index : goal.invariant-loop-index
invariant-loop-index l = (k : ℕ) (d : Lag) → suc k < l.index →
    (slice_index_or l.lags k d).cost ≤ℤ (slice_index_or l.lags (suc k) d).cost
