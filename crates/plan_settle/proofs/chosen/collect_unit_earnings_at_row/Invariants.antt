use Rattle.plan_settle.proofs.Common.{◌≡◌, ◌+◌, ◌<◌, ◌≤◌, ℕ, length, kept_answer, int_at}
use Rattle.plan_settle.proofs.chosen.collect_unit_earnings_at_row.Given as goal

abbrev pub invariant-loop-unit : goal.invariant-loop-unit
invariant-loop-unit l = record {
  count : length l.earned.items ≡ l.unit;
  room : l.unit-end ≤ l.unit + l.earned.spare;
  each : (u : ℕ) → u < l.unit → int_at l.earned.items u ≡ (kept_answer l.closed l.row u).earned;
}
