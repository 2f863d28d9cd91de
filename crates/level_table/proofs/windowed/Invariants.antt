use Rattle.level_table.proofs.Common.{◌≡◌, ℕ, ◌<◌, length, get_or, ℤ, pos, ◌+ℤ◌, ◌-ℤ◌, IsLeastIn, table}
use Rattle.level_table.proofs.windowed.Given as goal

abbrev pub invariant-loop-k : goal.invariant-loop-k
invariant-loop-k l = record {
  len : length l.out.items ≡ l.k;
  each : (j : ℕ) → j < l.k → (y : ℤ) × IsLeastIn ((l.from +ℤ pos j) -ℤ l.up) ((l.from +ℤ pos j) +ℤ l.down)
      (table l.s.lo l.s.values.items) (get_or l.out.items j (pos 0)) y;
}
