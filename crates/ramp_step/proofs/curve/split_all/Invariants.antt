use Rattle.ramp_step.proofs.Common.{◌≡◌, ℕ, ◌+◌, ◌-◌, ◌<◌, ◌≤◌, length, ◌<ℤ◌, power, IsLimited, block_end, IsRefined}
use Rattle.ramp_step.proofs.Common.{spaced}
use Rattle.ramp_step.proofs.curve.split_all.Given as goal

abbrev pub invariant-loop-block : goal.invariant-loop-block
invariant-loop-block l = record {
  refined : IsRefined l.blocks l.from l.block-index l.fn.knots l.used (spaced l.knots l.front l.room)
      (l.total - l.room);
  limits : IsLimited (spaced l.knots l.front l.room) (l.total - l.room);
  order : l.front + l.room ≤ l.total;
  cells : length l.blocks ≤ l.room + l.block-index;
  end : l.end ≡ block_end l.blocks l.from l.block-index;
  below : (k : ℕ) → k < l.front → power (spaced l.knots l.front l.room) k <ℤ l.end;
}
