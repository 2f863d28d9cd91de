use Rattle.std.proofs.Common.{length, ◌-◌, ◌≡◌, ◌≤◌, take}
use Rattle.hull_io.specs.Edge.{grown}
use Rattle.hull_io.proofs.write_whole.Given as goal

-- the front of the piece was gained
abbrev pub invariant-loop-at : goal.invariant-loop-at
invariant-loop-at g l = record {
  within : l.at ≤ length l.piece;
  gained : g.S.Sink.held l.out ≡ grown (g.S.Sink.held l.fn.out) (take l.at l.piece);
  later : g.S.Sink.faults l.fn.out ≤ g.S.Sink.faults l.out;
}

abbrev pub decreases-loop-at : goal.decreases-loop-at
decreases-loop-at g l = length l.piece - l.at
