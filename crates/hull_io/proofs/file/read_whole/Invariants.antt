use Rattle.std.proofs.Common.{◌≡◌, ℕ, ◌-◌, ◌≤◌, List, take, IfSome, vec_len, ◌<◌, length}
use Rattle.hull_io.proofs.file.read_whole.Given as goal

-- what was read is the front of what is told
abbrev pub invariant-reading : goal.invariant-reading
invariant-reading g l = record {
  front : IfSome (g.F.Shelf.told l.fn.shelf l.name) (λ bytes. l.bytes.items ≡ take (vec_len l.bytes) bytes);
  some : 0 < length l.room;
  told : g.F.Shelf.told l.shelf ≡ g.F.Shelf.told l.fn.shelf;
  later : (any : List ℕ) → g.F.Shelf.faults l.fn.shelf any ≤ g.F.Shelf.faults l.shelf any;
}

abbrev pub decreases-reading : goal.decreases-reading
decreases-reading g l = 67108865 - vec_len l.bytes
