use Rattle.unit_table.proofs.Common.{◌≡◌, ℕ, ◌≤◌, length, live_at, IsRoster}
use Rattle.unit_table.proofs.Lemmas.{IsKeptTo}
use Rattle.unit_table.proofs.roster.Roster.keep.Given as goal

abbrev pub invariant-loop-index : goal.invariant-loop-index
invariant-loop-index l = record {
  kept : (until : ℕ) → IsRoster (live_at l.spells) until l.fn.self →
      IsKeptTo (live_at l.spells) until l.fn.self l.index l.kept l.self.firsts.items;
  low : l.kept ≤ l.index;
  same_length : length l.self.firsts.items ≡ length l.fn.self.firsts.items;
  count_same : l.self.count ≡ l.fn.self.count;
}
