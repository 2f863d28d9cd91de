use Rattle.unit_table.proofs.Common.{◌≡◌, ℕ, ◌<◌, None, live_at, AreKept}
use Rattle.unit_table.proofs.running_spell.stop_all_running_spells.Given as goal

abbrev pub invariant-loop-index : goal.invariant-loop-index
invariant-loop-index l = record {
  off : (f : ℕ) → f < l.index → live_at l.spells f ≡ None;
  kept : AreKept l.fn.spells l.spells;
}
