use Rattle.unit_table.proofs.Common.{◌≡◌, ℕ, ◌<◌, Some, None, slice_get, RunningSpell, live_at, HaveSameRooms}
use Rattle.unit_table.proofs.running_spell.stop_all_spells_and_forget_their_log.Given as goal

abbrev pub invariant-loop-index : goal.invariant-loop-index
invariant-loop-index l = record {
  off : (f : ℕ) → f < l.index → live_at l.spells f ≡ None;
  none : (f : ℕ) (r : RunningSpell) → f < l.index → slice_get l.spells f ≡ Some r → r.trace.count ≡ 0;
  rooms : HaveSameRooms l.fn.spells l.spells;
}
