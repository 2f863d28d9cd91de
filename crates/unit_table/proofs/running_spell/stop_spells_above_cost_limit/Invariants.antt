use Rattle.unit_table.proofs.Common.{◌≡◌, ℕ, ℤ, Option, ThermalUnit, PriceLists, live_at, AreFewer, AreKept}
use Rattle.unit_table.proofs.Common.{AreRunningSpells}
use Rattle.unit_table.proofs.running_spell.stop_spells_above_cost_limit.Given as goal

abbrev pub invariant-loop-index : goal.invariant-loop-index
invariant-loop-index l = record {
  stands : (u : ThermalUnit) (π : PriceLists) (limits : ℕ → ℤ) (ends : ℕ → Option ℤ) (t n : ℕ) → limits t ≡ l.limit →
      AreRunningSpells u π limits ends (live_at l.fn.spells) t n →
      AreRunningSpells u π limits ends (live_at l.spells) t n;
  fewer : AreFewer (live_at l.fn.spells) (live_at l.spells);
  kept : AreKept l.fn.spells l.spells;
}
