use Rattle.unit_table.proofs.Common.{◌≡◌, ℕ, ◌+◌, ◌<◌, ◌≤◌, ℤ, Option, Some, IfSome, slice_get, PriceLists, thermal_of}
use Rattle.unit_table.proofs.Common.{live_at, AreFewer, AreKept, Going, AreRunningSpells}
use Rattle.unit_table.proofs.running_spell.stop_dominated_spells.Given as goal

abbrev pub invariant-loop-back : goal.invariant-loop-back
invariant-loop-back l = record {
  late : IfSome l.late
      (λ f. ((j h : ℕ) → j + l.back < l.roster.count → slice_get l.roster.firsts.items j ≡ Some h →
      h < f) × (f ≤ l.period) × ((r : Going) × (live_at l.spells f ≡ Some r)));
  stands : (π : PriceLists) (limits : ℕ → ℤ) (ends : ℕ → Option ℤ) (n : ℕ) →
      AreRunningSpells (thermal_of l.unit) π limits ends (live_at l.fn.spells) l.period n →
      AreRunningSpells (thermal_of l.unit) π limits ends (live_at l.spells) l.period n;
  fewer : AreFewer (live_at l.fn.spells) (live_at l.spells);
  kept : AreKept l.fn.spells l.spells;
}
