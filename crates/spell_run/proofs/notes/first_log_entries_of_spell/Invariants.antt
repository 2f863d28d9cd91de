use Rattle.spell_run.proofs.Common.{◌≡◌, ℕ, ◌-◌, ◌<◌, left_from, AreLogged, left_by}
use Rattle.spell_run.proofs.notes.first_log_entries_of_spell.Given as goal

abbrev pub invariant-loop : goal.invariant-loop
invariant-loop l = record {
  there : AreLogged l.log l.last (l.fn.trace.count - l.counter);
  same : (k : ℕ) → k < l.fn.trace.count - l.counter →
      left_from l.log l.last (l.fn.trace.count - l.counter) k ≡ left_by l.log l.fn.trace k;
}
