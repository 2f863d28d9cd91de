use Rattle.uc_text.proofs.Common.{◌≡◌, ◌<◌, ℕ, length, get_or, names_said}
use Rattle.uc_text.specs.Known.{key_at}
use Rattle.uc_text.proofs.doubles.hash_keys_of.Given as goal

abbrev pub invariant-loop-index : goal.invariant-loop-index
invariant-loop-index l = record {
  count : length l.keys.items ≡ l.index;
  each : (i : ℕ) → i < l.index → get_or l.keys.items i 0 ≡ key_at (names_said l.names) i;
}
