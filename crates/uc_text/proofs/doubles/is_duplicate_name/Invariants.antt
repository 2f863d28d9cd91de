use Rattle.uc_text.proofs.Common.{◌≢◌, ◌<◌, ◌≤◌, ℕ, [], length, get_or, names_said}
use Rattle.std.specs.Prelude.{◌%◌}
use Rattle.uc_text.proofs.doubles.is_duplicate_name.Given as goal

abbrev pub invariant-back : goal.invariant-back
invariant-back l = record {
  within : l.back ≤ length l.keys;
  alone : (p : ℕ) → l.back ≤ p → p < length l.keys → get_or l.keys p 0 % 16777216 < l.key % 16777216
      → get_or (names_said l.names) (get_or l.keys p 0 % 16777216) [] ≢ get_or (names_said l.names) (l.key % 16777216)
      [];
}

abbrev pub decreases-back : goal.decreases-back
decreases-back l = l.back
