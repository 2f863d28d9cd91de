use Rattle.uc_text.proofs.Common.{◌≡◌, ℕ, [], ◌<◌, false, bytes_eq, get_or, names_said}
use Rattle.uc_text.proofs.names.is_equal_to_any_name.Given as goal

abbrev pub invariant-loop-name : goal.invariant-loop-name
invariant-loop-name l = (k : ℕ) → k < l.name-index → bytes_eq l.text (get_or (names_said l.names) k []) ≡ false
