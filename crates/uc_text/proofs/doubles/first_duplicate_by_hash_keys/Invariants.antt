use Rattle.uc_text.proofs.Common.{names_said}
use Rattle.uc_text.proofs.Lemmas.{Least}
use Rattle.uc_text.proofs.doubles.first_duplicate_by_hash_keys.Given as goal

abbrev pub invariant-loop-place : goal.invariant-loop-place
invariant-loop-place l = Least (names_said l.names) l.keys l.place l.found
