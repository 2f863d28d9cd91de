-- The status of a run whose text was written.
use Rattle.hull_engine.proofs.Common.{◌≡◌, ℕ, inl, inr, ap, ◌∙◌, Result, Ok, Err, OnOk, OnErr, HasStatus}
use Rattle.hull_command.specs.Outcome.{status_at}
use Rattle.hull_command.specs.declared.end.End.{End}
use Rattle.hull_command.specs.declared.end.End.TheVariants.{Done, Cut}

pub status_written : {E : Type 0} (written : Result (Unit {0}) E) (e : End) (n : ℕ) (gained short : Type 0) →
    OnOk written gained → OnErr written short → OnOk written (e ≡ Done) → OnErr written (e ≡ Cut) → n ≡ status_at e
    → HasStatus n gained short
status_written (Ok u) e n gained short whole cut done fell is = inl (is ∙ ap status_at done, whole)
status_written (Err f) e n gained short whole cut done fell is = inr (is ∙ ap status_at fell, cut)
