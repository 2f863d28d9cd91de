-- How a run ends.
use Rattle.hull_engine.proofs.Common.{◌≡◌, ℕ, List, Option, Result, Ok, Err, sym, subst, Gains, FallsShort}
use Rattle.hull_engine.proofs.Common.{PlannedCase, Ends, rest_with, nothing_read}
use Rattle.std.specs.Prelude.{IsErrAnd}
use Rattle.hull_fault.specs.declared.fault.TopFault.{TopFault}
use Rattle.hull_command.specs.declared.ready.Purpose.{Purpose}
use Rattle.hull_command.specs.declared.end.End.{End}

-- what is said of a fault is said of what a `?` hands on
pub handed_on : {X : Type 0} (P : Result X TopFault → Type 0) (r : Result X TopFault) (f : TopFault) →
    IsErrAnd r (λ e. e ≡ f) → P (Err f) → P r
handed_on P (Ok x) f h p = absurd h
handed_on P (Err e) f same p = subst (λ (x : TopFault). P (Err x)) (sym same) p

-- what ends the rest of a command ends that for a purpose that is the same
module _ {S : Type 0} (held : S → Option (List ℕ)) (faults : S → ℕ) (last : Option ℕ) (old new : S) (e : End) where
  pub ends_for : (purpose own : Purpose) → purpose ≡ own → (c : PlannedCase) (budget ahead : ℕ) →
      Ends (rest_with own c budget ahead) nothing_read (Gains held faults old new) (FallsShort held faults last old new)
      e → Ends (rest_with purpose c budget ahead) nothing_read (Gains held faults old new)
      (FallsShort held faults last old new) e
  ends_for purpose own same c budget ahead h =
      subst (λ (x : Purpose). Ends (rest_with x c budget ahead) nothing_read (Gains held faults old new)
      (FallsShort held faults last old new) e) (sym same) h
