-- Periods that are on, and one before them.
use Rattle.spell_run.proofs.Common.{◌∙◌, ◌≡◌, ℕ, suc, inl, inr, ℤ, false, get_or, subst, arith, IsTrue, cases_lt}
use Rattle.spell_run.proofs.Common.{Schedule, IsOnFromTo, IsWritten}

pub on_more : {k last : ℕ} {p r : ℤ} {d d' : Schedule} → IsWritten k p r d d' → IsOnFromTo (suc (suc k)) last d →
    IsOnFromTo (suc k) last d'
on_more {k = k} {d' = d'} written on j from until = elim (cases_lt k j) [
  | inl after ↦ written.outside.on j (inr (omega arith)) ∙ on j (omega arith) until
  | inr most ↦ let z : k ≡ j = omega arith in subst (λ i. IsTrue (get_or d'.on i false)) z written.on
]

pub on_last : {k last : ℕ} {p r : ℤ} {d d' : Schedule} → suc k ≡ last → IsWritten k p r d d' →
    IsOnFromTo (suc k) last d'
on_last {k = k} is written j from until = let z : k ≡ j = omega arith in rw z at written.on
