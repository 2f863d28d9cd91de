-- What a value was before something was added to it.
use Rattle.spell_run.proofs.Common.{◌≡◌, ℤ, ◌+ℤ◌, Option, Some, None, refl, MatchOption, option_map, same_some}

-- a term
pub added : (term : ℤ → ℤ) (x : ℤ) {v : ℤ} {o o' : Option ℤ} → o' ≡ option_map (λ v. v +ℤ term x) o → o' ≡ Some v →
    (u : ℤ) × (o ≡ Some u) × (v ≡ u +ℤ term x)
added term x {o = None} {o' = o'} e h = let n : o' ≡ None = e in cc
added term x {o = Some u} {o' = o'} e h = let s : o' ≡ Some (u +ℤ term x) = e in (u, refl, (cc))

-- the value of a curve
pub raised : (curve : ℤ → Option ℤ) (y v : ℤ) (o o' : Option ℤ) →
    MatchOption o (o' ≡ None) (λ u. (k : ℤ) × (curve y ≡ Some k) × (o' ≡ Some (u +ℤ k))) → o' ≡ Some v →
    (u k : ℤ) × (o ≡ Some u) × (curve y ≡ Some k) × (v ≡ u +ℤ k)
raised curve y v None o' m h = let n : o' ≡ None = m in cc
raised curve y v (Some u) o' m h = (u, m.0, refl, m.1, same_some h m.2)
