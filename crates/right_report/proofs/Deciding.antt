-- What is made of parts that are decided is decided.
use Rattle.right_report.proofs.Common.{◌≡◌, ℕ, zero, suc, ◌<◌, inl, inr, ℤ, ◌≤ℤ◌, Bool, true, false, refl, subst, arith}
use Rattle.right_report.proofs.Common.{cases_lt, true≢false, false≢true, ints, by_lt_z, IsTrue, IsFalse}

pub both : {P Q : Type 0} → Dec P → Dec Q → Dec (P × Q)
both (yes p) (yes q) = yes (p, q)
both (yes p) (no n) = no (λ h. n h.1)
both (no n) q = no (λ h. n h.0)

pub implies : {P Q : Type 0} → Dec P → Dec Q → Dec (P → Q)
implies (yes p) (yes q) = yes (λ _. q)
implies (yes p) (no n) = no (λ h. n (h p))
implies (no m) q = yes (λ p. absurd (m p))

-- the same said in another way
pub restated : {P Q : Type 0} → Dec P → (P → Q) → (Q → P) → Dec Q
restated (yes p) there back = yes (there p)
restated (no n) there back = no (λ q. n (back q))

pub true_or_not : (b : Bool) → Dec (IsTrue b)
true_or_not true = yes refl
true_or_not false = no false≢true

pub false_or_not : (b : Bool) → Dec (IsFalse b)
false_or_not true = no true≢false
false_or_not false = yes refl

pub at_most_or_not : (a b : ℤ) → Dec (a ≤ℤ b)
at_most_or_not a b = by_lt_z b a (λ less. no (λ h. omega (arith, ints, less, h))) (λ h. yes h)

-- ---- at all places below one

one_more : (P : ℕ → Type 0) (n : ℕ) → Dec ((k : ℕ) → k < n → P k) → Dec (P n) → Dec ((k : ℕ) → k < suc n → P k)
one_more P n (no fails) last = no (λ h. fails (λ k low. h k (omega (arith, low))))
one_more P n (yes h) (no fails) = no (λ i. fails (i n (omega arith)))
one_more P n (yes h) (yes last) = yes (λ k low. elim (cases_lt k n) [
  | inl less ↦ h k less
  | inr late ↦ let same : n ≡ k = omega (arith, low, late) in subst P same last
])

pub each_below : (P : ℕ → Type 0) → ((k : ℕ) → Dec (P k)) → (n : ℕ) → Dec ((k : ℕ) → k < n → P k)
each_below P decide zero = yes (λ k low. absurd (omega (arith, low)))
each_below P decide (suc n) = one_more P n (each_below P decide n) (decide n)
