-- Entries by last period.
use Rattle.test_units.proofs.Common.{◌≡◌, ℕ, zero, suc, ◌+◌, ◌-◌, ◌<◌, ◌≤◌, ◌≢◌, inl, inr, ℤ, Bool, true, false, List}
use Rattle.test_units.proofs.Common.{length, get_or, set, Option, None, sym, ap, ◌∙◌, subst, arith, get_or-set_same}
use Rattle.test_units.proofs.Common.{get_or-set_other, cases_lt, entry_of, spell_first}

-- one more entry
module _ (xs ys : List (Option ℤ)) (index : ℕ) (o : Option ℤ) (is : ys ≡ set xs index o) where
  pub entry_other : (k : ℕ) → k ≢ index → get_or ys k None ≡ get_or xs k None
  entry_other k ne = ap (λ (zs : List (Option ℤ)). get_or zs k None) is ∙ get_or-set_other xs index k o None ne

  pub entry_same : index < length xs → get_or ys index None ≡ o
  entry_same low = ap (λ (zs : List (Option ℤ)). get_or zs index None) is ∙ get_or-set_same xs index o None low

  pub entries_more : (P : ℕ → Option ℤ → Type 0) (first : ℕ) → index < length xs →
      ((k : ℕ) → first ≤ suc k → k < index → P k (get_or xs k None)) → P index o →
      (k : ℕ) → first ≤ suc k → k < index + 1 → P k (get_or ys k None)
  entries_more P first low before here k from until = elim (cases_lt k index) [
    | inl less ↦ let ne : k ≢ index = omega (arith, less) in
        subst (λ (e : Option ℤ). P k e) (sym (entry_other k ne)) (before k from less)
    | inr most ↦
        let z : index ≡ k = omega (arith, most, until) in
        subst (λ (j : ℕ). P j (get_or ys j None)) z (subst (λ (e : Option ℤ). P index e) (sym (entry_same low)) here)
  ]

-- entries by place are entries by last period
pub entries_by_last : (P : ℕ → Option ℤ → Type 0) (first periods : ℕ) (entries : List (Option ℤ)) → 1 ≤ first →
    ((k : ℕ) → first ≤ suc k → k < periods → P (suc k) (get_or entries k None)) → (last : ℕ) → first ≤ last →
    last ≤ periods → P last (entry_of entries last)
entries_by_last P first periods entries one each zero from until = absurd (omega (arith, one, from))
entries_by_last P first periods entries one each (suc k) from until =
    let z : k ≡ suc k - 1 = omega arith in
    subst (λ (j : ℕ). P (suc k) (get_or entries j None)) z (each k from until)

-- a spell has begun by period suc k
pub first_from : (started : Bool) (first k : ℕ) → first ≤ suc k → spell_first started first ≤ suc k
first_from true first k from = from
first_from false first k from = omega arith

pub entries_before : (first : ℕ) (xs ys : List (Option ℤ)) →
    ((k : ℕ) → suc k < first → get_or ys k None ≡ get_or xs k None) →
    ((k : ℕ) → suc k < first → get_or xs k None ≡ None) →
    (last : ℕ) → 1 ≤ last → last < first → entry_of ys last ≡ None
entries_before first xs ys same none zero one low = absurd (omega (arith, one))
entries_before first xs ys same none (suc k) one low =
    let z : k ≡ suc k - 1 = omega arith in
    subst (λ (j : ℕ). get_or ys j None ≡ None) z (same k low ∙ none k low)

pub entries_past : (periods : ℕ) (xs ys : List (Option ℤ)) →
    ((k : ℕ) → periods ≤ k → get_or ys k None ≡ get_or xs k None) → (last : ℕ) → periods < last →
    entry_of ys last ≡ entry_of xs last
entries_past periods xs ys same zero past = absurd (omega (arith, past))
entries_past periods xs ys same (suc k) past =
    let z : k ≡ suc k - 1 = omega arith in
    subst (λ (j : ℕ). get_or ys j None ≡ get_or xs j None) z (same k (omega (arith, past)))
