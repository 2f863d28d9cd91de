-- Names of which each is above those before it.
use Rattle.uc_text.proofs.Common.{◌≡◌, ℕ, Bool, true, false, true≢false, cond, List, [], ◌∷◌, ◌++◌, ◌⊎◌, inl, inr, refl}
use Rattle.uc_text.proofs.Common.{sym, ap, subst, ◌∙◌, bytes_eq, is_there}
use Rattle.std.specs.Ordering.{nat_cmp, ordering_reverse}
use Rattle.std.specs.declared.cmp.Ordering.TheVariants.{Less}
use Rattle.std.specs.Cmp.Lexicographic.{slice_cmp}
use Rattle.std.proofs.lemmas.Cmp.{nat_list_cmp_total}
use Rattle.uc_text.proofs.Known.{equal_bytes, there_push}

-- none of the names is above this one
abbrev pub AreUpTo : List (List ℕ) → List ℕ → Type 0
AreUpTo ks last = (q : List ℕ) → is_there q ks ≡ true → (slice_cmp nat_cmp q last ≡ Less) ⊎ (q ≡ last)

not_below_itself : (q : List ℕ) → slice_cmp nat_cmp q q ≡ Less → ⊥
not_below_itself q e =
    let turned = nat_list_cmp_total.antisymm q q in
    let other = sym e ∙ turned ∙ ap ordering_reverse e in
    absurd cc

above_all : (ks : List (List ℕ)) (last k : List ℕ) → AreUpTo ks last → slice_cmp nat_cmp last k ≡ Less → (q : List ℕ) →
    is_there q ks ≡ true → slice_cmp nat_cmp q k ≡ Less
above_all ks last k h lt q e =
    elim (h q e) [
      | inl below ↦ nat_list_cmp_total.trans q last k below lt
      | inr same ↦ subst (λ (r : List ℕ). slice_cmp nat_cmp r k ≡ Less) (sym same) lt
    ]

pub above_is_new : (ks : List (List ℕ)) (last k : List ℕ) → AreUpTo ks last → slice_cmp nat_cmp last k ≡ Less →
    is_there k ks ≡ false
above_is_new ks last k h lt = by_test (is_there k ks) refl
  where
    by_test : (b : Bool) → is_there k ks ≡ b → is_there k ks ≡ false
    by_test true e = absurd (not_below_itself k (above_all ks last k h lt k e))
    by_test false e = e

pub up_to_more : (ks : List (List ℕ)) (last k : List ℕ) → AreUpTo ks last → slice_cmp nat_cmp last k ≡ Less →
    AreUpTo (ks ++ k ∷ []) k
up_to_more ks last k h lt q e = by_test (bytes_eq k q) refl
  where
    by_test : (b : Bool) → bytes_eq k q ≡ b → (slice_cmp nat_cmp q k ≡ Less) ⊎ (q ≡ k)
    by_test true same = inr (sym (equal_bytes k q same))
    by_test false other =
        inl (above_all ks last k h lt q (sym (ap (λ (b : Bool). cond b true (is_there q ks)) other) ∙
        sym (there_push q ks k) ∙ e))

pub up_to_none : (last : List ℕ) → AreUpTo [] last
up_to_none last q e = absurd (true≢false (sym e))
