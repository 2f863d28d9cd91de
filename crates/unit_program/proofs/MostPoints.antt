-- The most cost points of the units of a case.
use Rattle.unit_program.proofs.Common.{◌≡◌, ℕ, suc, ◌+◌, ◌<◌, ◌≤◌, ◌⊎◌, inl, inr, cond, Some, List, [], ◌∷◌, map}
use Rattle.unit_program.proofs.Common.{length, refl, sym, ap, ◌∙◌, subst, arith, Less, Equal, Greater, All, slice_get}
use Rattle.unit_program.proofs.Common.{slice_get_within, NamedThermalUnit, named_thermal_of, NamedUnit, All-nil}
use Rattle.unit_program.proofs.Common.{All-cons}
use Rattle.std.specs.Cmp.{nat_cmp_is}
use Rattle.std.specs.Ordering.{nat_cmp, ord_max, is_lt}
use Rattle.std.specs.declared.cmp.Ordering.{Ordering}
use Rattle.std.proofs.lemmas.Bool.{cases_lt, cases_order}

picked : (a b m : ℕ) → m ≡ ord_max nat_cmp a b → (a ≡ b) ⊎ ((a < b) ⊎ (b < a)) → (a ≤ m) × (b ≤ m) × ((m ≡ a) ⊎ (m ≡ b))
picked a b m is (inl same) =
    let e : m ≡ b = is ∙ ap (λ (o : Ordering). cond (is_lt o) a b) (sym (nat_cmp_is b a Equal (sym same))) in
    (omega (arith, e, same), omega (arith, e), inr e)
picked a b m is (inr (inl up)) =
    let e : m ≡ b = is ∙ ap (λ (o : Ordering). cond (is_lt o) a b) (sym (nat_cmp_is b a Greater up)) in
    (omega (arith, e, up), omega (arith, e), inr e)
picked a b m is (inr (inr down)) =
    let e : m ≡ a = is ∙ ap (λ (o : Ordering). cond (is_lt o) a b) (sym (nat_cmp_is b a Less down)) in
    (omega (arith, e), omega (arith, e, down), inl e)

-- the greater of two numbers is at least each, and one of them
pub greater : (a b m : ℕ) → m ≡ ord_max nat_cmp a b → (a ≤ m) × (b ≤ m) × ((m ≡ a) ⊎ (m ≡ b))
greater a b m is = picked a b m is (cases_order a b)

pub greater_within : (a b m top : ℕ) → m ≡ ord_max nat_cmp a b → a ≤ top → b ≤ top → m ≤ top
greater_within a b m top is low high =
    elim (greater a b m is).2 [
      | inl e ↦ omega (arith, e, low)
      | inr e ↦ omega (arith, e, high)
    ]

abbrev pub HaveFew : ℕ → ℕ → List NamedUnit → Type 0
HaveFew k most us = (i : ℕ) (x : NamedUnit) → i < k → slice_get us i ≡ Some x → length x.unit.points.items ≤ most

some_same : (u x : NamedUnit) → Some u ≡ Some x → u ≡ x
some_same u x h = cc

pub few_more : (us : List NamedUnit) (k most more : ℕ) (u : NamedUnit) → slice_get us k ≡ Some u → most ≤ more →
    length u.unit.points.items ≤ more → HaveFew k most us → HaveFew (k + 1) more us
few_more us k most more u at rise fits have i x below there =
    elim (cases_lt i k) [
      | inl before ↦ let old = have i x before there in omega (arith, old, rise)
      | inr after ↦
          let e : i ≡ k = omega (arith, below, after) in
          let same = some_same u x (sym at ∙ ap (slice_get us) (sym e) ∙ there) in
          subst (λ (y : NamedUnit). length y.unit.points.items ≤ more) same fits
    ]

few_named : (us : List NamedUnit) (most : ℕ) →
    ((i : ℕ) (x : NamedUnit) → slice_get us i ≡ Some x → length x.unit.points.items ≤ most)
    → All (λ (n : NamedThermalUnit). length n.unit.points ≤ most) (map named_thermal_of us)
few_named [] most have = All-nil (λ (n : NamedThermalUnit). length n.unit.points ≤ most)
few_named (u ∷ us) most have =
    All-cons (λ (n : NamedThermalUnit). length n.unit.points ≤ most) (named_thermal_of u) (map named_thermal_of us)
    (have 0 u refl) (few_named us most (λ i x there. have (suc i) x there))

pub all_few : (us : List NamedUnit) (k most : ℕ) → length us ≤ k → HaveFew k most us →
    All (λ (n : NamedThermalUnit). length n.unit.points ≤ most) (map named_thermal_of us)
all_few us k most past have =
    few_named us most (λ i x there. let inside = slice_get_within us i x there in
    have i x (omega (arith, inside, past)) there)
