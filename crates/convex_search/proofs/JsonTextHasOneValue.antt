-- Prices have one dual value.
use Rattle.convex_search.proofs.Common.{◌≡◌, ℤ, ◌-ℤ◌, List, [], ◌∷◌, refl, sym, ap, ◌∙◌, arith}
use Rattle.convex_search.proofs.Common.{ints, AllZip, total, AnyUnit}
use Rattle.convex_search.proofs.Common.{PriceLists, Market, units, IsTop}
use Rattle.uc_model.specs.Systems.{worth_of_demand, IsDualValue}

one_top : (π : PriceLists) (u : AnyUnit) (a b : ℤ) → IsTop u π a → IsTop u π b → a ≡ b
one_top π u a b h i =
    let p = h.best.greatest i.schedule i.best.feasible in
    let q = i.best.greatest h.schedule h.best.feasible in
    let r = h.earns in
    let s = i.earns in
    omega (arith, ints, p, q, r, s)

tops_same : (π : PriceLists) (us : List AnyUnit) (xs ys : List ℤ) → AllZip (λ u e. IsTop u π e) us xs →
    AllZip (λ u e. IsTop u π e) us ys → xs ≡ ys
tops_same π [] [] [] h i = refl
tops_same π [] [] (y ∷ ys) h i = absurd i
tops_same π [] (x ∷ xs) ys h i = absurd h
tops_same π (u ∷ us) [] ys h i = absurd h
tops_same π (u ∷ us) (x ∷ xs) [] h i = absurd i
tops_same π (u ∷ us) (x ∷ xs) (y ∷ ys) h i =
    ap (λ z. z ∷ xs) (one_top π u x y h.0 i.0) ∙ ap (λ zs. y ∷ zs) (tops_same π us xs ys h.1 i.1)

pub one_value : (m : Market) (π : PriceLists) (a b : ℤ) → IsDualValue m π a → IsDualValue m π b → a ≡ b
one_value m π a b h i = h.is ∙ ap (λ (es : List ℤ). worth_of_demand m π -ℤ total es)
    (tops_same π (units m) h.tops i.tops h.best i.best) ∙ sym i.is
