-- Plans of schedules that fit prices: there is at most one.
use Rattle.audit_check.proofs.Common.{◌≡◌, List, [], ◌∷◌, ap, ◌∙◌, refl, props, ∥∥₁_elim, ∥∥₁_map, ∥∥₁_prop, All}
use Rattle.audit_check.proofs.Common.{AllZip, AnyUnit, PriceLists, Schedule, OneLeast, Fits}
use Rattle.audit_check.proofs.Common.{head_of, tail_of, all_nil, all_cons}
use mathlib.Core.HLevel.{Σ_prop_path}
use Rattle.report_compare.specs.OneProof.{feasible-prop, zip-prop}

fits-prop : (u : AnyUnit) (π : PriceLists) (s : Schedule) → IsProp (Fits u π s)
fits-prop u π s = hlevel (props, feasible-prop)

abbrev pub Plan : PriceLists → List AnyUnit → List Schedule → Type 0
Plan π us ss = AllZip (λ u s. Fits u π s) us ss

plan-prop : (π : PriceLists) (us : List AnyUnit) (ss : List Schedule) → IsProp (Plan π us ss)
plan-prop π us ss = zip-prop _ (λ u s. fits-prop u π s) us ss

one_plan : OneLeast → (π : PriceLists) (us : List AnyUnit) (ss ts : List Schedule) → Plan π us ss → Plan π us ts →
    ss ≡ ts
one_plan one π [] [] [] h i = refl
one_plan one π [] [] (t ∷ ts) h i = absurd i
one_plan one π [] (s ∷ ss) ts h i = absurd h
one_plan one π (u ∷ us) [] ts h i = absurd h
one_plan one π (u ∷ us) (s ∷ ss) [] h i = absurd i
one_plan one π (u ∷ us) (s ∷ ss) (t ∷ ts) h i =
    ap (λ z. z ∷ ss) (one u π s t h.0 i.0) ∙ ap (λ zs. t ∷ zs) (one_plan one π us ss ts h.1 i.1)

-- so a plan that is known to be there can be had
pub the_plan : {A : Type 0} → OneLeast → (π : PriceLists) (us : List AnyUnit) → ∥ A ∥₁ →
    (A → (ss : List Schedule) × Plan π us ss) → (ss : List Schedule) × Plan π us ss
the_plan one π us there made =
    ∥∥₁_elim there (λ x y. Σ_prop_path (plan-prop π us) (one_plan one π us x.0 y.0 x.1 y.1)) made

pub all_there : {X : Type 0} (P : X → Type 0) (xs : List X) → All (λ x. ∥ P x ∥₁) xs → ∥ All P xs ∥₁
all_there P [] h = ∣ all_nil P ∣₁
all_there P (x ∷ xs) h = ∥∥₁_elim (head_of (λ y. ∥ P y ∥₁) x xs h) ∥∥₁_prop
    (λ here. ∥∥₁_map (all_there P xs (tail_of (λ y. ∥ P y ∥₁) x xs h)) (λ rest. all_cons P x xs here rest))
