-- The line of a fault of a unit: what stands before the unit, the unit, and what stands behind it.
use Rattle.hull_fault.proofs.Common.{◌≡◌, ℕ, List, [], ◌∷◌, ◌++◌, refl, sym, ap, ◌∙◌, append_assoc, codes, unit_told}
use Rattle.hull_fault.specs.Words.{kind_word}
use Rattle.report_form.specs.Numerals.{numeral}
use Rattle.std.specs.List.{concat}
use Rattle.uc_model.specs.declared.kinds.Kind.{Kind}

concat-append : (xs ys : List (List ℕ)) → concat (xs ++ ys) ≡ concat xs ++ concat ys
concat-append [] ys = refl
concat-append (x ∷ xs) ys = ap (λ t. x ++ t) (concat-append xs ys) ∙ sym (append_assoc x (concat xs) (concat ys))

pub unit_joined : (before behind : List (List ℕ)) (kind : Kind) (unit : ℕ) (word : List ℕ) → word ≡ kind_word kind →
    concat (before ++ (codes " kind " ∷ word ∷ codes " unit " ∷ numeral unit ∷ behind))
    ≡ concat before ++ unit_told kind unit ++ concat behind
unfolding unit_told
unit_joined before behind kind unit word is =
    let told = codes " kind " ∷ word ∷ codes " unit " ∷ numeral unit ∷ [] in
    concat-append before (told ++ behind)
    ∙ ap (λ t. concat before ++ t) (concat-append told behind)
    ∙ sym (append_assoc (concat before) (concat told) (concat behind))
    ∙ (λ i. concat before ++ concat (codes " kind " ∷ is i ∷ codes " unit " ∷ numeral unit ∷ []) ++ concat behind)
