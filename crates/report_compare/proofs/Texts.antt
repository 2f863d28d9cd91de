-- The text of a report is that of its lines.
use Rattle.report_compare.proofs.Common.{◌≡◌, ℕ, suc, ℤ, List, [], ◌∷◌, ◌++◌, length, refl, sym, ap, ◌∙◌, append_assoc}
use Rattle.report_compare.proofs.Common.{concat, flat_map, Proposal, UnitLine, Report, head_text, row_text, rows_text}
use Rattle.report_compare.proofs.Common.{chosen_text, thermal_text, flat_text, renewable_text, bid_text, foot_text}
use Rattle.report_compare.proofs.Common.{report_text, head_lines, row_lines, rows_lines, unit_lines, foot_lines}
use Rattle.report_compare.proofs.Common.{report_lines}
use Rattle.uc_model.specs.declared.kinds.Kind.TheVariants as kinds

joined : (a b c d : List ℕ) → a ≡ b → c ≡ d → a ++ c ≡ b ++ d
joined a b c d e f = ap (λ (z : List ℕ). z ++ c) e ∙ ap (λ (z : List ℕ). b ++ z) f

pub concat_append : (a b : List (List ℕ)) → concat (a ++ b) ≡ concat a ++ concat b
concat_append [] b = refl
concat_append (x ∷ a) b = ap (λ (z : List ℕ). x ++ z) (concat_append a b) ∙ sym (append_assoc x (concat a) (concat b))

head_lined : (r : Report) → concat (head_lines r) ≡ head_text r.periods r.units r.budget r.ahead r.cost (length r.rows)
unfolding head_text
head_lined r = simp append_assoc refl

row_lined : (n : ℕ) (r : Proposal) → concat (row_lines n r) ≡ row_text n r
unfolding row_text
row_lined n r = simp append_assoc refl

rows_lined : (n : ℕ) (rs : List Proposal) → concat (rows_lines n rs) ≡ rows_text n rs
rows_lined n [] = refl
rows_lined n (r ∷ rs) =
    concat_append (row_lines n r) (rows_lines (suc n) rs) ∙
    ap (λ (z : List ℕ). z ++ concat (rows_lines (suc n) rs)) (row_lined n r)
    ∙ ap (λ (z : List ℕ). row_text n r ++ z) (rows_lined (suc n) rs)

thermal_lined : (u : UnitLine) → concat (unit_lines kinds.Thermal u) ≡ thermal_text u
unfolding thermal_text
thermal_lined u = simp append_assoc refl

renewable_lined : (u : UnitLine) → concat (unit_lines kinds.Renewable u) ≡ renewable_text u
unfolding flat_text
renewable_lined u = simp append_assoc refl

bid_lined : (u : UnitLine) → concat (unit_lines kinds.Bid u) ≡ bid_text u
unfolding flat_text
bid_lined u = simp append_assoc refl

all_lined : (f : UnitLine → List (List ℕ)) (g : UnitLine → List ℕ) → ((u : UnitLine) → concat (f u) ≡ g u) →
    (us : List UnitLine) → concat (flat_map f us) ≡ flat_map g us
all_lined f g each [] = refl
all_lined f g each (u ∷ us) =
    concat_append (f u) (flat_map f us) ∙ ap (λ (z : List ℕ). z ++ concat (flat_map f us)) (each u)
    ∙ ap (λ (z : List ℕ). g u ++ z) (all_lined f g each us)

foot_lined : (surplus payments gap : ℤ) → concat (foot_lines surplus payments gap) ≡ foot_text surplus payments gap
unfolding foot_text
foot_lined surplus payments gap = simp append_assoc refl

pub report_lined : (r : Report) → concat (report_lines r) ≡ report_text r
unfolding report_text
report_lined r =
    let bids = flat_map (unit_lines kinds.Bid) r.bids in
    let renewable = flat_map (unit_lines kinds.Renewable) r.renewable in
    let thermal = flat_map (unit_lines kinds.Thermal) r.thermal in
    let foot = foot_lines r.surplus r.payments r.gap in
    let d4 = concat_append bids foot ∙ joined _ _ _ _ (all_lined (unit_lines kinds.Bid) bid_text bid_lined r.bids)
    (foot_lined r.surplus r.payments r.gap) in
    let d3 = concat_append renewable (bids ++ foot) ∙
    joined _ _ _ _ (all_lined (unit_lines kinds.Renewable) renewable_text renewable_lined r.renewable) d4 in
    let d2 = concat_append thermal (renewable ++ (bids ++ foot)) ∙
    joined _ _ _ _ (all_lined (unit_lines kinds.Thermal) thermal_text thermal_lined r.thermal) d3 in
    let d1 = concat_append (rows_lines 1 r.rows)
    (chosen_text r.chosen r.value ∷ (thermal ++ (renewable ++ (bids ++ foot)))) ∙
    joined _ _ _ _ (rows_lined 1 r.rows) (ap (λ (z : List ℕ). chosen_text r.chosen r.value ++ z) d2) in
    let d0 = concat_append (head_lines r)
    (rows_lines 1 r.rows ++ (chosen_text r.chosen r.value ∷ (thermal ++ (renewable ++ (bids ++ foot))))) ∙
    joined _ _ _ _ (head_lined r) d1 in
    d0 ∙ simp append_assoc refl
