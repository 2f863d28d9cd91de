-- The texts of rows, one after another.
use Rattle.report_form.proofs.Common.{◌≡◌, ℕ, zero, suc, ◌+◌, ◌<◌, List, [], ◌∷◌, ◌++◌, map, length, take, get_or}
use Rattle.report_form.proofs.Common.{Option, Result, IsErr, refl, sym, ap, ◌∙◌, subst, arith, append_assoc, append-nil}
use Rattle.report_form.proofs.Common.{get_or-map, length-map, Gains, FallsShort, Writes, proposal_of, Proposal}
use Rattle.report_form.proofs.Common.{row_text, rows_text}
use Rattle.uc_model.specs.declared.cases.Row.{Row}
use Rattle.report_form.proofs.GrownLemmas.{gains_then, short_then, short_more, writes_exit}

-- one row more
rows_more : (n : ℕ) (rs : List Proposal) (i : ℕ) (r : Proposal) → i < length rs → r ≡ get_or rs i r →
    rows_text n (take (suc i) rs) ≡ rows_text n (take i rs) ++ row_text (n + i) r
rows_more n [] i r h is = absurd (omega (arith, h))
rows_more n (x ∷ rs) zero r h is =
    let same : n ≡ n + 0 = omega arith in
    append-nil (row_text n x) ∙ ap (λ (k : ℕ). row_text k x) same ∙ ap (row_text (n + 0)) (sym is)
rows_more n (x ∷ rs) (suc i) r h is =
    let same : suc n + i ≡ n + suc i = omega arith in
    ap (λ t. row_text n x ++ t) (rows_more (suc n) rs i r (omega (arith, h)) is ∙
    ap (λ (k : ℕ). rows_text (suc n) (take i rs) ++ row_text k r) same)
    ∙ sym (append_assoc (row_text n x) (rows_text (suc n) (take i rs)) (row_text (n + suc i) r))

-- what comes behind the first rows
rows_rest : (n : ℕ) (rs : List Proposal) (i : ℕ) → (rest : List ℕ) × (rows_text n rs ≡ rows_text n (take i rs) ++ rest)
rows_rest n rs zero = (rows_text n rs, refl)
rows_rest n [] (suc i) = ([], refl)
rows_rest n (x ∷ rs) (suc i) =
    let r = rows_rest (suc n) rs i in
    (r.0, ap (λ t. row_text n x ++ t) r.1 ∙ sym (append_assoc (row_text n x) (rows_text (suc n) (take i rs)) r.0))

proposal_at : (rows : List Row) (i : ℕ) (row : Row) → i < length rows → row ≡ get_or rows i row →
    proposal_of row ≡ get_or (map proposal_of rows) i (proposal_of row)
proposal_at rows i row h is = ap proposal_of is ∙ sym (get_or-map proposal_of rows i row (proposal_of row) h)

module _ {S : Type 0} {held : S → Option (List ℕ)} {faults : S → ℕ} where
  pub gains_row : {old mid new : S} (rows : List Row) (i : ℕ) (row : Row) → i < length rows → row ≡ get_or rows i row
      → Gains held faults mid new (row_text (1 + i) (proposal_of row)) →
      Gains held faults old mid (rows_text 1 (take i (map proposal_of rows)))
      → Gains held faults old new (rows_text 1 (take (i + 1) (map proposal_of rows)))
  gains_row {old = old} {new = new} rows i row h is q p =
      let long = length-map rows proposal_of in
      let next : suc i ≡ i + 1 = omega arith in
      let text = sym (rows_more 1 (map proposal_of rows) i (proposal_of row) (omega (arith, long, h))
      (proposal_at rows i row h is)) in
      subst (λ (k : ℕ). Gains held faults old new (rows_text 1 (take k (map proposal_of rows)))) next
      (subst (Gains held faults old new) text (gains_then _ _ q p))

  pub exit_row : {E : Type 0} {last : Option ℕ} {old mid new : S} (rows : List Row) (i : ℕ) (row : Row)
      (r : Result (Unit {0}) E) → IsErr r → i < length rows → row ≡ get_or rows i row
      → FallsShort held faults last mid new (row_text (1 + i) (proposal_of row)) →
      Gains held faults old mid (rows_text 1 (take i (map proposal_of rows)))
      → Writes held faults last old new r (rows_text 1 (map proposal_of rows))
  exit_row {last = last} {old = old} {new = new} rows i row r e h is q p =
      let long = length-map rows proposal_of in
      let more = rows_more 1 (map proposal_of rows) i (proposal_of row) (omega (arith, long, h))
      (proposal_at rows i row h is) in
      let rest = rows_rest 1 (map proposal_of rows) (suc i) in
      let text = sym (rest.1 ∙ ap (λ t. t ++ rest.0) more) in
      writes_exit (rows_text 1 (map proposal_of rows)) r e
      (subst (FallsShort held faults last old new) text (short_more _ rest.0 (short_then _ _ q p)))
