-- All lines of two reports, part by part.
use Rattle.report_compare.proofs.Common.{◌≡◌, ℕ, ℤ, Result, Ok, Err, List, [], ◌∷◌, length, subst, Market, Report}
use Rattle.report_compare.proofs.Common.{chosen_text, Compares, right_head, head_lines, rows_lines, foot_lines}
use Rattle.report_compare.proofs.Common.{whole_lines, WrongLine}
use Rattle.report_compare.proofs.Comparing.{first_part, second_part, third_part, fourth_part, all_parts}

module _ (r q : Report) (us vs : List (List ℕ)) where
  pub whole_first : (wrong : WrongLine) → Compares 1 (Err wrong) (head_lines r) (head_lines q) →
      Compares 1 (Err wrong) (whole_lines r us) (whole_lines q vs)
  unfolding whole_lines
  whole_first wrong a = first_part (head_lines r) (head_lines q) (rows_lines 1 r.rows) (rows_lines 1 q.rows)
      (chosen_text r.chosen r.value ∷ []) (chosen_text q.chosen q.value ∷ []) us vs
      (foot_lines r.surplus r.payments r.gap) (foot_lines q.surplus q.payments q.gap) wrong a

  pub whole_second : (i : ℕ) (wrong : WrongLine) → Compares 1 (Ok i) (head_lines r) (head_lines q) →
      Compares i (Err wrong) (rows_lines 1 r.rows) (rows_lines 1 q.rows) →
      Compares 1 (Err wrong) (whole_lines r us) (whole_lines q vs)
  unfolding whole_lines
  whole_second i wrong a b = second_part (head_lines r) (head_lines q) (rows_lines 1 r.rows) (rows_lines 1 q.rows)
      (chosen_text r.chosen r.value ∷ []) (chosen_text q.chosen q.value ∷ []) us vs
      (foot_lines r.surplus r.payments r.gap) (foot_lines q.surplus q.payments q.gap) i wrong a b

  pub whole_third : (i j : ℕ) (wrong : WrongLine) → Compares 1 (Ok i) (head_lines r) (head_lines q) →
      Compares i (Ok j) (rows_lines 1 r.rows) (rows_lines 1 q.rows)
      → Compares j (Err wrong) (chosen_text r.chosen r.value ∷ []) (chosen_text q.chosen q.value ∷ []) →
      Compares 1 (Err wrong) (whole_lines r us) (whole_lines q vs)
  unfolding whole_lines
  whole_third i j wrong a b x = third_part (head_lines r) (head_lines q) (rows_lines 1 r.rows) (rows_lines 1 q.rows)
      (chosen_text r.chosen r.value ∷ []) (chosen_text q.chosen q.value ∷ []) us vs
      (foot_lines r.surplus r.payments r.gap) (foot_lines q.surplus q.payments q.gap) i j wrong a b x

  pub whole_fourth : (i j n : ℕ) (wrong : WrongLine) → Compares 1 (Ok i) (head_lines r) (head_lines q) →
      Compares i (Ok j) (rows_lines 1 r.rows) (rows_lines 1 q.rows)
      → Compares j (Ok n) (chosen_text r.chosen r.value ∷ []) (chosen_text q.chosen q.value ∷ []) →
      Compares n (Err wrong) us vs → Compares 1 (Err wrong) (whole_lines r us) (whole_lines q vs)
  unfolding whole_lines
  whole_fourth i j n wrong a b x y = fourth_part (head_lines r) (head_lines q) (rows_lines 1 r.rows)
      (rows_lines 1 q.rows) (chosen_text r.chosen r.value ∷ []) (chosen_text q.chosen q.value ∷ []) us vs
      (foot_lines r.surplus r.payments r.gap) (foot_lines q.surplus q.payments q.gap) i j n wrong a b x y

  pub whole_compared : (i j n m : ℕ) (result : Result ℕ WrongLine) → Compares 1 (Ok i) (head_lines r) (head_lines q) →
      Compares i (Ok j) (rows_lines 1 r.rows) (rows_lines 1 q.rows)
      → Compares j (Ok n) (chosen_text r.chosen r.value ∷ []) (chosen_text q.chosen q.value ∷ []) →
      Compares n (Ok m) us vs
      → Compares m result (foot_lines r.surplus r.payments r.gap) (foot_lines q.surplus q.payments q.gap) →
      Compares 1 result (whole_lines r us) (whole_lines q vs)
  unfolding whole_lines
  whole_compared i j n m result a b x y z = all_parts (head_lines r) (head_lines q) (rows_lines 1 r.rows)
      (rows_lines 1 q.rows) (chosen_text r.chosen r.value ∷ []) (chosen_text q.chosen q.value ∷ []) us vs
      (foot_lines r.surplus r.payments r.gap) (foot_lines q.surplus q.payments q.gap) i j n m result a b x y z

-- the first lines of the right report for a report's own budget and number ahead
pub head_given : (m : Market) (cost : ℤ) (count : ℕ) (r q : Report) (result : Result ℕ WrongLine) →
    count ≡ length q.rows
    → Compares 1 result (head_lines r) (right_head m cost count r) →
    Compares 1 result (head_lines r) (right_head m cost (length q.rows) r)
head_given m cost count r q result e h = subst (λ (n : ℕ). Compares 1 result (head_lines r) (right_head m cost n r)) e h
