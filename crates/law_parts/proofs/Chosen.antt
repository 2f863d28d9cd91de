-- The chosen value of a longer run is no less than that of a shorter one.
use Rattle.law_parts.proofs.Common.{◌≡◌, ℕ, suc, ◌-◌, ◌<◌, Bool, true, false, Option, Some, None, ℤ, pos, ◌≤ℤ◌, List}
use Rattle.law_parts.proofs.Common.{map, length, take, get_or, refl, sym, ap, ◌∙◌, subst, arith, ints, slice_get}
use Rattle.law_parts.proofs.Common.{length-map, get_or-map, get_or-take, length-take, list_all_at, position-Some}
use Rattle.law_parts.proofs.Common.{slice_get_within, get_or_from_slice_get, list_all, option_map, int_le, unwrap_or}
use Rattle.law_parts.proofs.Common.{Proposal, first_greatest, chosen_number, OneIsChosen, LongerRunsBeginSo}
use Rattle.law_parts.proofs.Common.{LargerBudgetsAreNoWorse}

abbrev value_of : Proposal → ℤ
value_of r = r.value

le_from : (a b : ℤ) → int_le a b ≡ true → a ≤ℤ b
le_from a b h = grind (arith, ints)

-- a value that is at least each is at least the one at any place
at_least_each : (values : List ℤ) (v : ℤ) → list_all (λ w. int_le w v) values ≡ true → (k : ℕ) → k < length values →
    get_or values k (pos 0) ≤ℤ v
at_least_each values v all k lt = choose (int_le (get_or values k (pos 0)) v) refl
  where
    choose : (b : Bool) → int_le (get_or values k (pos 0)) v ≡ b → get_or values k (pos 0) ≤ℤ v
    choose true is = le_from (get_or values k (pos 0)) v is
    choose false is = let none = list_all_at (λ w. int_le w v) values k (pos 0) lt is in absurd cc

-- the first of the greatest values is at least the one at any place
greatest_of : (values : List ℤ) (j : ℕ) → first_greatest values ≡ Some j → (k : ℕ) → k < length values →
    get_or values k (pos 0) ≤ℤ get_or values j (pos 0)
greatest_of values j found k lt =
    at_least_each values (get_or values j (pos 0))
    (position-Some (λ v. list_all (λ w. int_le w v) values) values j (pos 0) found).1 k lt

abbrev values_of : List Proposal → List ℤ
values_of rows = map value_of rows

value_at : (rows : List Proposal) (k : ℕ) (row : Proposal) → slice_get rows k ≡ Some row →
    get_or (values_of rows) k (pos 0) ≡ row.value
value_at rows k row at =
    get_or-map value_of rows k row (pos 0) (slice_get_within rows k row at) ∙
    ap value_of (get_or_from_slice_get rows k row row at)

module _ (one_chosen : OneIsChosen) where
  -- the chosen row's value is at least that of each row
  chosen_is_greatest : (rows : List Proposal) (chosen : Proposal) →
      slice_get rows (chosen_number rows - 1) ≡ Some chosen → (k : ℕ) → k < length rows →
      get_or (values_of rows) k (pos 0) ≤ℤ chosen.value
  chosen_is_greatest rows chosen at k lt = by_first (first_greatest (values_of rows)) refl
    where
      number : (o : Option ℕ) → first_greatest (values_of rows) ≡ o →
          chosen_number rows ≡ unwrap_or (option_map (λ n. suc n) o) 0
      number o e = ap (λ (p : Option ℕ). unwrap_or (option_map (λ n. suc n) p) 0) e

      by_first : (o : Option ℕ) → first_greatest (values_of rows) ≡ o →
          get_or (values_of rows) k (pos 0) ≤ℤ chosen.value
      by_first None e =
          let some = one_chosen rows (omega (arith, lt)) in
          let here = some.2 in
          let none : chosen_number rows ≡ 0 = number None e in
          absurd (omega (arith, here, none))
      by_first (Some j) e =
          let is : chosen_number rows ≡ suc j = number (Some j) e in
          let place : chosen_number rows - 1 ≡ j = omega (arith, is) in
          let long = length-map rows value_of in
          subst (λ (v : ℤ). get_or (values_of rows) k (pos 0) ≤ℤ v)
          (value_at rows j chosen (subst (λ (n : ℕ). slice_get rows n ≡ Some chosen) place at))
          (greatest_of (values_of rows) j e k (omega (arith, lt, long)))

  -- a row of a front is no greater than the chosen row of the whole
  front_no_greater : (rows longer : List Proposal) (k : ℕ) (row chosen : Proposal) → take (length rows) longer ≡ rows →
      slice_get rows k ≡ Some row → slice_get longer (chosen_number longer - 1) ≡ Some chosen →
      row.value ≤ℤ chosen.value
  front_no_greater rows longer k row chosen begins at is_chosen =
      let low = slice_get_within rows k row at in
      let same = ap (λ (rs : List Proposal). get_or rs k row) begins in
      let item : get_or longer k row ≡ row = sym (get_or-take (length rows) longer k row low) ∙ same ∙
      get_or_from_slice_get rows k row row at in
      let long = ap length begins in
      let short = length-take (length rows) longer in
      let inside : k < length longer = omega (arith, low, long, short) in
      subst (λ (v : ℤ). v ≤ℤ chosen.value) (get_or-map value_of longer k row (pos 0) inside ∙ ap value_of item)
      (chosen_is_greatest longer chosen is_chosen k inside)

  pub no_worse : LongerRunsBeginSo → LargerBudgetsAreNoWorse
  no_worse begins m plan budget more ahead shorter longer le right further =
      let rows = begins m _ budget more ahead shorter.rows longer.rows le right.run further.run in
      let place = ap (λ (n : ℕ). slice_get longer.rows (n - 1)) (sym further.chosen_is) ∙ further.is_chosen in
      let least = front_no_greater shorter.rows longer.rows (shorter.chosen - 1) right.row further.row rows
      right.is_chosen place in
      let value : shorter.value ≤ℤ longer.value =
      subst (λ (v : ℤ). v ≤ℤ longer.value) (sym right.value_is)
      (subst (λ (v : ℤ). right.row.value ≤ℤ v) (sym further.value_is) least) in
      let cost : longer.cost ≡ shorter.cost = further.cost_is ∙ sym right.cost_is in
      let gap = right.gap_is in
      let further_gap = further.gap_is in
      let fewer : longer.gap ≤ℤ shorter.gap = omega (arith, ints, cost, gap, further_gap, value) in
      record { rows = rows; value = value; gap = fewer }
