-- At most one list of rows is a run: each row follows from the rows before it, and so does the end.
use Rattle.right_report.proofs.Common.{◌≡◌, ℕ, zero, suc, ◌+◌, ◌<◌, ◌≤◌, inl, inr, ℤ, pos, ◌-ℤ◌, List, [], ◌∷◌, length}
use Rattle.right_report.proofs.Common.{take, get_or, refl, sym, ap, ◌∙◌, subst, arith, false≢true, ints, take_all}
use Rattle.right_report.proofs.Common.{take_more_same, AllZip, IsTrue, AnyUnit, PriceLists, Schedule, Market, units}
use Rattle.right_report.proofs.Common.{IsTop, Proposal, no_prices, is_settled, Fits, HasTotals, IsNextRow, AreRightRows}
use Rattle.right_report.proofs.Common.{IsRun, total, worth_of_demand, IsDualValue, OneLeast, OneRun}

-- items of which each left item has one make one list
pub zip_same : {A B : Type 0} (R : A → B → Type 0) → ((a : A) (x y : B) → R a x → R a y → x ≡ y) →
    (us : List A) (xs ys : List B) → AllZip R us xs → AllZip R us ys → xs ≡ ys
zip_same R one [] [] [] h i = refl
zip_same R one [] [] (y ∷ ys) h i = absurd i
zip_same R one [] (x ∷ xs) ys h i = absurd h
zip_same R one (u ∷ us) [] ys h i = absurd h
zip_same R one (u ∷ us) (x ∷ xs) [] h i = absurd i
zip_same R one (u ∷ us) (x ∷ xs) (y ∷ ys) h i =
    ap (λ z. z ∷ xs) (one u x y h.0 i.0) ∙ ap (λ zs. y ∷ zs) (zip_same R one us xs ys h.1 i.1)

-- the best schedules of a unit all earn the same
one_top : (π : PriceLists) (u : AnyUnit) (a b : ℤ) → IsTop u π a → IsTop u π b → a ≡ b
one_top π u a b h i =
    let p = h.best.greatest i.schedule i.best.feasible in
    let q = i.best.greatest h.schedule h.best.feasible in
    let r = h.earns in
    let s = i.earns in
    omega (arith, ints, p, q, r, s)

pub tops_same : (π : PriceLists) (us : List AnyUnit) (xs ys : List ℤ) → AllZip (λ u e. IsTop u π e) us xs →
    AllZip (λ u e. IsTop u π e) us ys → xs ≡ ys
tops_same π = zip_same (λ u e. IsTop u π e) (one_top π)

dual_same : (m : Market) (π : PriceLists) (a b : ℤ) → IsDualValue m π a → IsDualValue m π b → a ≡ b
dual_same m π a b h i =
    h.is ∙ ap (λ (es : List ℤ). worth_of_demand m π -ℤ total es) (tops_same π (units m) h.tops i.tops h.best i.best) ∙
    sym i.is

module _ (one_least : OneLeast) where
  -- ---- a row follows from the rows before it

  row_same : (m : Market) (cost : ℤ) (ahead : ℕ) (before : List Proposal) (r s : Proposal) →
      IsNextRow Fits m cost ahead before r → IsNextRow Fits m cost ahead before s → r ≡ s
  row_same m cost ahead before r s h i =
      let prices : r.prices ≡ s.prices = h.prices ∙ sym i.prices in
      let dual = subst (λ (π : PriceLists). IsDualValue m π r.value) prices h.value in
      let value = dual_same m s.prices r.value s.value dual i.value in
      let answers = subst (λ (π : PriceLists). AllZip (λ u t. Fits u π t) (units m) h.schedules) prices h.answers in
      let schedules = zip_same (λ u t. Fits u s.prices t) (λ u. one_least u s.prices) (units m) h.schedules i.schedules
      answers i.answers in
      let totals = subst (λ (ss : List Schedule). HasTotals m ss r) schedules h.totals in
      let supply : r.supply ≡ s.supply = totals.supply ∙ sym i.totals.supply in
      let reserve : r.reserve ≡ s.reserve = totals.reserve ∙ sym i.totals.reserve in
      λ j. record { prices = prices j; value = value j; supply = supply j; reserve = reserve j }

  abbrev no_row : Proposal
  no_row = record { prices = no_prices; value = pos 0; supply = []; reserve = [] }

  module _ (m : Market) (cost : ℤ) (ahead : ℕ) (xs ys : List Proposal) (h : AreRightRows Fits m cost ahead xs)
      (i : AreRightRows Fits m cost ahead ys) where
    item_same : (k : ℕ) → k < length xs → k < length ys → take k xs ≡ take k ys →
        get_or xs k no_row ≡ get_or ys k no_row
    item_same k a b before =
        let first = subst (λ (rs : List Proposal). IsNextRow Fits m cost ahead rs (get_or xs k no_row)) before
        (h.each k no_row a) in
        row_same m cost ahead (take k ys) (get_or xs k no_row) (get_or ys k no_row) first (i.each k no_row b)

    -- both agree as far as both go
    front_same : (n : ℕ) → n ≤ length xs → n ≤ length ys → take n xs ≡ take n ys
    front_same zero a b = refl
    front_same (suc n) a b =
        let before = front_same n (omega (arith, a)) (omega (arith, b)) in
        let one = item_same n (omega (arith, a)) (omega (arith, b)) before in
        let next : n + 1 ≡ suc n = omega arith in
        subst (λ (k : ℕ). take k xs ≡ take k ys) next
        (take_more_same xs ys n no_row (omega (arith, a)) (omega (arith, b)) before one)

  -- ---- neither ends before the other

  not_shorter : (m : Market) (cost : ℤ) (budget ahead : ℕ) (xs ys : List Proposal) → IsRun Fits m cost budget ahead xs →
      IsRun Fits m cost budget ahead ys → length xs < length ys → ⊥
  not_shorter m cost budget ahead xs ys h i less =
      elim h.whole [
        | inl full ↦ let within = i.within in omega (arith, full, within, less)
        | inr stop ↦
            let k = stop.0 in
            let near = stop.1 in
            let inside = stop.2 in
            let there : k < length ys = omega (arith, inside, less) in
            let before = front_same m cost ahead xs ys h.right i.right k (omega (arith, inside))
            (omega (arith, there)) in
            let same = item_same m cost ahead xs ys h.right i.right k inside there before in
            let settled = subst (λ (r : Proposal). IsTrue (is_settled m cost r)) same (stop.3 no_row) in
            let open_ = i.open_so_far k no_row (omega (arith, near, less)) in
            false≢true (sym open_ ∙ settled)
      ]

  pub one_run : OneRun
  one_run m cost budget ahead xs ys h i =
      let a = not_shorter m cost budget ahead xs ys h i in
      let b = not_shorter m cost budget ahead ys xs i h in
      let long : length xs ≡ length ys = omega (arith, a, b) in
      sym (take_all (length xs) xs (omega arith))
      ∙ front_same m cost ahead xs ys h.right i.right (length xs) (omega arith) (omega (arith, long))
      ∙ take_all (length xs) ys (omega (arith, long))
