-- The table before the first period.
use Rattle.unit_rows.proofs.Common.{◌≡◌, ℕ, zero, suc, ◌<◌, ◌≤◌, Option, Some, None, ℤ, pos, List, length, refl}
use Rattle.unit_rows.proofs.Common.{ap, ◌∙◌, get_or-set_same, get_or-set_other, arith, IsTrue, slice_set, ints}
use Rattle.unit_rows.proofs.Common.{ThermalUnit, Ended, row_at, cost_at, AreWithin, IsFirstRow, StopsAtOnce}
use Rattle.unit_rows.proofs.RowLaws.{cost_from}

-- row 0 written where there was none
pub begun : (g : ThermalUnit) (cleared rows : List (Option Ended)) (o : Option Ended) → rows ≡ slice_set cleared 0 o →
    0 < length cleared → ((l : ℕ) → row_at cleared l ≡ None) → IsFirstRow g o
    → IsFirstRow g (row_at rows 0) × ((l : ℕ) → 1 ≤ l → row_at rows l ≡ None)
begun g cleared rows o is room none first = (
  rw (ap (λ (xs : List (Option Ended)). row_at xs 0) is ∙ get_or-set_same cleared 0 o None room) first,
  λ l one. ap (λ (xs : List (Option Ended)). row_at xs l) is ∙
      get_or-set_other cleared 0 l o None (λ z. omega arith) ∙ none l,
)

module _ (g : ThermalUnit) (rows : List (Option Ended)) (first : IsFirstRow g (row_at rows 0)) (rest : (l : ℕ) → 1 ≤ l →
    row_at rows l ≡ None) where
  row_of : (e : Ended) → row_at rows 0 ≡ Some e → (e ≡ record { cost = pos 0; first = 0; before = 0 }) × (IsTrue g.on0 →
      StopsAtOnce g × (g.min_up ≤ g.up0))
  row_of e is = rw is at first

  -- each cost is that of row 0, which is 0
  only_first : (l : ℕ) (v : ℤ) → cost_at rows l ≡ Some v →
      (l ≡ 0) × (v ≡ pos 0) × (row_at rows 0 ≡ Some (record { cost = pos 0; first = 0; before = 0 })) × (IsTrue g.on0 →
      StopsAtOnce g × (g.min_up ≤ g.up0))
  only_first zero v is =
      let r = cost_from rows 0 v is in
      let h = row_of r.0 r.1 in
      let cost = ap (λ (e : Ended). e.cost) h.0 in
      (refl, cc, cc, h.1)
  only_first (suc k) v is =
      let r = cost_from rows (suc k) v is in
      let none = rest (suc k) (omega arith) in
      let row = r.1 in
      cc

  pub within_first : AreWithin rows
  within_first = λ l v is.
      (let h = only_first l v is in record
      { at_least = omega (arith, ints); at_most = omega (arith, ints) })
