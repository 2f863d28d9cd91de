-- The rows and the ends as far as they are within the limits.
use Rattle.unit_program.proofs.Common.{◌≡◌, ℕ, ◌≤◌, ◌⊎◌, inl, inr, Option, Some, None, ℤ, pos, ◌+ℤ◌, ◌≤ℤ◌, List, length}
use Rattle.unit_program.proofs.Common.{refl, IfSome, IfNone, signed, EarningsAreWithin, ThermalUnit}
use Rattle.unit_program.proofs.Common.{PriceLists, Schedule, Thermal, IsThermalUnit, ArePrices}
use Rattle.unit_program.proofs.Common.{IsThermalFeasible, Ended, Entry, CappedRowsAreRows, LimitsAreAboveTheAmount}
use Rattle.unit_program.proofs.Common.{capped, IsFilledWithin, IsEndWithin, EachCostsMore, cost_at, IsOffRun}
use Rattle.unit_program.proofs.Common.{IsLeastEnd}
use Rattle.plain_lists.proofs.ListLaws.{if_some, if_some_more}
use Rattle.unit_program.proofs.ShapeLaws.{table_is_least}

-- ---- the rows

module _ (capped_row : CappedRowsAreRows) (g : ThermalUnit) (π : PriceLists) (most : ℤ) (rows : List (Option Ended))
    (filled : IsFilledWithin g π most rows) where
  abbrev ends : ℕ → Option ℤ
  ends = capped filled.limits (cost_at rows)

  pub row_here : (l : ℕ) (v : ℤ) → cost_at rows l ≡ Some v → v ≤ℤ filled.limits l → ends l ≡ Some v
  row_here l v is low = (capped_row (filled.limits l) (cost_at rows l) v).0 is low

  pub row_real : (l : ℕ) (v : ℤ) → ends l ≡ Some v → v ≤ℤ filled.limits l → cost_at rows l ≡ Some v
  row_real l v is low = elim ((capped_row (filled.limits l) (cost_at rows l) v).1 is) [
    | inl h ↦ h.0
    | inr cap ↦ absurd (omega signed)
  ]

  module _ (above_most : LimitsAreAboveTheAmount) where
    -- an end of the capped rows is one of the rows, or above the amount
    row_or_above : (l : ℕ) (v : ℤ) → l ≤ length π.energy → ends l ≡ Some v →
        (cost_at rows l ≡ Some v) ⊎ ((most +ℤ pos 1) ≤ℤ v)
    row_or_above l v low is =
        let limit = above_most g π most filled.limits filled.right l low in
        elim ((capped_row (filled.limits l) (cost_at rows l) v).1 is) [ inl h ↦ inl h.0 | inr cap ↦ inr (omega signed) ]

    -- no schedule costs at most the amount, where no end does
    pub none_within : ((l : ℕ) (v : ℤ) → cost_at rows l ≡ Some v → IsOffRun g l (length π.energy) →
        (most +ℤ pos 1) ≤ℤ v) → EachCostsMore g π most
    none_within above s right =
        let r = table_is_least g π ends (length π.energy) s right filled.table.complete in
        let low = r.3.2 in
        elim (row_or_above r.0 r.3.0 r.1 r.3.1) [
          | inl there ↦ let high = above r.0 r.3.0 there r.2 in omega signed
          | inr high ↦ omega signed
        ]

    -- the least end is that of the capped rows
    module _ (l : ℕ) (v : ℤ) (low : v ≤ℤ most) (least : IsLeastEnd g (length π.energy) (cost_at rows) l v)
        (earliest : (k : ℕ) → cost_at rows k ≡ Some v → IsOffRun g k (length π.energy) → l ≤ k) where
      pub end_low : v ≤ℤ filled.limits l
      end_low = let limit = above_most g π most filled.limits filled.right l least.off.order in omega signed

      pub end_capped : IsLeastEnd g (length π.energy) ends l v
      end_capped = record {
        ended = row_here l v least.ended end_low;
        off = least.off;
        least = λ k u is off. elim (row_or_above k u off.order is) [
          | inl there ↦ least.least k u there off
          | inr high ↦ omega signed
        ];
      }

      pub end_earliest : (k : ℕ) → ends k ≡ Some v → IsOffRun g k (length π.energy) → l ≤ k
      end_earliest k is off = elim (row_or_above k v off.order is) [
        | inl there ↦ earliest k there off
        | inr high ↦ absurd (omega signed)
      ]

pub if_none_more : {X : Type 0} (P Q : Type 0) → (P → Q) → (o : Option X) → IfNone o P → IfNone o Q
if_none_more P Q more None h = more h
if_none_more P Q more (Some x) h = tt

-- ---- an end that is found

module _ (g : ThermalUnit) (π : PriceLists) (most : ℤ) (rows : List (Option Ended))
    (filled : IsFilledWithin g π most rows) (capped_row : CappedRowsAreRows) (above_most : LimitsAreAboveTheAmount)
    (end r : Option Entry)
    (some : IfSome end (λ e. IsLeastEnd g (length π.energy) (cost_at rows) e.last e.cost))
    (earliest : IfSome end (λ e. (k : ℕ) → cost_at rows k ≡ Some e.cost → IsOffRun g k (length π.energy) → e.last ≤ k))
    (none : IfNone end ((l : ℕ) (v : ℤ) → cost_at rows l ≡ Some v → IsOffRun g l (length π.energy) → ⊥))
    (taken : IfSome r (λ e. (end ≡ Some e) × (e.cost ≤ℤ most)))
    (left : IfNone r ((e : Entry) → end ≡ Some e → (most +ℤ pos 1) ≤ℤ e.cost)) where
  pub found_within : IfSome r (λ e. IsEndWithin g π rows e.last e.cost)
  found_within = if_some_more (λ e. (end ≡ Some e) × (e.cost ≤ℤ most)) (λ e. IsEndWithin g π rows e.last e.cost)
      (λ e h. record {
        most = most;
        filled = filled;
        low = h.1;
        least = if_some (λ e. IsLeastEnd g (length π.energy) (cost_at rows) e.last e.cost) end e h.0 some;
        earliest = if_some (λ e. (k : ℕ) → cost_at rows k ≡ Some e.cost → IsOffRun g k (length π.energy) →
            e.last ≤ k) end e h.0 earliest;
      }) r taken

  pub none_found : IfNone r (EachCostsMore g π most)
  none_found = if_none_more ((e : Entry) → end ≡ Some e → (most +ℤ pos 1) ≤ℤ e.cost) (EachCostsMore g π most)
      (λ left. none_within capped_row g π most rows filled above_most (above end some none left)) r left
    where
      above : (end : Option Entry) → IfSome end (λ e. IsLeastEnd g (length π.energy) (cost_at rows) e.last e.cost) →
          IfNone end ((l : ℕ) (v : ℤ) → cost_at rows l ≡ Some v → IsOffRun g l (length π.energy) → ⊥) →
          ((e : Entry) → end ≡ Some e → (most +ℤ pos 1) ≤ℤ e.cost) →
          (l : ℕ) (v : ℤ) → cost_at rows l ≡ Some v → IsOffRun g l (length π.energy) → (most +ℤ pos 1) ≤ℤ v
      above None some none left l v is off = absurd (none l v is off)
      above (Some e) some none left l v is off =
          (let low = some.least l v is off in let high = left e refl in omega signed)

-- no schedule costs more than an amount that nothing costs
pub none_feasible : (law : EarningsAreWithin) (g : ThermalUnit) (π : PriceLists) (unit : IsThermalUnit g)
    (prices : ArePrices π) (most : ℤ) → pos 3500000000000000000 ≤ℤ most → EachCostsMore g π most →
    (s : Schedule) → IsThermalFeasible g (length π.energy) s → ⊥
none_feasible law g π unit prices most high more s right =
    let within = (law (Thermal g) π s unit prices right).at_least in
    let above = more s right in
    omega signed
