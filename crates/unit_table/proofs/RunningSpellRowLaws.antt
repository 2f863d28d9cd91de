-- A row of the table, running spell by running spell.
use Rattle.unit_table.proofs.Common.{◌≡◌, ℕ, suc, ◌<◌, ◌≤◌, ◌⊎◌, inl, inr, Option, Some, None, ℤ, ◌+ℤ◌, ◌≤ℤ◌, List}
use Rattle.unit_table.proofs.Common.{length, refl, sym, ap, ◌∙◌, subst, arith, IfSome, IfNone, ints, cases_lt}
use Rattle.unit_table.proofs.Common.{ThermalUnit, PriceLists, Schedule, IsDispatch, IsLeastSpell, IsSpellAnswer}
use Rattle.unit_table.proofs.Common.{spell_cost, Ended, row_at, cost_at, first_at, before_at, IsPut, IsSpell, on_time}
use Rattle.unit_table.proofs.Common.{HasAtMost, Going, MayBeOn, IsRowOf}
use Rattle.unit_table.proofs.RowLaws.{first-same, before-same, cost-is, first-is, before-is}
use Rattle.unit_table.proofs.BeginLaws.{at_most_more}

module _ (g : ThermalUnit) (π : PriceLists) (periods : ℕ) (live : ℕ → Option Going) (n l : ℕ) where
  pub row_none : (end : Option ℤ) (first before : ℕ) → end ≡ None → IsRowOf g π periods live 0 l end first before
  row_none end first before none = record {
    most = λ f r d low on spell dispatch. absurd (omega arith);
    latest = λ f r d low on spell dispatch is. absurd (omega arith);
    sound = λ v is. cc;
  }

  -- what is said of the running spell that begins with n is said of the one that begins with f
  at_last : (P : ℕ → Type 0) (f : ℕ) → f < suc n → (f < n → P f) → P n → P f
  at_last P f low before here = elim (cases_lt f n) [
    | inl less ↦ before less
    | inr most ↦ let z : n ≡ f = omega arith in subst P z here
  ]

  -- the running spell has no spell to this row
  pub row_skip : (end : Option ℤ) (first before : ℕ) → IsRowOf g π periods live n l end first before →
      ((r : Going) (d : Schedule) → live n ≡ Some r → IsSpell g periods n l → IsDispatch g periods n l d → ⊥) →
      IsRowOf g π periods live (suc n) l end first before
  row_skip end first before row none = record {
    most = λ f r d low. at_last (λ (f : ℕ). live f ≡ Some r → IsSpell g periods f l → IsDispatch g periods f l d →
        HasAtMost end (r.cost +ℤ spell_cost g π f l d)) f low
        (λ less on spell dispatch. row.most f r d less on spell dispatch)
        (λ on spell dispatch. absurd (none r d on spell dispatch));
    latest = λ f r d low. at_last (λ (f : ℕ). live f ≡ Some r → IsSpell g periods f l → IsDispatch g periods f l d →
        end ≡ Some (r.cost +ℤ spell_cost g π f l d) → f ≤ first) f low
        (λ less on spell dispatch is. row.latest f r d less on spell dispatch is)
        (λ on spell dispatch is. absurd (none r d on spell dispatch));
    sound = λ v is. (let h = row.sound v is in let low = h.2 in (h.0, h.1, omega arith, h.3, h.4, h.5));
  }

  -- it has one, which is put into the row
  module _ (rows rows' : List (Option Ended)) (ended : Ended) (r : Going) (c : ℤ) (on : live n ≡ Some r)
      (spell : IsSpell g periods n l) (least : IsLeastSpell g π periods n l c)
      (cost : ended.cost ≡ r.cost +ℤ c) (begins : ended.first ≡ n) (after : ended.before ≡ r.before)
      (row : IsRowOf g π periods live n l (cost_at rows l) (first_at rows l) (before_at rows l))
      (here : (row_at rows' l ≡ row_at rows l) ⊎ (row_at rows' l ≡ Some ended))
      (old : (v : ℤ) → cost_at rows l ≡ Some v → HasAtMost (cost_at rows' l) v)
      (added : HasAtMost (cost_at rows' l) ended.cost)
      (latest : cost_at rows' l ≡ Some ended.cost → row_at rows' l ≡ Some ended) where
    same_cost : (x : Going) → live n ≡ Some x → x.cost ≡ r.cost
    same_cost x is = (let z : x ≡ r = (cc) in cc)

    kept : (v : ℤ) → HasAtMost (cost_at rows l) v → HasAtMost (cost_at rows' l) v
    kept v h = at_most_more (cost_at rows' l) h.0 v (old h.0 h.1) h.2

    most_here : (x : Going) (d : Schedule) → live n ≡ Some x → IsDispatch g periods n l d →
        HasAtMost (cost_at rows' l) (x.cost +ℤ spell_cost g π n l d)
    most_here x d is dispatch =
        let low = least.least d dispatch in
        let same = same_cost x is in
        at_most_more (cost_at rows' l) ended.cost (x.cost +ℤ spell_cost g π n l d) added
        (omega (arith, ints))

    -- the row stays, so it costs less than the spell; or the spell is named
    latest_here : (v : ℤ) → cost_at rows' l ≡ Some v → ended.cost ≤ℤ v → first_at rows' l ≡ n
    latest_here v is low =
        let value : added.0 ≡ v = (cc) in
        let same : v ≡ ended.cost = omega (arith, ints) in
        first-is rows' l ended (latest (cc)) ∙ begins

    latest_at : (f : ℕ) (x : Going) (d : Schedule) → f < suc n → live f ≡ Some x → IsSpell g periods f l →
        IsDispatch g periods f l d → cost_at rows' l ≡ Some (x.cost +ℤ spell_cost g π f l d) → f ≤ first_at rows' l
    latest_at f x d low is spell' dispatch end = elim here [
      | inr named ↦ (let first = first-is rows' l ended named in omega arith)
      | inl same ↦
          let first = first-same rows' rows l l same in
          elim (cases_lt f n) [
            | inl less ↦ (let before = row.latest f x d less is spell' dispatch
                (cc) in omega arith)
            | inr most ↦
                let z : f ≡ n = omega arith in
                let on' : live n ≡ Some x = rw z at is in
                let under = least.least d (rw z at dispatch) in
                let equal = ap (λ (f : ℕ). spell_cost g π f l d) z in
                let entry = same_cost x on' in
                let named = latest_here (x.cost +ℤ spell_cost g π f l d) end
                (omega (arith, ints)) in
                omega arith
          ]
    ]

    pub row_put : IsRowOf g π periods live (suc n) l (cost_at rows' l) (first_at rows' l) (before_at rows' l)
    row_put = record {
      most = λ f x d low. at_last (λ (f : ℕ). live f ≡ Some x → IsSpell g periods f l → IsDispatch g periods f l d →
          HasAtMost (cost_at rows' l) (x.cost +ℤ spell_cost g π f l d)) f low
          (λ less is spell' dispatch. kept (x.cost +ℤ spell_cost g π f l d) (row.most f x d less is spell' dispatch))
          (λ is spell' dispatch. most_here x d is dispatch);
      latest = latest_at;
      sound = λ v is. elim here [
        | inl same ↦
            let h = row.sound v (cc) in
            let first = first-same rows' rows l l same in
            let before = before-same rows' rows l l same in
            let low = h.2 in (
              h.0,
              cc,
              omega arith,
              cc,
              rw first h.4,
              rw first h.5,
            )
        | inr named ↦
            let first : first_at rows' l ≡ n = cc in
            let before = before-is rows' l ended named in
            let value : ended.cost ≡ v = (let a = cost-is rows' l ended named in cc) in (
              r,
              cc,
              omega arith,
              cc,
              rw first spell,
              rw first (c, least, sym value ∙ cost),
            )
      ];
    }

-- the spell of a running spell is put into the row, if it has one
module _ (g : ThermalUnit) (π : PriceLists) (live : ℕ →
    Option Going) (n t : ℕ) (rows rows' : List (Option Ended)) (r : Going) (on : live n ≡ Some r)
    (within : t < length π.energy) (order : n ≤ suc t) (may_be : MayBeOn g n (suc t)) where
  abbrev May : Type 0
  May = suc t < length π.energy → g.min_up ≤ on_time g n (suc t)

  spell_of : May → IsSpell g (length π.energy) n (suc t)
  spell_of may = record
      { order = order; end = omega arith; goes_on = may_be.goes_on; marks = may_be.marks; min_up = may }

  pub row_end : (net : Option ℤ) → (May → IsSpellAnswer g π (length π.energy) n (suc t) net) → IfSome net (λ _. May) →
      IfNone net (rows' ≡ rows) →
      IfSome net (λ c. IsPut (suc t) (record { cost = r.cost +ℤ c; first = n; before = r.before }) rows rows') →
      IsRowOf g π (length π.energy) live n (suc t) (cost_at rows (suc t)) (first_at rows (suc t))
      (before_at rows (suc t)) →
      IsRowOf g π (length π.energy) live (suc n) (suc t) (cost_at rows' (suc t)) (first_at rows' (suc t))
      (before_at rows' (suc t))
  row_end None answer may same put row =
      subst (λ (rows : List (Option Ended)). IsRowOf g π (length π.energy) live (suc n) (suc t) (cost_at rows (suc t))
      (first_at rows (suc t)) (before_at rows (suc t))) (sym same)
      (row_skip g π (length π.energy) live n (suc t) (cost_at rows (suc t)) (first_at rows (suc t))
      (before_at rows (suc t)) row (λ r d is spell dispatch. answer spell.min_up d dispatch))
  row_end (Some c) answer may same put row =
      row_put g π (length π.energy) live n (suc t) rows rows'
      (record { cost = r.cost +ℤ c; first = n; before = r.before }) r c on (spell_of may) (answer may) refl refl
      refl row put.here put.old put.added put.latest
