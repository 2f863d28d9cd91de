-- A run, row after row, up to the budget or a settled row.
use Rattle.right_report.proofs.Common.{◌≡◌, ℕ, zero, suc, ◌+◌, ◌-◌, ◌<◌, ◌≤◌, ◌⊎◌, inl, inr, ℤ, List, [], ◌∷◌, ◌++◌}
use Rattle.right_report.proofs.Common.{take, length, sym, ◌∙◌, subst, arith, length-append, cases_lt, cases_Bool}
use Rattle.right_report.proofs.Common.{get_or_append_left, get_or_default, get_or_push, take-append-le, take_all}
use Rattle.right_report.proofs.Common.{IsTrue, IsFalse, slice_index_or, Schedule, Market, Proposal, is_settled, Fits}
use Rattle.right_report.proofs.Common.{IsNextRow, AreRightRows, IsRun, AreFeasible, RunsExist}
use Rattle.right_report.proofs.RowsExist.{next_row_exists}

module _ (m : Market) (cost : ℤ) (ahead : ℕ) where
  -- as far as it has come: no row is opened behind a settled one
  abbrev IsOpenTo : List Proposal → ℕ → Type 0
  IsOpenTo rows n = (k : ℕ) (d : Proposal) → k < n → IsFalse (is_settled m cost (slice_index_or rows k d))

  right_none : AreRightRows Fits m cost ahead []
  right_none = record { each = λ k d low. absurd (omega (arith, low)) }

  module _ (rows : List Proposal) (r : Proposal) where
    abbrev more : List Proposal
    more = rows ++ r ∷ []

    right_more : AreRightRows Fits m cost ahead rows → IsNextRow Fits m cost ahead rows r →
        AreRightRows Fits m cost ahead more
    right_more right next = record { each = each }
      where
        each : (k : ℕ) (d : Proposal) → k < length more →
            IsNextRow Fits m cost ahead (take k more) (slice_index_or more k d)
        each k d low = elim (cases_lt k (length rows)) [
          | inl old ↦
              subst (λ (z : Proposal). IsNextRow Fits m cost ahead (take k more) z)
              (sym (get_or_append_left rows (r ∷ []) d k old))
              (subst (λ (l : List Proposal). IsNextRow Fits m cost ahead l (slice_index_or rows k d))
              (sym (take-append-le k rows (r ∷ []) (omega (arith, old)))) (right.each k d old))
          | inr late ↦
              let same : length rows ≡ k = omega (arith, low, late, length-append rows (r ∷ [])) in
              subst (λ (z : Proposal). IsNextRow Fits m cost ahead (take k more) z) (sym (get_or_push rows r d k same))
              (subst (λ (l : List Proposal). IsNextRow Fits m cost ahead l r)
              (sym (take-append-le k rows (r ∷ []) (omega (arith, same)) ∙ take_all k rows (omega (arith, same)))) next)
        ]

    -- one row more is open where the row that its prices follow isn't settled
    open_more : 1 ≤ ahead → IsOpenTo rows (suc (length rows) - ahead) → IsOpenTo more (length more - ahead)
    open_more some h k d low =
        let long = length-append rows (r ∷ []) in
        let inside : k < length rows = omega (arith, low, long, some) in
        subst (λ (z : Proposal). IsFalse (is_settled m cost z)) (sym (get_or_append_left rows (r ∷ []) d k inside))
        (h k d (omega (arith, low, long)))

  abbrev Run : ℕ → Type 0
  Run budget = (rows : List Proposal) × IsRun Fits m cost budget ahead rows

  ends_at_budget : (budget : ℕ) (rows : List Proposal) → AreRightRows Fits m cost ahead rows →
      IsOpenTo rows (length rows - ahead) → length rows ≡ budget → Run budget
  ends_at_budget budget rows right open_so_far long =
      (rows, record { right = right; within = omega (arith, long); open_so_far = open_so_far; whole = inl long })

  ends_settled : (budget k : ℕ) (rows : List Proposal) (e : Proposal) → AreRightRows Fits m cost ahead rows →
      IsOpenTo rows (length rows - ahead) → length rows ≤ budget
      → k < length rows + 1 - ahead → k < length rows → IsTrue (is_settled m cost (slice_index_or rows k e)) →
      Run budget
  ends_settled budget k rows e right open_so_far within low inside settled = (
    rows,
    record {
      right = right;
      within = within;
      open_so_far = open_so_far;
      whole = inr (
        k,
        low,
        inside,
        λ d. subst (λ (z : Proposal). IsTrue (is_settled m cost z))
            (get_or_default rows k e d inside) settled,
      );
    },
  )

  -- the row that the next prices would follow from is settled
  abbrev IsLast : List Proposal → Proposal → Type 0
  IsLast rows e = IsTrue (is_settled m cost (slice_index_or rows (length rows - ahead) e)) × (ahead ≤ length rows)

  opens_or_not : 1 ≤ ahead → (rows : List Proposal) (e : Proposal) → IsOpenTo rows (length rows - ahead) →
      IsLast rows e ⊎ IsOpenTo rows (suc (length rows) - ahead)
  opens_or_not some rows e h = elim (cases_lt (length rows) ahead) [
    | inl early ↦ inr (λ k d low. absurd (omega (arith, low, early)))
    | inr late ↦ elim (cases_Bool (is_settled m cost (slice_index_or rows (length rows - ahead) e))) [
      | inl settled ↦ inl (settled, late)
      | inr unsettled ↦ inr (open_last late unsettled)
    ]
  ]
    where
      open_last : ahead ≤ length rows → IsFalse (is_settled m cost (slice_index_or rows (length rows - ahead) e)) →
          IsOpenTo rows (suc (length rows) - ahead)
      open_last late unsettled k d low = elim (cases_lt k (length rows - ahead)) [
        | inl old ↦ h k d old
        | inr last ↦
            let same : length rows - ahead ≡ k = omega (arith, low, last, late) in
            let inside : length rows - ahead < length rows = omega (arith, late, some) in
            subst (λ (i : ℕ). IsFalse (is_settled m cost (slice_index_or rows i d))) same
            (subst (λ (z : Proposal). IsFalse (is_settled m cost z))
            (get_or_default rows (length rows - ahead) e d inside) unsettled)
      ]

  module _ (feasible : List Schedule) (some : 1 ≤ ahead) (each : AreFeasible m feasible) where
    goes_on : (left : ℕ) (rows : List Proposal) (budget : ℕ) → AreRightRows Fits m cost ahead rows →
        IsOpenTo rows (length rows - ahead) → length rows + left ≡ budget → Run budget
    goes_on zero rows budget right open_so_far long = ends_at_budget budget rows right open_so_far (omega (arith, long))
    goes_on (suc left) rows budget right open_so_far long =
        let next = next_row_exists m cost ahead feasible some each rows in
        elim (opens_or_not some rows next.0 open_so_far) [
          | inl stop ↦
              let late = stop.1 in
              ends_settled budget (length rows - ahead) rows next.0 right open_so_far (omega (arith, long))
              (omega (arith, late)) (omega (arith, late, some)) stop.0
          | inr opens ↦
              goes_on left (more rows next.0) budget (right_more rows next.0 right next.1)
              (open_more rows next.0 some opens)
              (omega (arith, long, length-append rows (next.0 ∷ [])))
        ]

pub runs_exist : RunsExist
runs_exist m cost budget ahead feasible some each =
    goes_on m cost ahead feasible some each budget [] budget (right_none m cost ahead)
    (λ k d low. absurd (omega (arith, low))) (omega arith)
