-- A longer run begins with the proposals of a shorter one: its front of the budget's length is a run, and there is one.
use Rattle.law_parts.proofs.Common.{◌≡◌, ℕ, ◌<◌, ◌≤◌, ℤ, List, length, take, get_or, sym, ap, ◌∙◌, subst, arith, inl}
use Rattle.law_parts.proofs.Common.{inr, cases_lt, get_or-take, length-take-le, take_all, take-take, IsFalse, Market}
use Rattle.law_parts.proofs.Common.{Proposal, is_settled, Fits, IsNextRow, IsRun, OneRun, LongerRunsBeginSo}

module _ (m : Market) (cost : ℤ) (budget more ahead : ℕ) (longer : List Proposal)
    (run : IsRun Fits m cost more ahead longer) where
  -- as many rows as the budget allows are a run
  front_is_run : budget ≤ length longer → IsRun Fits m cost budget ahead (take budget longer)
  front_is_run le =
      let long = length-take-le budget longer le in
      record {
        right = record {
          each = λ k d lt.
              let low : k < budget = omega (arith, lt, long) in
              let inside : k < length longer = omega (arith, low, le) in
              let item = sym (get_or-take budget longer k d low) in
              let before = sym (take-take k budget longer (omega (arith, low))) in
              subst (λ (r : Proposal). IsNextRow Fits m cost ahead (take k (take budget longer)) r) item
              (subst (λ (rs : List Proposal). IsNextRow Fits m cost ahead rs (get_or longer k d)) before
              (run.right.each k d inside));
        };
        within = omega (arith, long);
        open_so_far = λ k d lt.
            let low : k < budget = omega (arith, lt, long) in
            subst (λ (r : Proposal). IsFalse (is_settled m cost r)) (sym (get_or-take budget longer k d low))
            (run.open_so_far k d (omega (arith, lt, long, le)));
        whole = inl long;
      }

  -- a run that ends before the budget is a run with that budget
  whole_is_run : budget ≤ more → length longer < budget → IsRun Fits m cost budget ahead longer
  whole_is_run le short = record {
    right = run.right;
    within = omega (arith, short);
    open_so_far = run.open_so_far;
    whole = elim run.whole [
      | inl full ↦ absurd (omega (arith, full, le, short))
      | inr stop ↦ inr stop
    ];
  }

pub begins_so : OneRun → LongerRunsBeginSo
begins_so one m cost budget more ahead rows longer le shorter run =
    elim (cases_lt (length longer) budget) [
      | inl short ↦
          let same = one m cost budget ahead rows longer shorter
          (whole_is_run m cost budget more ahead longer run le short) in
          take_all (length rows) longer (let long = ap length same in omega (arith, long)) ∙ sym same
      | inr far ↦
          let same = one m cost budget ahead rows (take budget longer) shorter
          (front_is_run m cost budget more ahead longer run far) in
          let long : length rows ≡ budget = ap length same ∙ length-take-le budget longer far in
          ap (λ (n : ℕ). take n longer) long ∙ sym same
    ]
