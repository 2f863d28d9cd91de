-- A run row by row.
use Rattle.audit_check.proofs.Common.{◌≡◌, ℕ, zero, suc, ◌+◌, ◌-◌, ◌<◌, ◌≤◌, inl, inr, ℤ, pos, ◌≤ℤ◌, List, [], ◌∷◌}
use Rattle.audit_check.proofs.Common.{◌++◌}
use Rattle.audit_check.proofs.Common.{take, length, refl, sym, ap, ◌∙◌, subst, arith, length-append, cases_lt, ints}
use Rattle.audit_check.proofs.Common.{All-map, All-push, All-nil, All, AllZip, range_with_len, slice_index_or, IsFalse}
use Rattle.audit_check.proofs.Common.{IsRowBelow, AnyUnit, PriceLists, Schedule, Market, units, GivesWithin}
use Rattle.audit_check.proofs.Common.{UnitsAreWithin, OutputsAreWithin, PowerAndReserveTotalsAreWithin}
use Rattle.audit_check.proofs.Common.{DualValuesAreWithin}
use Rattle.audit_check.proofs.Common.{PlanCostsAreWithin, DualIsAtMostCost, IsUnit, IsTotal, IsWorth, IsMarket}
use Rattle.audit_check.proofs.Common.{ArePrices, Proposal, is_settled, Fits, IsNextRow, IsRun, total_power}
use Rattle.audit_check.proofs.Common.{total_reserve, IsDualValue, head_of, tail_of, IsCostOfPlan, IsRowAt, IsRunSoFar}
use Rattle.audit_check.proofs.Common.{IsNextProposal, IsLast}

take_front : {X : Type 0} → (k : ℕ) (xs ys : List X) → k ≤ length xs → take k (xs ++ ys) ≡ take k xs
take_front zero xs ys h = refl
take_front (suc k) [] ys h = absurd (omega (arith, h))
take_front (suc k) (x ∷ xs) ys h = ap (λ l. x ∷ l) (take_front k xs ys (omega (arith, h)))

take_all : {X : Type 0} → (xs : List X) → take (length xs) xs ≡ xs
take_all [] = refl
take_all (x ∷ xs) = ap (λ l. x ∷ l) (take_all xs)

index_front : {X : Type 0} → (xs ys : List X) (k : ℕ) (d : X) → k < length xs →
    slice_index_or (xs ++ ys) k d ≡ slice_index_or xs k d
index_front [] ys k d h = absurd (omega (arith, h))
index_front (x ∷ xs) ys zero d h = refl
index_front (x ∷ xs) ys (suc k) d h = index_front xs ys k d (omega (arith, h))

index_last : {X : Type 0} → (xs : List X) (x d : X) → slice_index_or (xs ++ x ∷ []) (length xs) d ≡ x
index_last [] x d = refl
index_last (y ∷ xs) x d = index_last xs x d

-- ---- the sizes of a row

gives : OutputsAreWithin → (π : PriceLists) (us : List AnyUnit) (ss : List Schedule) → All IsUnit us →
    AllZip (λ u s. Fits u π s) us ss → AllZip (λ u s. (k : ℕ) → GivesWithin u s k) us ss
gives outputs π [] [] limits fit = tt
gives outputs π [] (s ∷ ss) limits fit = absurd fit
gives outputs π (u ∷ us) [] limits fit = absurd fit
gives outputs π (u ∷ us) (s ∷ ss) limits fit = (
  outputs u s (length π.energy) (head_of IsUnit u us limits) fit.0.best.feasible,
  gives outputs π us ss (tail_of IsUnit u us limits) fit.1,
)

pub row_below : UnitsAreWithin → OutputsAreWithin → PowerAndReserveTotalsAreWithin → DualValuesAreWithin →
    DualIsAtMostCost →
    (m : Market) (cost : ℤ) (π : PriceLists) (r : Proposal)
    → IsMarket m → ArePrices π → length π.energy ≡ m.periods → IsCostOfPlan m cost → IsRowAt m π r → IsRowBelow m cost r
row_below limited outputs totals values at_most m cost π r limits are horizon plan row =
    let within = totals m row.schedules limits
    (gives outputs π (units m) row.schedules (limited m limits) row.answers) in
    record {
      row = record {
        horizon = ap (λ (p : PriceLists). length p.energy) row.prices ∙ horizon;
        supply = subst (All IsTotal) (sym row.totals.supply)
            (All-map IsTotal (total_power (units m) row.schedules) (range_with_len 0 m.periods)
            (λ k d i. (within _).0));
        reserve = subst (All IsTotal) (sym row.totals.reserve)
            (All-map IsTotal (total_reserve (units m) row.schedules) (range_with_len 0 m.periods)
            (λ k d i. (within _).1));
      };
      value = values m π r.value limits are horizon row.value;
      at_most = subst (λ (c : ℤ). r.value ≤ℤ c) plan.2
          (at_most m plan.0 π r.value plan.1
          (record {
            horizon = horizon;
            reserve =
                λ k i. (are.reserve k (pos 0) (let a = are.lengths in omega (arith, i, a, horizon))).at_least;
          }) row.value);
    }

-- ---- one more row

pub begins : (m : Market) (cost : ℤ) (ahead : ℕ) → IsRunSoFar m cost ahead []
begins m cost ahead = record {
  right = record { each = λ k d h. absurd (omega (arith, h)) };
  open_so_far = λ k d h. absurd (omega (arith, h));
  below = All-nil (IsRowBelow m cost);
}

module _ (m : Market) (cost : ℤ) (ahead : ℕ) (some : 1 ≤ ahead) (rows : List Proposal)
    (so_far : IsRunSoFar m cost ahead rows) where
  module _ (π : PriceLists) (r : Proposal) (next : IsNextProposal m cost ahead rows π) (row : IsRowAt m π r)
      (below : IsRowBelow m cost r) where
    next_row : IsNextRow Fits m cost ahead rows r
    next_row = record {
      prices = row.prices ∙ next.prices;
      value = subst (λ (p : PriceLists). IsDualValue m p r.value) (sym row.prices) row.value;
      schedules = row.schedules;
      answers = subst (λ (p : PriceLists). AllZip (λ u s. Fits u p s) (units m) row.schedules) (sym row.prices)
          row.answers;
      totals = row.totals;
    }

    abbrev more : List Proposal
    more = rows ++ r ∷ []

    each : (k : ℕ) (d : Proposal) → k < length more →
        IsNextRow Fits m cost ahead (take k more) (slice_index_or more k d)
    each k d h = elim (cases_lt k (length rows)) [
      | inl old ↦
          subst (λ (z : Proposal). IsNextRow Fits m cost ahead (take k more) z)
          (sym (index_front rows (r ∷ []) k d old))
          (subst (λ (l : List Proposal). IsNextRow Fits m cost ahead l (slice_index_or rows k d))
          (sym (take_front k rows (r ∷ []) (omega (arith, old)))) (so_far.right.each k d old))
      | inr late ↦
          let same : length rows ≡ k = omega (arith, h, late, length-append rows (r ∷ [])) in
          subst (λ (i : ℕ). IsNextRow Fits m cost ahead (take i more) (slice_index_or more i d)) same
          (subst (λ (z : Proposal). IsNextRow Fits m cost ahead (take (length rows) more) z) (sym (index_last rows r d))
          (subst (λ (l : List Proposal). IsNextRow Fits m cost ahead l r)
          (sym (take_front (length rows) rows (r ∷ []) (omega arith) ∙ take_all rows)) next_row))
    ]

    open_more : (k : ℕ) (d : Proposal) → k < length more - ahead → IsFalse (is_settled m cost (slice_index_or more k d))
    open_more k d h =
        let long = length-append rows (r ∷ []) in
        let inside : k < length rows = omega (arith, h, long, some) in
        subst (λ (z : Proposal). IsFalse (is_settled m cost z)) (sym (index_front rows (r ∷ []) k d inside))
        (elim (cases_lt k (length rows - ahead)) [
          | inl old ↦ so_far.open_so_far k d old
          | inr late ↦
              let same : length rows - ahead ≡ k = omega (arith, h, long, late, some) in
              subst (λ (i : ℕ). IsFalse (is_settled m cost (slice_index_or rows i d))) same
              (next.open_so_far d (omega (arith, h, long, late, some)))
        ])

    pub goes_on : IsRunSoFar m cost ahead more
    goes_on = record {
      right = record { each = each };
      open_so_far = open_more;
      below =
          All-push (IsRowBelow m cost) rows r so_far.below below;
    }

  pub ends_at_budget : (budget : ℕ) → length rows ≡ budget → IsRun Fits m cost budget ahead rows
  ends_at_budget budget long =
      record { right = so_far.right; within = omega (arith, long); open_so_far = so_far.open_so_far; whole = inl long }

  pub ends_settled : (budget : ℕ) → length rows ≤ budget → IsLast m cost ahead rows →
      IsRun Fits m cost budget ahead rows
  ends_settled budget within last =
      let enough = last.enough in
      record {
        right = so_far.right;
        within = within;
        open_so_far = so_far.open_so_far;
        whole = inr (length rows - ahead, omega (arith, enough, some), omega (arith, enough, some), last.settled);
      }

pub cost_worth : PlanCostsAreWithin → (m : Market) (cost : ℤ) → IsMarket m → IsCostOfPlan m cost → IsWorth cost
cost_worth bound m cost limits plan =
    let sum = bound m plan.0 limits plan.1 in
    let low = sum.at_least in
    let high = sum.at_most in
    let is = plan.2 in
    record { at_least = omega (arith, ints, low, is); at_most = omega (arith, ints, high, is) }

pub one_longer : {X : Type 0} (xs ys : List X) (x : X) → ys ≡ xs ++ x ∷ [] → length ys ≡ length xs + 1
one_longer xs ys x is = ap length is ∙ length-append xs (x ∷ [])
