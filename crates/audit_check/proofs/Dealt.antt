-- What jobs added up that were dealt each unit once: the sums of one plan.
use Rattle.audit_check.proofs.Common.{◌≡◌, ℕ, zero, suc, ◌+◌, ◌<◌, ℤ, pos, ◌+ℤ◌, Option, None, Some, List, [], ◌∷◌}
use Rattle.audit_check.proofs.Common.{◌++◌}
use Rattle.audit_check.proofs.Common.{map, length, refl, sym, ap, ◌∙◌, subst, ⊎_elim, arith, props, ∥∥₁_elim, ints}
use Rattle.audit_check.proofs.Common.{Contains-append_cases, slice_get_within, slice_get-get_or, All, AllZip, concat}
use Rattle.audit_check.proofs.Common.{range_with_len, option_map_or, Contains, IsPermutation, slice_get, slice_index_or}
use Rattle.audit_check.proofs.Common.{below, added, all_added, HasRun, AnyUnit, PriceLists, Schedule, Market, units}
use Rattle.audit_check.proofs.Common.{earnings, supply_in, OneLeast, Fits, reserve_in, int_at, total, sum_below}
use Rattle.audit_check.proofs.Common.{zip_with, total_power, total_reserve, head_of, tail_of, zip_item, length_same}
use Rattle.audit_check.proofs.Common.{Sums, part_of, sum_of, FitsAt, AreSumsOf, AreAdded, AreSumsOfAll}
use Rattle.task_deal.specs.Laws.{SumsOverJobsEqualSumOverTasks, JobsRanExactlyTheTasks}
use Rattle.audit_check.proofs.Fitting.{Plan, the_plan, all_there}

sum_front : (n : ℕ) (f : ℕ → ℤ) → sum_below (suc n) f ≡ f 0 +ℤ sum_below n (λ k. f (suc k))
sum_front zero f = omega (arith, ints)
sum_front (suc n) f = omega (arith, ints, sum_front n f)

-- numbers that a function gives at places
pub list_is_map : (F : ℕ → ℤ) (a n : ℕ) (xs : List ℤ) → length xs ≡ n → ((k : ℕ) → k < n → int_at xs k ≡ F (a + k)) →
    xs ≡ map F (range_with_len a n)
list_is_map F a zero [] e each = refl
list_is_map F a zero (x ∷ xs) e each = absurd (omega (arith, e))
list_is_map F a (suc n) [] e each = absurd (omega (arith, e))
list_is_map F a (suc n) (x ∷ xs) e each =
    let first : a + 0 ≡ a = omega arith in
    let here : x ≡ F a = each 0 (omega arith) ∙ ap F first in
    let rest = list_is_map F (a + 1) n xs (omega (arith, e))
    (λ k lt. let at : a + suc k ≡ (a + 1) + k = omega arith in each (suc k) (omega (arith, lt)) ∙ ap F at) in
    ap (λ z. z ∷ xs) here ∙ ap (λ zs. F a ∷ zs) rest

-- the numbers that jobs added that had run none are all that they have run
pub all_runs : {J W : Type 0} (work : J → W) (runs : J → List ℕ) (spare : J → ℕ) (before after : List J) →
    AllZip (HasRun work runs spare) before after → All (λ j. runs j ≡ []) before →
    all_added runs before after ≡ map runs after
all_runs work runs spare [] [] zip none = refl
all_runs work runs spare [] (y ∷ ys) zip none = absurd zip
all_runs work runs spare (x ∷ xs) [] zip none = absurd zip
all_runs work runs spare (x ∷ xs) (y ∷ ys) zip none =
    let here : added runs x y ≡ runs y =
    sym (zip.0.ran ∙ ap (λ l. l ++ added runs x y) (head_of (λ j. runs j ≡ []) x xs none)) in
    ap (λ l. l ∷ all_added runs xs ys) here ∙
    ap (λ ls. runs y ∷ ls) (all_runs work runs spare xs ys zip.1 (tail_of (λ j. runs j ≡ []) x xs none))

module _ (g : AnyUnit → Schedule → ℤ) (d : Schedule) where
  -- g of the unit of a number and its schedule
  abbrev at_number : List AnyUnit → List Schedule → ℕ → ℤ
  at_number us ss n = option_map_or (λ (u : AnyUnit). g u (slice_index_or ss n d)) (slice_get us n) (pos 0)

  units_sum : (us : List AnyUnit) (ss : List Schedule) → length us ≡ length ss →
      sum_below (length us) (at_number us ss) ≡ total (zip_with g us ss)
  units_sum [] [] e = refl
  units_sum [] (s ∷ ss) e = absurd (omega (arith, e))
  units_sum (u ∷ us) [] e = absurd (omega (arith, e))
  units_sum (u ∷ us) (s ∷ ss) e =
      sum_front (length us) (at_number (u ∷ us) (s ∷ ss)) ∙ ap (λ z. g u s +ℤ z) (units_sum us ss (omega (arith, e)))

module _ (m : Market) (π : PriceLists) where
  fit_at : (numbers : List ℕ) (schedules : List Schedule) (n k : ℕ) → AllZip (FitsAt m π) numbers schedules →
      k < length numbers → slice_index_or numbers k n ≡ n → (s : Schedule) × FitsAt m π n s
  fit_at [] ss n k zip less e = absurd (omega (arith, less))
  fit_at (x ∷ xs) [] n k zip less e = absurd zip
  fit_at (x ∷ xs) (s ∷ ss) n zero zip less e = (s, subst (λ z. FitsAt m π z s) e zip.0)
  fit_at (x ∷ xs) (s ∷ ss) n (suc k) zip less e = fit_at xs ss n k zip.1 (omega (arith, less)) e

  module _ {J : Type 0} (runs : J → List ℕ) (sums : J → Sums) where
    abbrev Kept : J → Type 0
    Kept j = AreSumsOf m π (runs j) (sums j)

    fit_in : (jobs : List J) (n : ℕ) → All Kept jobs → Contains (concat (map runs jobs)) n →
        (s : Schedule) × FitsAt m π n s
    fit_in [] n kept in_it = absurd (let less = in_it.1 in omega (arith, less))
    fit_in (j ∷ js) n kept in_it = ⊎_elim
        (λ (h : Contains (runs j) n). let own = head_of Kept j js kept in
        fit_at (runs j) own.schedules n h.0 own.fit h.1 h.2)
        (λ (h : Contains (concat (map runs js)) n). fit_in js n (tail_of Kept j js kept) h)
        (Contains-append_cases (runs j) (concat (map runs js)) n in_it)

    build : (us : List AnyUnit) → ((k : ℕ) (u : AnyUnit) → slice_get us k ≡ Some u → (s : Schedule) × Fits u π s) →
        (ss : List Schedule) × Plan π us ss
    build [] each = ([], tt)
    build (u ∷ us) each =
        let one = each 0 u refl in
        let rest = build us (λ k v e. each (suc k) v e) in
        (one.0 ∷ rest.0, (one.1, rest.1))

    module _ (one : OneLeast) (jobs : List J)
        (once : IsPermutation (below (length (units m))) (concat (map runs jobs))) where
      pub plan_of : JobsRanExactlyTheTasks → ∥ All Kept jobs ∥₁ → (ss : List Schedule) × Plan π (units m) ss
      plan_of numbers kept = the_plan one π (units m) kept (λ all. build (units m) (λ k u is.
          let at = fit_in jobs k all
          ((numbers (length (units m)) (map runs jobs) k once).0 (slice_get_within (units m) k u is)) in
          (at.0, at.1 u is)))

      module _ (plan : List Schedule) (fits : Plan π (units m) plan) (d : Schedule) (g : AnyUnit → Schedule → ℤ) where
        same_part : (n : ℕ) (s : Schedule) → FitsAt m π n s → part_of m g n s ≡ at_number g d (units m) plan n
        same_part n s fit = choose (slice_get (units m) n) refl
          where
            choose : (o : Option AnyUnit) → slice_get (units m) n ≡ o →
                option_map_or (λ (u : AnyUnit). g u s) o (pos 0) ≡ option_map_or
                (λ (u : AnyUnit). g u (slice_index_or plan n d)) o (pos 0)
            choose None is = refl
            choose (Some u) is =
                let inside = slice_get_within (units m) n u is in
                let long = length_same (λ u s. Fits u π s) (units m) plan fits in
                let there = slice_get-get_or plan n d (omega (arith, inside, long)) in
                ap (g u) (one u π s (slice_index_or plan n d) (fit u is)
                (zip_item (λ u s. Fits u π s) (units m) plan n u (slice_index_or plan n d) fits is there))

        own_sum : (numbers : List ℕ) (schedules : List Schedule) → AllZip (FitsAt m π) numbers schedules →
            sum_of m g numbers schedules ≡ total (map (at_number g d (units m) plan) numbers)
        own_sum [] [] zip = refl
        own_sum [] (s ∷ ss) zip = absurd zip
        own_sum (x ∷ xs) [] zip = absurd zip
        own_sum (x ∷ xs) (s ∷ ss) zip = ap (λ z. z +ℤ sum_of m g xs ss) (same_part x s zip.0) ∙
            ap (λ z. at_number g d (units m) plan x +ℤ z) (own_sum xs ss zip.1)

        module _ (value : J → ℤ) (is : (j : J) (h : Kept j) → value j ≡ sum_of m g (runs j) h.schedules) where
          job_sums : (js : List J) → All Kept js →
              total (map value js) ≡ total (map (λ one. total (map (at_number g d (units m) plan) one)) (map runs js))
          job_sums [] kept = refl
          job_sums (j ∷ js) kept =
              let own = head_of Kept j js kept in
              let here = is j own ∙ own_sum (runs j) own.schedules own.fit in
              ap (λ z. z +ℤ total (map value js)) here ∙
              ap (λ z. total (map (at_number g d (units m) plan) (runs j)) +ℤ z)
              (job_sums js (tail_of Kept j js kept))

          pub dealt_sum : SumsOverJobsEqualSumOverTasks → ∥ All Kept jobs ∥₁ → total (map value jobs) ≡ total
              (zip_with g (units m) plan)
          dealt_sum dealt kept = ∥∥₁_elim kept (hlevel props) (λ all.
              job_sums jobs all
              ∙ (dealt (length (units m)) (map runs jobs) (at_number g d (units m) plan) once
              ∙ units_sum g d (units m) plan (length_same (λ u s. Fits u π s) (units m) plan fits)))

      -- sums of nothing, to which those of all jobs were added
      pub all_sums : JobsRanExactlyTheTasks → SumsOverJobsEqualSumOverTasks → All (λ j. ∥ Kept j ∥₁) jobs →
          (old new : Sums) →
          AreAdded sums jobs old new → (Schedule)
          → length old.supply.items ≡ m.periods → length old.reserve.items ≡ m.periods →
          length new.supply.items ≡ m.periods → length new.reserve.items ≡ m.periods
          → old.earned ≡ pos 0 → ((k : ℕ) → int_at old.supply.items k ≡ pos 0) →
          ((k : ℕ) → int_at old.reserve.items k ≡ pos 0) → AreSumsOfAll m π new
      all_sums numbers dealt each old new more d ls lr ns nr e0 s0 r0 =
          let kept = all_there Kept jobs each in
          let plan = plan_of numbers kept in
          record {
            schedules = plan.0;
            fit = plan.1;
            earned =
                let own = dealt_sum plan.0 plan.1 d (λ u s. earnings u π s) (λ j. (sums j).earned) (λ j h. h.earned)
                dealt kept in
                let from = more.earned in
                omega (arith, ints, own, from, e0);
            supply = list_is_map (total_power (units m) plan.0) 0 m.periods new.supply.items ns (λ k less.
                let own = dealt_sum plan.0 plan.1 d (λ u s. supply_in u s (suc k)) (λ j. int_at (sums j).supply.items k)
                (λ j h. h.supply k less) dealt kept in
                let from = more.supply k (omega (arith, less, ls)) in
                let none = s0 k in
                let at : 0 + k ≡ k = omega arith in
                subst (λ i. int_at new.supply.items k ≡ total_power (units m) plan.0 i) (sym at)
                (omega (arith, ints, own, from, none)));
            reserve = list_is_map (total_reserve (units m) plan.0) 0 m.periods new.reserve.items nr (λ k less.
                let own = dealt_sum plan.0 plan.1 d (λ u s. reserve_in s (suc k)) (λ j. int_at (sums j).reserve.items k)
                (λ j h. h.reserve k less) dealt kept in
                let from = more.reserve k (omega (arith, less, lr)) in
                let none = r0 k in
                let at : 0 + k ≡ k = omega arith in
                subst (λ i. int_at new.reserve.items k ≡ total_reserve (units m) plan.0 i) (sym at)
                (omega (arith, ints, own, from, none)));
          }
