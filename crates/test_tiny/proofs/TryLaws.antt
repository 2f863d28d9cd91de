-- What is kept while schedules are tried, and that at the end it is the least of the best.
use Rattle.test_tiny.proofs.Common.{◌≡◌, ℕ, zero, suc, ◌+◌, ◌*◌, ◌<◌, ◌≤◌, ◌⊎◌, inl, inr, Bool, true, false, ℤ, pos}
use Rattle.test_tiny.proofs.Common.{negsuc, ◌≤ℤ◌, List, [], ◌∷◌, map, length, replicate, refl, sym, ap, ◌∙◌, subst}
use Rattle.test_tiny.proofs.Common.{arith, mul-le-mul_left, ints, length-replicate, get_or-replicate, append-nil, ◌<ℤ◌}
use Rattle.test_tiny.proofs.Common.{unsigned_abs, IsTrue, slice_index_or, ThermalUnit, Thermal, PriceLists, Schedule}
use Rattle.test_tiny.proofs.Common.{earnings, IsThermalUnit, IsThermalFeasible, IsLeast, after_of, list_count, flag}
use Rattle.test_tiny.proofs.Common.{flags_of, schedules_after, IsKept}
use Rattle.test_tiny.proofs.CountLaws.{IsCounted, before-more, one_place, below_or, power_below, reserve_below}
use Rattle.test_tiny.proofs.CountLaws.{flags_below, schedules_after-counted}
use Rattle.test_tiny.proofs.EarningsLaws.{power_and_reserve}
use Rattle.test_tiny.proofs.StepLaws.{after-firsts, flags-firsts}

same_item : (xs : List ℕ) (k d e : ℕ) → k < length xs → slice_index_or xs k d ≡ slice_index_or xs k e
same_item [] k d e low = absurd (omega (arith, low))
same_item (x ∷ xs) zero d e low = refl
same_item (x ∷ xs) (suc k) d e low = same_item xs k d e (omega (arith, low))

-- ---- the schedule that comes first has all others after it

nothing_after : (most n : ℕ) (s : Schedule) → IsCounted most n s → (first : Schedule) → IsCounted most n first →
    suc (after_of most first.reserve) ≡ list_count most n → suc (after_of most first.power) ≡ list_count most n →
    suc (after_of 1 (flags_of first)) ≡ list_count 1 n →
    schedules_after most s ≤ schedules_after most first
nothing_after most n s h first i reserve power flags =
    let a = schedules_after-counted most n s h in
    let b = schedules_after-counted most n first i in
    let r = reserve_below most n s h in
    let p = power_below most n s h in
    let f = flags_below most n s h in
    let flags_low : after_of 1 (flags_of s) ≤ after_of 1 (flags_of first) = omega (arith, f, flags) in
    let inner = mul-le-mul_left (list_count most n) flags_low in
    let outer : (after_of most s.power + list_count most n * after_of 1 (flags_of s))
    ≤ (after_of most first.power + list_count most n * after_of 1 (flags_of first)) =
    omega (arith, p, power, inner) in
    let whole = mul-le-mul_left (list_count most n) outer in
    omega (arith, a, b, r, reserve, whole)

module _ (g : ThermalUnit) (π : PriceLists) (most : ℕ) (unit : IsThermalUnit g) (most_is : pos most ≡ g.max_power) where
  -- a feasible schedule is among those that are tried
  feasible_counted : (n : ℕ) (s : Schedule) → IsThermalFeasible g n s → IsCounted most n s
  feasible_counted n s h =
      let on = h.schedule.on in
      let power = h.schedule.power in
      let reserve = h.schedule.reserve in
      record {
        on = on;
        power = power;
        reserve = reserve;
        within = record {
          power = λ k d low. let most_of = power_and_reserve g s n unit h k (omega (arith, low, power)) in
              let e = same_item s.power k d 0 low in omega (arith, ints, most_of, e, most_is);
          reserve = λ k d low. let most_of = power_and_reserve g s n unit h k (omega (arith, low, reserve)) in
              let e = same_item s.reserve k d 0 low in omega (arith, ints, most_of, e, most_is);
        };
      }

  pub begins : (first s : Schedule) (earned : ℤ) → first.on ≡ replicate (length π.energy) false →
      first.power ≡ replicate (length π.energy) 0 → first.reserve ≡ replicate (length π.energy) 0 →
      IsKept g π most (suc (schedules_after most first)) false s earned
  begins first s earned on power reserve =
      let n = length π.energy in
      let zeros : (xs : List ℕ) → xs ≡ replicate n 0 → (k d : ℕ) → k < length xs → slice_index_or xs k d ≤ most =
      λ xs is. subst (λ (zs : List ℕ). (k d : ℕ) → k < length zs → slice_index_or zs k d ≤ most) (sym is)
      (λ k d low. let e = get_or-replicate n k 0 d (let l = length-replicate {A = ℕ} n 0 in omega (arith, low, l)) in
      omega (arith, e)) in
      let is_counted : IsCounted most n first = record {
        on = ap length on ∙ length-replicate n false;
        power = ap length power ∙ length-replicate {A = ℕ} n 0;
        reserve = ap length reserve ∙ length-replicate {A = ℕ} n 0;
        within = record { power = zeros first.power power; reserve = zeros first.reserve reserve };
      } in
      let count = λ (xs : List ℕ) (is : xs ≡ replicate n 0). ap (λ (zs : List ℕ). suc (after_of most zs))
      (is ∙ sym (append-nil (replicate n 0))) ∙ after-firsts most n in
      let flags : suc (after_of 1 (flags_of first)) ≡ list_count 1 n =
      ap (λ (zs : List Bool). suc (after_of 1 (map flag zs))) (on ∙ sym (append-nil (replicate n false))) ∙
      flags-firsts n in
      record {
        none = λ no other h low.
            let top = nothing_after most n other (feasible_counted n other h) first is_counted
            (count first.reserve reserve) (count first.power power) flags in omega (arith, top, low);
        feasible = λ yes. let bad : false ≡ true = yes in cc;
        earns = λ yes. let bad : false ≡ true = yes in cc;
        tried = λ yes. let bad : false ≡ true = yes in cc;
        first = λ yes. let bad : false ≡ true = yes in cc;
      }

  module _ (candidate : Schedule) (is_counted : IsCounted most (length π.energy) candidate) (found : Bool)
      (s : Schedule) (earned : ℤ)
      (h : IsKept g π most (suc (schedules_after most candidate)) found s earned) where
    -- what has been tried now was tried before, or is the candidate
    one_of : (other : Schedule) → IsThermalFeasible g (length π.energy) other →
        schedules_after most candidate ≤ schedules_after most other →
        (suc (schedules_after most candidate) ≤ schedules_after most other) ⊎ (candidate ≡ other)
    one_of other f low =
        elim (below_or (schedules_after most candidate) (schedules_after most other)) [
          | inl less ↦ inl less
          | inr more ↦
              inr (one_place most (length π.energy) candidate other is_counted
              (feasible_counted (length π.energy) other f) (omega (arith, low, more)))
        ]

    pub keeps_infeasible : (IsThermalFeasible g (length π.energy) candidate → ⊥) →
        IsKept g π most (schedules_after most candidate) found s earned
    keeps_infeasible infeasible = record {
      none = λ no other f low. elim (one_of other f low) [
        | inl before ↦ h.none no other f before
        | inr same ↦
            infeasible (subst (IsThermalFeasible g (length π.energy)) (sym same) f)
      ];
      feasible = h.feasible;
      earns = h.earns;
      tried = λ yes. let t = h.tried yes in omega (arith, t);
      first = λ yes other f low. elim (one_of other f low) [
        | inl before ↦ h.first yes other f before
        | inr same ↦
            absurd (infeasible (subst (IsThermalFeasible g (length π.energy)) (sym same) f))
      ];
    }

    less_or_same : (x y : ℤ) → x ≤ℤ y → (x <ℤ y) ⊎ (x ≡ y)
    less_or_same x y le = grind (arith, ints)

    pub keeps_better : IsTrue found → earnings (Thermal g) π candidate ≤ℤ earned →
        IsKept g π most (schedules_after most candidate) true s earned
    keeps_better have no_better = record {
      none = λ no. let bad : true ≡ false = no in cc;
      feasible = λ _. h.feasible have;
      earns = λ _. h.earns have;
      tried = λ _. let t = h.tried have in omega (arith, t);
      first = λ _ other f low. elim (one_of other f low) [
        | inl before ↦ h.first have other f before
        | inr same ↦
            subst (λ (z : Schedule). (earnings (Thermal g) π z <ℤ earned) ⊎
            ((earnings (Thermal g) π z ≡ earned) × (schedules_after most z ≤ schedules_after most s))) same
            (elim (less_or_same (earnings (Thermal g) π candidate) earned no_better) [
              | inl less ↦ inl less
              | inr as_much ↦ inr (as_much, let t = h.tried have in omega (arith, t))
            ])
      ];
    }

    pub takes : (value : ℤ) → IsThermalFeasible g (length π.energy) candidate →
        value ≡ earnings (Thermal g) π candidate → (IsTrue found → earned <ℤ value) →
        IsKept g π most (schedules_after most candidate) true candidate value
    takes value f is better = record {
      none = λ no. let bad : true ≡ false = no in cc;
      feasible = λ _. f;
      earns = λ _. sym is;
      tried = λ _. omega arith;
      first = λ _ other i low. elim (one_of other i low) [
        | inl before ↦ elim found as (λ b. found ≡ b →
            (earnings (Thermal g) π other <ℤ value) ⊎
            ((earnings (Thermal g) π other ≡ value) × (schedules_after most other ≤ schedules_after most candidate))) [
              | true ↦ λ yes. let more = better yes in elim (h.first yes other i before) [
                | inl less ↦ inl (omega (arith, ints, more, less))
                | inr r ↦ inl (let as_much = r.0 in omega (arith, ints, more, as_much))
              ]
              | false ↦ λ no. absurd (h.none no other i before)
            ] refl
        | inr same ↦ inr (
          ap (earnings (Thermal g) π) (sym same) ∙ sym is,
          let e = ap (schedules_after most) same in
              omega (arith, e),
        )
      ];
    }

  -- ---- the end

  pub kept_is_least : (s : Schedule) (earned : ℤ) → IsKept g π most 0 true s earned → IsLeast (Thermal g) π s
  kept_is_least s earned h =
      let n = length π.energy in
      let mine = h.earns refl in
      let most_of : (other : Schedule) → IsThermalFeasible g n other →
      earnings (Thermal g) π other ≤ℤ earnings (Thermal g) π s = λ other f.
      elim (h.first refl other f (omega arith)) [
        | inl less ↦ omega (arith, ints, less, mine)
        | inr r ↦
            let as_much = r.0 in omega (arith, ints, as_much, mine)
      ] in
      record {
        best = record { feasible = h.feasible refl; greatest = most_of };
        first = λ other best before.
            let later = before-more most n other s (feasible_counted n other best.feasible)
            (feasible_counted n s (h.feasible refl)) before in
            let as_good = best.greatest s (h.feasible refl) in
            elim (h.first refl other best.feasible (omega arith)) [
              | inl less ↦ omega (arith, ints, less, mine, as_good)
              | inr r ↦ let index = r.1 in omega (arith, index, later)
            ];
      }

-- a number that isn't negative is its size
pub size_of : (z : ℤ) → pos 0 ≤ℤ z → pos (unsigned_abs z) ≡ z
size_of (pos n) h = refl
size_of (negsuc n) h = absurd (omega (arith, ints, h))
