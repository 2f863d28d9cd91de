-- The last change, one period back; and the tests of the minimum times at the end of a run.
use Rattle.plan_check.proofs.Common.{◌≡◌, ℕ, zero, suc, ◌+◌, ◌-◌, ◌<◌, Bool, true, false, cond, Some, None, refl, sym}
use Rattle.plan_check.proofs.Common.{ap, ◌∙◌, arith, ThermalUnit, Schedule, same_flag, changed_in, min_up_broken}
use Rattle.plan_check.proofs.Common.{min_down_broken, on_in, run_broken, starts_in, stops_in}
use Rattle.plan_check.proofs.RunLaws.{same_refl}

differs : (a b : Bool) → (a ≡ b → ⊥) → same_flag a b ≡ false
differs true true h = absurd (h refl)
differs true false h = refl
differs false true h = refl
differs false false h = absurd (h refl)

module _ (g : ThermalUnit) (s : Schedule) where
  pub changed_here : (t : ℕ) → 0 < t → (on_in g s (t - 1) ≡ on_in g s t → ⊥) → changed_in g s t ≡ Some t
  changed_here zero some h = absurd (omega (arith, some))
  changed_here (suc m) some h =
      let before : suc m - 1 ≡ m = omega arith in
      let d = differs (on_in g s m) (on_in g s (suc m)) (λ e. h (ap (on_in g s) before ∙ e)) in
      ap (λ b. cond b (changed_in g s m) (Some (suc m))) d

  pub changed_back : (t : ℕ) → 0 < t → on_in g s (t - 1) ≡ on_in g s t → changed_in g s t ≡ changed_in g s (t - 1)
  changed_back zero some e = absurd (omega (arith, some))
  changed_back (suc m) some e =
      let before : suc m - 1 ≡ m = omega arith in
      let same : same_flag (on_in g s m) (on_in g s (suc m)) ≡ true =
      ap (same_flag (on_in g s m)) (sym e ∙ ap (on_in g s) before) ∙ same_refl (on_in g s m) in
      ap (λ b. cond b (changed_in g s m) (Some (suc m))) same ∙ ap (changed_in g s) (sym before)

  pub min_up-ends : (k : ℕ) → stops_in g s (suc k) ≡ true →
      min_up_broken g s k ≡ run_broken (changed_in g s k) (k + 1) g.min_up
  min_up-ends k stops =
      let end : suc k ≡ k + 1 = omega arith in
      ap (λ b. cond b (run_broken (changed_in g s k) (suc k) g.min_up) None) stops ∙
      ap (λ e. run_broken (changed_in g s k) e g.min_up) end

  pub min_up-none : (k : ℕ) → stops_in g s (suc k) ≡ false → min_up_broken g s k ≡ None
  min_up-none k goes_on = ap (λ b. cond b (run_broken (changed_in g s k) (suc k) g.min_up) None) goes_on

  pub min_down-ends : (k : ℕ) → starts_in g s (suc k) ≡ true →
      min_down_broken g s k ≡ run_broken (changed_in g s k) (k + 1) g.min_down
  min_down-ends k starts =
      let end : suc k ≡ k + 1 = omega arith in
      ap (λ b. cond b (run_broken (changed_in g s k) (suc k) g.min_down) None) starts ∙
      ap (λ e. run_broken (changed_in g s k) e g.min_down) end

  pub min_down-none : (k : ℕ) → starts_in g s (suc k) ≡ false → min_down_broken g s k ≡ None
  min_down-none k goes_on = ap (λ b. cond b (run_broken (changed_in g s k) (suc k) g.min_down) None) goes_on
