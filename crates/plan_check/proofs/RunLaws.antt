-- How long a unit has been on or off, and that the tests of the minimum times are the rules.
use Rattle.plan_check.proofs.Common.{◌≡◌, ℕ, zero, suc, ◌+◌, ◌-◌, ◌<◌, ◌≤◌, ◌⊎◌, inl, inr, ℤ, pos, Bool, true, false}
use Rattle.plan_check.proofs.Common.{not, ◌&&◌, cond, Option, Some, None, IsTrue, refl, sym, ap, ◌∙◌, arith, nat_le}
use Rattle.plan_check.proofs.Common.{length, option_and_then, ThermalUnit, Schedule, unless, same_flag, changed_in}
use Rattle.plan_check.proofs.Common.{min_up_broken, min_down_broken, on_in, starts_in, stops_in, IsPeriod, none_some}
use Rattle.plan_check.proofs.Common.{true_or_false}
use Rattle.std.proofs.lemmas.Bool.Decides.{nat_tests}
use Rattle.plan_check.proofs.ToldLaws.{unless_none, unless_holds, if_none, if_holds}

-- ---- flags

pub false_true : false ≡ true → ⊥
false_true h = cc

pub both_true : (a b : Bool) → a && b ≡ true → (a ≡ true) × (b ≡ true)
both_true true b e = (refl, e)
both_true false b e = absurd (false_true e)

pub and_true : (a b : Bool) → a ≡ true → b ≡ true → a && b ≡ true
and_true a b e f = ap (λ t. t && b) e ∙ f

pub not_true : (a : Bool) → not a ≡ true → a ≡ false
not_true true e = absurd (false_true e)
not_true false e = refl

pub same_is : (a b : Bool) → same_flag a b ≡ true → b ≡ a
same_is true b e = e
same_is false b e = not_true b e

pub same_refl : (b : Bool) → same_flag b b ≡ true
same_refl true = refl
same_refl false = refl

differ_is : (a b : Bool) → same_flag a b ≡ false → a ≡ not b
differ_is true true e = absurd (false_true (sym e))
differ_is true false e = refl
differ_is false true e = refl
differ_is false false e = absurd (false_true (sym e))

pub true_false : true ≡ false → ⊥
true_false h = cc

not_both : (b : Bool) → not b ≡ b → ⊥
not_both true h = cc
not_both false h = cc

same_or_not : (a b : Bool) → (a ≡ b) ⊎ (a ≡ not b)
same_or_not a true = true_or_false a
same_or_not true false = inr refl
same_or_not false false = inl refl

opposite : (b : Bool) → same_flag (not b) b ≡ false
opposite true = refl
opposite false = refl

inner_or_last : (j k : ℕ) → j ≤ suc k → (j ≤ k) ⊎ (j ≡ suc k)
inner_or_last j k h = grind arith

le_or_gt : (a b : ℕ) → (a ≤ b) ⊎ (b < a)
le_or_gt a b = grind arith

pub le_from : (a b : ℕ) → nat_le a b ≡ true → a ≤ b
le_from a b h = grind (arith, nat_tests)

pub le_to : (a b : ℕ) → a ≤ b → nat_le a b ≡ true
le_to a b h = grind (arith, nat_tests)

-- ---- the last change

module _ (g : ThermalUnit) (s : Schedule) where
  -- over a run that a change began, the last change is that one
  changed_run : (b : Bool) (m d : ℕ) → on_in g s m ≡ not b → ((j : ℕ) → suc m ≤ j → j ≤ suc m + d → on_in g s j ≡ b) →
      changed_in g s (suc m + d) ≡ Some (suc m)
  changed_run b m zero before on =
      let here = on (suc m) (omega arith) (omega arith) in
      let differ : same_flag (on_in g s m) (on_in g s (suc m)) ≡ false =
      ap (λ t. same_flag t (on_in g s (suc m))) before ∙ ap (same_flag (not b)) here ∙ opposite b in
      let index : suc m + 0 ≡ suc m = omega arith in
      ap (changed_in g s) index ∙ ap (λ t. cond t (changed_in g s m) (Some (suc m))) differ
  changed_run b m (suc d) before on =
      let here = on (suc (suc m + d)) (omega arith) (omega arith) in
      let last = on (suc m + d) (omega arith) (omega arith) in
      let same : same_flag (on_in g s (suc m + d)) (on_in g s (suc (suc m + d))) ≡ true =
      ap (λ t. same_flag t (on_in g s (suc (suc m + d)))) last ∙ ap (same_flag b) here ∙ same_refl b in
      let index : suc m + suc d ≡ suc (suc m + d) = omega arith in
      ap (changed_in g s) index ∙ ap (λ t. cond t (changed_in g s (suc m + d)) (Some (suc (suc m + d)))) same
      ∙ changed_run b m d before (λ j low high. on j low (omega (arith, high)))

  -- what the last change says
  pub record IsRunSince (k c : ℕ) : Type 0 where
    pub before : ℕ
    pub is : c ≡ suc before
    pub reached : suc before ≤ k
    pub changed : on_in g s before ≡ not (on_in g s (suc before))
    pub run : (j : ℕ) → suc before ≤ j → j ≤ k → on_in g s j ≡ on_in g s k

  IsRunSince-changed : (k c : ℕ) → changed_in g s k ≡ Some c → IsRunSince k c
  IsRunSince-changed zero c e = absurd (none_some c e)
  IsRunSince-changed (suc k) c e =
      elim (true_or_false (same_flag (on_in g s k) (on_in g s (suc k)))) [
        | inl same ↦
            let r = IsRunSince-changed k c (sym (ap (λ t. cond t (changed_in g s k) (Some (suc k))) same) ∙ e) in
            let on = same_is (on_in g s k) (on_in g s (suc k)) same in
            record {
              before = r.before;
              is = r.is;
              reached = omega arith;
              changed = r.changed;
              run = λ j low high. elim (inner_or_last j k high) [
                | inl inner ↦ r.run j low inner ∙ sym on
                | inr end ↦
                    ap (on_in g s) end
              ];
            }
        | inr differ ↦
            let c_is : Some (suc k) ≡ Some c = sym (ap (λ t. cond t (changed_in g s k) (Some (suc k))) differ) ∙ e in
            record {
              before = k;
              is = cc;
              reached = omega arith;
              changed = differ_is (on_in g s k) (on_in g s (suc k)) differ;
              run = λ j low high. let end : j ≡ suc k = omega (arith, low, high) in ap (on_in g s) end;
            }
      ]

  -- ---- starts and stops

  pub starts_is : (m : ℕ) → IsTrue (starts_in g s (suc m)) → (on_in g s m ≡ false) × (on_in g s (suc m) ≡ true)
  starts_is m h = let p = both_true (not (on_in g s m)) (on_in g s (suc m)) h in (not_true (on_in g s m) p.0, p.1)

  pub stops_is : (m : ℕ) → IsTrue (stops_in g s (suc m)) → (on_in g s m ≡ true) × (on_in g s (suc m) ≡ false)
  stops_is m h = let p = both_true (on_in g s m) (not (on_in g s (suc m))) h in (p.0, not_true (on_in g s (suc m)) p.1)

  pub starts_from : (m : ℕ) → on_in g s m ≡ false → on_in g s (suc m) ≡ true → IsTrue (starts_in g s (suc m))
  starts_from m a b = and_true (not (on_in g s m)) (on_in g s (suc m)) (ap not a) b

  pub stops_from : (m : ℕ) → on_in g s m ≡ true → on_in g s (suc m) ≡ false → IsTrue (stops_in g s (suc m))
  stops_from m a b = and_true (on_in g s m) (not (on_in g s (suc m))) a (ap not b)

  -- ---- minimum times: what the test clears, and what it tells

  -- of runs of periods that are on, or of periods that are off: where one begins and ends, and how long it is to last
  module _ (b : Bool) (least : ℕ) (begins ends : ℕ → Bool)
      (begun_is : (m : ℕ) → IsTrue (begins (suc m)) → (on_in g s m ≡ not b) × (on_in g s (suc m) ≡ b))
      (begun_from : (m : ℕ) → on_in g s m ≡ not b → on_in g s (suc m) ≡ b → IsTrue (begins (suc m)))
      (ended_is : (m : ℕ) → IsTrue (ends (suc m)) → (on_in g s m ≡ b) × (on_in g s (suc m) ≡ not b))
      (ended_from : (m : ℕ) → on_in g s m ≡ b → on_in g s (suc m) ≡ not b → IsTrue (ends (suc m))) where
    abbrev short_of : ℕ → ℕ → Option (ℤ × ℤ)
    short_of k c = unless (nat_le least (suc k - c)) (pos (suc k - c)) (pos least)

    abbrev broken : ℕ → Option (ℤ × ℤ)
    broken k = cond (ends (suc k)) (option_and_then (λ (c : ℕ). short_of k c) (changed_in g s k)) None

    module _ (clear : (k : ℕ) → k < length s.on → broken k ≡ None) where
      still : (m d : ℕ) → IsTrue (begins (suc m)) → suc d < least → suc m + suc d ≤ length s.on →
          ((j : ℕ) → suc m ≤ j → j ≤ suc m + d → on_in g s j ≡ b) → on_in g s (suc (suc m + d)) ≡ b
      still m d begun short within before =
          elim (same_or_not (on_in g s (suc (suc m + d))) b) [
            | inl as_it_was ↦ as_it_was
            | inr turned ↦
                let k : ℕ = suc m + d in
                let ended = ended_from k (before k (omega arith) (omega arith)) turned in
                let since = changed_run b m d (begun_is m begun).0 before in
                let inner = if_none (ends (suc k)) (option_and_then (λ (c : ℕ). short_of k c) (changed_in g s k))
                (clear k (omega (arith, within))) ended in
                let test = unless_none (nat_le least (suc k - suc m)) (pos (suc k - suc m)) (pos least)
                (sym (ap (option_and_then (λ (c : ℕ). short_of k c)) since) ∙ inner) in
                let long = le_from least (suc k - suc m) test in
                absurd (omega (arith, long, short))
          ]

      run_on : (m d : ℕ) → IsTrue (begins (suc m)) → d < least → suc m + d ≤ length s.on → (j : ℕ) → suc m ≤ j →
          j ≤ suc m + d → on_in g s j ≡ b
      run_on m zero begun short within j low high = let here : j ≡ suc m = omega (arith, low, high) in
          ap (on_in g s) here ∙ (begun_is m begun).1
      run_on m (suc d) begun short within j low high =
          let before = run_on m d begun (omega (arith, short)) (omega (arith, within)) in
          elim (inner_or_last j (suc m + d) (omega (arith, high))) [
            | inl inner ↦ before j low inner
            | inr end ↦ ap (on_in g s) end ∙ still m d begun short within before
          ]

      keeps_run : (m t : ℕ) → IsTrue (begins (suc m)) → suc m ≤ t → t < suc m + least → IsPeriod s t → on_in g s t ≡ b
      keeps_run m t h low high period =
          run_on m (t - suc m) h (omega (arith, low, high)) (omega (arith, low)) t low (omega (arith, low))

    module _ (keeps : (begun t : ℕ) → IsTrue (begins begun) → begun ≤ t → t < begun + least → IsPeriod s t →
        on_in g s t ≡ b) where
      long_enough : (k c : ℕ) → k < length s.on → IsTrue (ends (suc k)) → changed_in g s k ≡ Some c →
          short_of k c ≡ None
      long_enough k c lt ended since =
          let r = IsRunSince-changed k c since in
          let first = r.run (suc r.before) (omega arith) r.reached ∙ (ended_is k ended).0 in
          let begun = begun_from r.before (r.changed ∙ ap not first) first in
          elim (le_or_gt least (suc k - c)) [
            | inl long ↦ unless_holds (nat_le least (suc k - c)) (pos (suc k - c)) (pos least)
                (le_to least (suc k - c) long)
            | inr short ↦
                let here = keeps (suc r.before) (suc k) begun (omega arith) (omega (arith, short))
                (record { from_one = omega arith; to_last = omega (arith, lt) }) in
                absurd (not_both b (sym (ended_is k ended).1 ∙ here))
          ]

      option_clear : (k : ℕ) → k < length s.on → IsTrue (ends (suc k)) → (o : Option ℕ) → changed_in g s k ≡ o →
          option_and_then (λ (c : ℕ). short_of k c) o ≡ None
      option_clear k lt ended None e = refl
      option_clear k lt ended (Some c) e = long_enough k c lt ended e

      clear_run : (k : ℕ) → k < length s.on → broken k ≡ None
      clear_run k lt = if_holds (ends (suc k)) (option_and_then (λ (c : ℕ). short_of k c) (changed_in g s k))
          (λ ended. option_clear k lt ended (changed_in g s k) refl)

  pub keeps_up : ((k : ℕ) → k < length s.on → min_up_broken g s k ≡ None) → (begun t : ℕ) →
      IsTrue (starts_in g s begun) → begun ≤ t → t < begun + g.min_up → IsPeriod s t → on_in g s t ≡ true
  keeps_up clear zero t h low high period = absurd (false_true h)
  keeps_up clear (suc m) t h low high period =
      keeps_run true g.min_up (starts_in g s) (stops_in g s) starts_is starts_from stops_is stops_from clear m t h low
      high period

  pub clear_up : ((begun t : ℕ) → IsTrue (starts_in g s begun) → begun ≤ t → t < begun + g.min_up → IsPeriod s t →
      on_in g s t ≡ true) → (k : ℕ) → k < length s.on → min_up_broken g s k ≡ None
  clear_up = clear_run true g.min_up (starts_in g s) (stops_in g s) starts_is starts_from stops_is stops_from

  pub keeps_down : ((k : ℕ) → k < length s.on → min_down_broken g s k ≡ None) → (begun t : ℕ) →
      IsTrue (stops_in g s begun) → begun ≤ t → t < begun + g.min_down → IsPeriod s t → on_in g s t ≡ false
  keeps_down clear zero t h low high period = absurd (false_true h)
  keeps_down clear (suc m) t h low high period =
      keeps_run false g.min_down (stops_in g s) (starts_in g s) stops_is stops_from starts_is starts_from clear m t h
      low high period

  pub clear_down : ((begun t : ℕ) → IsTrue (stops_in g s begun) → begun ≤ t → t < begun + g.min_down → IsPeriod s t →
      on_in g s t ≡ false) → (k : ℕ) → k < length s.on → min_down_broken g s k ≡ None
  clear_down = clear_run false g.min_down (stops_in g s) (starts_in g s) stops_is stops_from starts_is starts_from
