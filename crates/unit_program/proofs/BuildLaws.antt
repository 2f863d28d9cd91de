-- Spells and times off, one after another, make a feasible schedule, whose cost is the sum of theirs.
use Rattle.unit_program.proofs.Common.{◌≡◌, ℕ, zero, suc, ◌<◌, ◌≤◌, true, false, not, inl, inr, ℤ, pos, neg_ℤ, ◌+ℤ◌}
use Rattle.unit_program.proofs.Common.{◌-ℤ◌, ◌≤ℤ◌, length}
use Rattle.unit_program.proofs.Common.{refl, ap, ◌∙◌, arith, signed, IsTrue, IsFalse, cases_Bool, cases_lt, and_parts}
use Rattle.unit_program.proofs.Common.{not-true}
use Rattle.unit_program.proofs.Common.{ThermalUnit, Thermal, PriceLists, Schedule, on_in, above_min}
use Rattle.unit_program.proofs.Common.{above_with_reserve, reserve_in, starts_in, stops_in, time_down, cap_of, IsPeriod}
use Rattle.unit_program.proofs.Common.{IsSchedule, KeepsDispatch, start_cost_of, earnings, IsThermalFeasible, IsStep}
use Rattle.unit_program.proofs.Common.{IsDispatch, spell_cost, IsSpell, IsOffRun, IsGap}
use Rattle.unit_program.proofs.Common.{start_cost_after, paid, IsDispatchStep, MayStop, IsUpTo, IsIdle}
use Rattle.unit_program.proofs.CommitLaws.{rules_from_steps}
use Rattle.unit_program.proofs.CostLaws.{earnings-paid}
use Rattle.unit_program.proofs.SpellLaws.{IsRun, above-on, above-off, off_time-same}
use Rattle.unit_program.proofs.ShapeLaws.{IsOffAfter, begun, run_known, rest_known}

module _ (g : ThermalUnit) (π : PriceLists) (periods : ℕ) (s : Schedule)
    (ramp_up : pos 0 ≤ℤ g.ramp_up) (ramp_down : pos 0 ≤ℤ g.ramp_down) where
  -- ---- steps of each kind

  module _ (k : ℕ) where
    down_step : IsFalse (on_in g s (suc k)) → reserve_in s (suc k) ≡ pos 0 → (IsTrue (on_in g s k) → MayStop g s k) →
        IsDispatchStep g s k
    down_step after none may =
        let b = above-off g s (suc k) after in
        let ramps : ((above_with_reserve g s (suc k) -ℤ above_min g s k) ≤ℤ g.ramp_up) ×
        ((above_min g s k -ℤ above_min g s (suc k)) ≤ℤ g.ramp_down) = elim (cases_Bool (on_in g s k)) [
          | inl here ↦ let a = above-on g s k here in let stop = may here in (omega signed, omega signed)
          | inr here ↦ let a = above-off g s k here in (omega signed, omega signed)
        ] in
        record {
          least = λ on. cc;
          greatest = λ on. cc;
          start = λ st. (let on = (and_parts (not (on_in g s k)) (on_in g s (suc k)) st).1 in cc);
          stop = λ one st.
              let here = (and_parts (on_in g s k) (not (on_in g s (suc k))) st).0 in
              let a = above-on g s k here in
              let cap = (may here).cap one in
              omega signed;
          stop_at_once = λ none st. (may (and_parts (on_in g s k) (not (on_in g s (suc k))) st).0).cap_at_once none;
          ramp_up = ramps.0;
          ramp_down = ramps.1;
        }

    up_step : (f l : ℕ) → IsTrue (on_in g s (suc k)) → IsDispatch g periods f l s → IsRun g s f l → f ≤ suc k →
        suc k ≤ l → IsDispatchStep g s k
    up_step f l after d run from until =
        let b = above-on g s (suc k) after in
        let least = d.least (suc k) (omega arith) from until in
        let greatest = d.greatest (suc k) (omega arith) from until in
        let stops : IsTrue (stops_in g s (suc k)) → ⊥ = λ st.
        let off = not-true (on_in g s (suc k)) (and_parts (on_in g s k) (not (on_in g s (suc k))) st).1 in cc in
        elim (cases_lt k f) [
          | inl first ↦
              let begins : f ≡ suc k = omega arith in
              let a = above-off g s k (run.before k begins) in
              let start = rw begins at (d.start (omega arith)) in
              let enter = rw begins at (d.enter (omega arith)) in
              record {
                least = λ _. omega signed;
                greatest = λ _. omega signed;
                start = λ _. omega signed;
                stop = λ _ st. absurd (stops st);
                stop_at_once = λ _ st. absurd (stops st);
                ramp_up = omega signed;
                ramp_down = omega signed;
              }
          | inr later ↦
              let here = run.on k later (omega arith) in
              let a = above-on g s k here in
              let up = d.ramp_up k later until in
              let down = d.ramp_down k later until in
              record {
                least = λ _. omega signed;
                greatest = λ _. omega signed;
                start = λ st. let no = rw here at st in cc;
                stop = λ _ st. absurd (stops st);
                stop_at_once = λ _ st. absurd (stops st);
                ramp_up = omega signed;
                ramp_down = omega signed;
              }
        ]

  abbrev IsRight : ℕ → Type 0
  IsRight k = IsStep g s k × IsDispatchStep g s k

  -- ---- a time off

  module _ (l : ℕ) (v : ℤ) (up : IsUpTo g π periods s l v) (end : ℕ) (low : end ≤ periods) (run : IsOffRun g l end)
      (idle : IsIdle g s l end) where
    off_right : (k : ℕ) → l ≤ k → k < end → IsRight k
    off_right k from until =
        let after = idle.off (suc k) (omega arith) until in
        let none = idle.reserve (suc k) (omega arith) until in
        let may : IsTrue (on_in g s k) → MayStop g s k = λ on. elim (cases_lt l k) [
          | inl above ↦ let off = idle.off k above (omega arith) in cc
          | inr most ↦
              let z : l ≡ k = omega arith in
              let there : IsUpTo g π periods s k v = rw z at up in
              there.stops (omega arith) on
        ] in (
          record {
            must_run = λ must. (let under = run.must_run must in absurd (omega arith));
            stop = λ here _. (may here).min_up;
            start = λ here on. cc;
            must_on = λ mark. absurd (run.marks (suc k) (omega arith) until mark);
            must_off = λ mark. after;
          },
          down_step k after none may,
        )

    right_to : (k : ℕ) → k < end → IsRight k
    right_to k below =
        elim (cases_lt k l) [ inl less ↦ (up.steps k less, up.dispatch k less) | inr from ↦ off_right k from below ]

    rest_of : IsFalse (on_in g s end) → IsOffAfter g s l end
    rest_of off = record { order = run.order; off = idle.off; here = off; on = up.on }

  -- ---- a spell

  module _ (f l : ℕ) (spell : IsSpell g periods f l) (run : IsRun g s f l) (d : IsDispatch g periods f l s)
      (before : (k : ℕ) → suc k < f → IsRight k) (long : (k : ℕ) → f ≡ suc k → g.min_down ≤ time_down g s k) where
    run_right : (k : ℕ) → k < l → IsRight k
    run_right k low = elim (cases_lt (suc k) f) [
      | inl below ↦ before k below
      | inr from ↦
          let after = run.on (suc k) from low in (
            record {
              must_run = λ must. after;
              stop = λ _ off. cc;
              start = λ off _. elim (cases_lt k f) [
                | inl first ↦ long k (omega arith)
                | inr later ↦ let on = run.on k later (omega arith) in cc
              ];
              must_on = λ mark. after;
              must_off = λ mark. absurd (spell.marks (suc k) (omega arith) from low mark);
            },
            up_step k f l after d run from low,
          )
    ]

    up_to : (v : ℤ) → begun g s π f +ℤ spell_cost g π f l s ≡ v → IsUpTo g π periods s l v
    up_to v cost = record {
      steps = λ k low. (run_right k low).0;
      dispatch = λ k low. (run_right k low).1;
      on = λ one. run.on l run.order (omega arith);
      stops = λ inside here. record {
        min_up = (let least = spell.min_up inside in let time = (run_known g s π f l run).0 in omega arith);
        cap = d.stop inside;
        cap_at_once = d.stop_at_once inside;
        down = d.leave inside;
        up = elim (cases_lt 0 l) [
          | inl one ↦ let least = d.least l one run.order (omega arith) in omega signed
          | inr none ↦ d.leave_at_once inside (omega arith)
        ];
      };
      cost = (run_known g s π f l run).1 ∙ cost;
    }

  -- ---- one after another

  -- off since before the horizon
  pub up_to_idle : IsFalse g.on0 → IsUpTo g π periods s 0 (pos 0)
  up_to_idle off = record {
    steps = λ k low. absurd (omega arith);
    dispatch = λ k low. absurd (omega arith);
    on = λ one. absurd (omega arith);
    stops = λ inside on. cc;
    cost = refl;
  }

  -- a spell that goes on from before the horizon
  pub up_to_first : (f l : ℕ) (v : ℤ) → f ≡ 0 → IsSpell g periods f l →
      ((t : ℕ) → 1 ≤ t → f ≤ t → t ≤ l → IsTrue (on_in g s t)) → IsDispatch g periods f l s →
      spell_cost g π f l s ≡ v → IsUpTo g π periods s l v
  up_to_first f l v none spell on d cost =
      let all_ : (t : ℕ) → f ≤ t → t ≤ l → IsTrue (on_in g s t) = λ t from until. elim (cases_lt 0 t) [
        | inl one ↦ on t one from until
        | inr most ↦ let z : t ≡ 0 = omega arith in rw z (spell.goes_on none)
      ] in
      let run : IsRun g s f l = record { order = spell.order; on = all_; before = λ k is. absurd (omega arith) } in
      let free : begun g s π f ≡ pos 0 = rw none in
      up_to f l spell run d (λ k low. absurd (omega arith)) (λ k is. absurd (omega arith)) v (omega signed)

  -- a time off and a spell after what is right up to period l
  pub up_to_next : (f l k m : ℕ) (v w : ℤ) → f ≡ suc k → IsUpTo g π periods s l v → IsGap g l k → 1 ≤ g.min_down →
      IsIdle g s l k → IsSpell g periods f m → ((t : ℕ) → f ≤ t → t ≤ m → IsTrue (on_in g s t)) →
      IsDispatch g periods f m s → (v +ℤ start_cost_after g l k) +ℤ spell_cost g π f m s ≡ w → IsUpTo g π periods s m w
  up_to_next f l k m v w is up gap some idle spell on d cost =
      let off : IsFalse (on_in g s k) = elim (cases_Bool (on_in g s k)) [
        | inr off ↦ off
        | inl here ↦ elim (cases_lt l k) [
          | inl more ↦ idle.off k more (omega arith)
          | inr most ↦
              let z : l ≡ k = omega arith in
              let none = off_time-same g s k here in
              let down = rw z at gap.min_down in
              absurd (omega arith)
        ]
      ] in
      let rest = rest_of l v up k (omega arith) gap.off idle off in
      let known = rest_known g s π l k rest in
      let time = known.0 in
      let start : start_cost_of g.lags (time_down g s k) ≡ start_cost_after g l k = ap (start_cost_of g.lags) time in
      let before : (j : ℕ) → suc j < f → IsRight j = λ j low.
      right_to l v up k (omega arith) gap.off idle j (omega arith) in
      let run : IsRun g s f m =
      record { order = spell.order; on = on; before = λ j at. let z : j ≡ k = omega arith in rw z off } in
      let begins : begun g s π f ≡ paid g π s k +ℤ start_cost_of g.lags (time_down g s k) = rw is in
      up_to f m spell run d before (λ j at. let z : j ≡ k = omega arith in rw z (omega arith)) w (omega signed)

  -- ---- to the end

  module _ (is : length s.on ≡ periods) (dispatch : (k : ℕ) → k < periods → IsDispatchStep g s k) where
    dispatch_of : (P : ℕ → Type 0) → ((k : ℕ) → IsDispatchStep g s k → P (suc k)) → (t : ℕ) → IsPeriod s t → P t
    dispatch_of P f zero period = absurd (omega arith)
    dispatch_of P f (suc k) period = f k (dispatch k (omega arith))

    keeps_dispatch : KeepsDispatch g s
    keeps_dispatch = record {
      least = dispatch_of (λ t. IsTrue (on_in g s t) → pos 0 ≤ℤ above_min g s t) (λ k st. st.least);
      greatest = dispatch_of (λ t. IsTrue (on_in g s t) → above_with_reserve g s t ≤ℤ cap_of g false false)
          (λ k st. st.greatest);
      start = dispatch_of (λ t. IsTrue (starts_in g s t) → above_with_reserve g s t ≤ℤ cap_of g true false)
          (λ k st. st.start);
      stop = λ t period next. (dispatch t (omega arith)).stop period.from_one;
      stop_at_once = λ one. (dispatch 0 (omega arith)).stop_at_once refl;
      ramp_up = λ k period. (dispatch k (omega arith)).ramp_up;
      ramp_down = λ k period. (dispatch k (omega arith)).ramp_down;
    }

  -- a schedule that is right up to period l and off after it is feasible and earns what it costs, turned round
  pub right_of : (l : ℕ) (v : ℤ) → IsSchedule periods s → IsUpTo g π periods s l v →
      IsOffRun g l periods → IsIdle g s l periods → IsThermalFeasible g periods s × (earnings (Thermal g) π s ≡ neg_ℤ v)
  right_of l v schedule up run idle =
      let is = schedule.on in
      let steps = right_to l v up periods (omega arith) run idle in
      let cost : paid g π s periods ≡ v = elim (cases_Bool (on_in g s periods)) [
        | inr off ↦ (rest_known g s π l periods (rest_of l v up periods (omega arith) run idle off)).1 ∙ up.cost
        | inl on ↦ elim (cases_lt l periods) [
          | inl more ↦ let off = idle.off periods more (omega arith) in cc
          | inr most ↦ let z : periods ≡ l = omega arith in rw z up.cost
        ]
      ] in (
        record {
          schedule = schedule;
          commitment = rules_from_steps g s (λ k low. (steps k (omega arith)).0);
          dispatch = keeps_dispatch is (λ k low. (steps k low).1);
        },
        earnings-paid g π s periods schedule ∙ ap neg_ℤ cost,
      )
