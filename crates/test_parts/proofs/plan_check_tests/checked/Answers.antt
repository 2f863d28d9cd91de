use Rattle.test_parts.proofs.Common.{◌≡◌, ℕ, IsTrue, true, [], ◌∷◌, length, drop, refl, sym, subst, arith, All}
use Rattle.test_parts.proofs.Common.{slice_index_or, Schedule, Market, HasPlanShape, market_of}
use Rattle.test_parts.proofs.plan_check_tests.checked.Goals as goal

abbrev HasLengths : ℕ → Schedule → Type 0
HasLengths periods s = (length s.on ≡ periods) × (length s.power ≡ periods) × (length s.reserve ≡ periods)

abbrev IsSteady : Schedule → Type 0
IsSteady s = All IsTrue s.on × All (λ (r : ℕ). r ≡ 0) s.reserve

All-one : {X : Type 0} → (P : X → Type 0) (x : X) → P x → All P (x ∷ [])
All-one P x h = λ k d lt. let e : k ≡ 0 = omega (arith, lt) in subst (λ j. P (slice_index_or (x ∷ []) j d)) (sym e) h

shape : (m : Market) (power : ℕ) → m.periods ≡ 1 → length m.thermal ≡ 0 → length m.flat ≡ 1 → length m.bids ≡ 0 →
    HasPlanShape m (record { on = true ∷ []; power = power ∷ []; reserve = 0 ∷ [] } ∷ [])
shape m power p t f b =
    let s : Schedule = record { on = true ∷ []; power = power ∷ []; reserve = 0 ∷ [] } in
    record {
      count = omega (arith, t, f, b);
      lengths = All-one (HasLengths m.periods) s (sym p, sym p, sym p);
      always_on = subst (λ n. All IsSteady (drop n (s ∷ []))) (sym t)
          (All-one IsSteady s (All-one IsTrue true refl, All-one (λ (r : ℕ). r ≡ 0) 0 refl));
    }

pub check_plan-requires : goal.check_plan-requires
check_plan-requires c = subst (HasPlanShape (market_of c.in_ok-case.case)) (sym c.in_ok-plan.ensures)
    (shape (market_of c.in_ok-case.case) c.args.power c.in_ok-case.ensures.periods c.in_ok-case.ensures.thermal
    c.in_ok-case.ensures.flat c.in_ok-case.ensures.bids)
