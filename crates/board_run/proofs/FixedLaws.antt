-- The second run of `hull fixed`: its terms.
use Rattle.board_run.proofs.Common.{◌≡◌, ℕ, ◌*◌, ◌≤◌, sym, ap, ◌∙◌, subst, IsSetup, Setup, Market, IsFeasiblePlan}
use Rattle.plain_lists.specs.declared.limits.TheConstants.{MOST_WORK}
use Rattle.plan_settle.specs.FixedCase.{fixed_market}
use Rattle.plan_settle.specs.HeldLaws.{PlanStaysFeasibleWithFixedCommitments}
use Rattle.right_report.specs.declared.side.Side.{Side}
use Rattle.plan_settle.specs.Compared.{IsPaidSide, IsFixedSide, held_setup}

-- what its board is made for
pub held_is_setup : PlanStaysFeasibleWithFixedCommitments → (b : Setup) → IsSetup b → IsSetup (held_setup b)
held_is_setup law b S =
    let fixing = law b.market b.plan S.market S.feasible in
    record {
      market = fixing.market;
      feasible = fixing.feasible;
      cost = S.cost ∙ sym fixing.cost;
      some_budget = S.some_budget;
      budget = S.budget;
      some_ahead = S.some_ahead;
      ahead = S.ahead;
      some_caller = S.some_caller;
      callers = S.callers;
      size = subst (λ (k : ℕ). b.budget * k * b.market.periods ≤ MOST_WORK) (sym fixing.count) S.size;
    }

-- the run with commitments held, on the terms that the first run gave back
module _ (law : PlanStaysFeasibleWithFixedCommitments) (b back held : Setup) (given : Market) (setup : IsSetup b)
    (same : back ≡ b)
    (own : given ≡ back.market) (is_held : held ≡ held_setup back) where
  setup_back : IsSetup back
  setup_back = subst IsSetup (sym same) setup

  pub held_setup_is : IsSetup held
  held_setup_is = subst IsSetup (sym is_held) (held_is_setup law back setup_back)

  pub held_feasible : IsFeasiblePlan given held.plan
  held_feasible = subst (λ (m : Market). IsFeasiblePlan m held.plan) (sym own)
      (subst (λ (x : Setup). IsFeasiblePlan back.market x.plan) (sym is_held) setup_back.feasible)

  pub held_market : held.market ≡ fixed_market given held.plan
  held_market = subst (λ (x : Setup). x.market ≡ fixed_market given x.plan) (sym is_held)
      (ap (λ (m : Market). fixed_market m back.plan) (sym own))

  pub fixed_side_is : (s : Side) → IsPaidSide given held s → IsFixedSide b s
  fixed_side_is s paid =
      subst (λ (x : Setup). IsFixedSide x s) same (subst (λ (m : Market). IsPaidSide m (held_setup back) s) own
      (subst (λ (x : Setup). IsPaidSide given x s) is_held paid))
