-- The sides of `hull fixed`.
use Rattle.plan_settle.proofs.Common.{◌≡◌, List, length, sym, ap, ◌∙◌, subst, same_Some, All, IsSetup, Content, Market}
use Rattle.plan_settle.proofs.Common.{PriceLists, Schedule, unit_count, IsMarket, prices_of, Proposal, IsFeasiblePlan}
use Rattle.plan_settle.proofs.Common.{IsSettled, Settlement, IsBenchOver, SettlementHasEntryForEachUnit, IsEnded}
use Rattle.uc_model.specs.declared.units.Point.{Point}
use Rattle.unit_program.specs.Benches.{IsBenchFor}
use Rattle.unit_program.specs.declared.bench.Bench.{Bench}
use Rattle.plan_settle.specs.FixedCase.{fixed_market}
use Rattle.plan_settle.specs.HeldLaws.{PlanStaysFeasibleWithFixedCommitments}
use Rattle.right_report.specs.RightSide.{told_of, IsRightSide, TellsChoice, SettledSidesOfFixedReportAreRight}
use Rattle.right_report.specs.declared.side.Side.{Side}
use Rattle.plan_settle.specs.declared.done.Done.{Done}

-- ---- the bench of a run

-- a bench for the case that a run was of suffices for the case whose commitments it holds
pub bench_over_given : PlanStaysFeasibleWithFixedCommitments → (given held : Market) (plan : List Schedule) (b : Bench)
    → IsMarket given →
    IsFeasiblePlan given plan → held ≡ fixed_market given plan → IsBenchOver held b → IsBenchOver given b
bench_over_given law given held plan b limits feasible same h =
    subst (λ (pss : List (List Point)). All (λ (ps : List Point). IsBenchFor given.periods (length ps) b) pss)
    (law given plan limits feasible).points
    (subst (λ (m : Market). IsBenchOver m b) same h)

-- ---- the side of a run

settlement_at : (m : Market) (plan : List Schedule) (π ρ : PriceLists) (s t : Settlement) → π ≡ ρ → s ≡ t →
    IsSettled m plan π s.scheduled.items s.payments.items s.surplus s.total →
    IsSettled m plan ρ t.scheduled.items t.payments.items t.surplus t.total
settlement_at m plan π ρ s t e f h =
    subst (λ (x : Settlement). IsSettled m plan ρ x.scheduled.items x.payments.items x.surplus x.total) f
    (subst (λ (p : PriceLists). IsSettled m plan p s.scheduled.items s.payments.items s.surplus s.total) e h)

-- a run that has ended, with what it chose, is a right side
pub own_right : SettledSidesOfFixedReportAreRight → SettlementHasEntryForEachUnit → (d : Done) (s : Side) → IsEnded
    d.closed.setup d →
    IsSetup d.closed.setup → TellsChoice d.closed s → s.settlement ≡ d.settlement
    → IsRightSide d.closed.setup.market d.closed.setup.market d.closed.setup.plan d.closed.setup.budget
    d.closed.setup.ahead (told_of s) × (length s.settlement.payments.items ≡ unit_count d.closed.setup.market)
own_right right lengths d s ended setup choice same =
    let c = d.closed in
    let row = same_Some ended.row choice.row (sym ended.settled.chosen ∙ choice.is_chosen) in
    let prices : ended.row.prices ≡ prices_of s.prices = ap (λ (r : Proposal). r.prices) row ∙ sym choice.prices in
    let settled = settlement_at c.setup.market c.setup.plan ended.row.prices (prices_of s.prices) d.settlement
    s.settlement prices (sym same) ended.settled.settled in (
      right c.setup.market c s setup ended.settled.legal ended.settled.finished choice settled,
      (lengths c.setup.market c.setup.plan (prices_of s.prices) s.settlement.scheduled.items s.settlement.payments.items
          s.settlement.surplus s.settlement.total ended.settled.feasible settled).1,
    )

-- the schedule of a record, settled at what the record chose, is a right side of the case as given
pub held_right : SettledSidesOfFixedReportAreRight → SettlementHasEntryForEachUnit → (given : Market) (d : Done)
    (s : Side) →
    IsFeasiblePlan given d.closed.setup.plan → IsEnded d.closed.setup d → IsSetup d.closed.setup
    → TellsChoice d.closed s → IsSettled given d.closed.setup.plan (prices_of s.prices) s.settlement.scheduled.items
    s.settlement.payments.items s.settlement.surplus s.settlement.total
    → IsRightSide given d.closed.setup.market d.closed.setup.plan d.closed.setup.budget d.closed.setup.ahead
    (told_of s) × (length s.settlement.payments.items ≡ unit_count given)
held_right right lengths given d s feasible ended setup choice settled =
    let c = d.closed in (
      right given c s setup ended.settled.legal ended.settled.finished choice settled,
      (lengths given c.setup.plan (prices_of s.prices) s.settlement.scheduled.items s.settlement.payments.items
          s.settlement.surplus s.settlement.total feasible settled).1,
    )

choice_stays : (c : Content) (s : Side) (t : Settlement) → TellsChoice c s → TellsChoice c (record s { settlement = t })
choice_stays c s t h = record {
  proposals = h.proposals;
  chosen = h.chosen;
  row = h.row;
  is_chosen = h.is_chosen;
  value = h.value;
  prices = h.prices;
}

-- the same where the settlement of the side has just been written
pub held_side : SettledSidesOfFixedReportAreRight → SettlementHasEntryForEachUnit →
    (given : Market) (plan : List Schedule) (d : Done) (s : Side) (t : Settlement) →
    IsFeasiblePlan given d.closed.setup.plan → IsEnded d.closed.setup d → IsSetup d.closed.setup
    → TellsChoice d.closed s → plan ≡ d.closed.setup.plan →
    IsSettled given plan (prices_of s.prices) t.scheduled.items t.payments.items t.surplus t.total
    → IsRightSide given d.closed.setup.market d.closed.setup.plan d.closed.setup.budget d.closed.setup.ahead
    (told_of (record s { settlement = t })) × (length t.payments.items ≡ unit_count given)
held_side right lengths given plan d s t feasible ended setup choice same settled =
    held_right right lengths given d (record s { settlement = t }) feasible ended setup
    (choice_stays d.closed s t choice)
    (subst (λ (p : List Schedule). IsSettled given p (prices_of s.prices) t.scheduled.items t.payments.items t.surplus
    t.total) same settled)

-- a settlement of the run with commitments held has a number for each unit of the case as given
pub held_lengths : SettlementHasEntryForEachUnit → PlanStaysFeasibleWithFixedCommitments → (given : Market) (d : Done)
    (t : Settlement) →
    IsMarket given → IsFeasiblePlan given d.closed.setup.plan → IsEnded d.closed.setup d
    → d.closed.setup.market ≡ fixed_market given d.closed.setup.plan → t ≡ d.settlement →
    (length t.scheduled.items ≡ unit_count given) × (length t.payments.items ≡ unit_count given)
held_lengths lengths law given d t limits feasible ended held same =
    let c = d.closed in
    let own = d.settlement in
    let long = lengths c.setup.market c.setup.plan ended.row.prices own.scheduled.items own.payments.items own.surplus
    own.total ended.settled.feasible ended.settled.settled in
    let count = ap unit_count held ∙ (law given c.setup.plan limits feasible).count in
    subst (λ (x : Settlement). (length x.scheduled.items ≡ unit_count given) ×
    (length x.payments.items ≡ unit_count given)) (sym same) (long.0 ∙ count, long.1 ∙ count)
