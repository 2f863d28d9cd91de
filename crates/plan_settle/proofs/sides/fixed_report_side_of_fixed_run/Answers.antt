use Rattle.plan_settle.proofs.Common.{ℤ, List, subst, sym, market_of, schedules_of, prices_of, AreTops}
use Rattle.plan_settle.proofs.Lemmas.{bench_over_given, held_lengths, held_side}
use Rattle.plan_settle.proofs.sides.fixed_report_side_of_fixed_run.Goals as goal

pub earn_all-requires-clause-some : goal.earn_all-requires-clause-some
earn_all-requires-clause-some c = (c.args.done.closed.setup.plan, c.requires.feasible.feasible)

pub earn_all-requires-clause-room : goal.earn_all-requires-clause-room
earn_all-requires-clause-room c = c.requires.count

pub earn_all-requires-clause-bench : goal.earn_all-requires-clause-bench
earn_all-requires-clause-bench c =
    let b = c.args.done.closed.setup in
    bench_over_given c.plan_stays_feasible_with_fixed_commitments.ensures (market_of c.args.given.now) b.market b.plan
    c.args.done.bench
    c.args.given.now.valid c.requires.feasible c.requires.held c.requires.ended.bench

pub settle-requires-clause-best : goal.settle-requires-clause-best
settle-requires-clause-best c =
    subst (λ (es : List ℤ). AreTops (market_of c.args.given.now)
    (prices_of c.fixed_report_side_of_finished_board-side.result.prices) es)
    (sym c.as_slice.ensures) c.earn_all.ensures.tops

pub settle-requires-clause-scheduled : goal.settle-requires-clause-scheduled
settle-requires-clause-scheduled c =
    (held_lengths c.settlement_has_entry_for_each_unit.ensures c.plan_stays_feasible_with_fixed_commitments.ensures
    (market_of c.args.given.now)
    c.args.done c.fixed_report_side_of_finished_board-side.result.settlement
    c.args.given.now.valid c.requires.feasible c.requires.ended c.requires.held
    c.fixed_report_side_of_finished_board-side.ensures.settlement).0

pub settle-requires-clause-payments : goal.settle-requires-clause-payments
settle-requires-clause-payments c =
    (held_lengths c.settlement_has_entry_for_each_unit.ensures c.plan_stays_feasible_with_fixed_commitments.ensures
    (market_of c.args.given.now)
    c.args.done c.fixed_report_side_of_finished_board-side.result.settlement
    c.args.given.now.valid c.requires.feasible c.requires.ended c.requires.held
    c.fixed_report_side_of_finished_board-side.ensures.settlement).1

pub returns : goal.returns
returns c =
    let side = held_side c.settled_sides_of_fixed_report_are_right.ensures c.settlement_has_entry_for_each_unit.ensures
    (market_of c.args.given.now) (schedules_of c.plan.result.now) c.args.done
    c.fixed_report_side_of_finished_board-side.result
    c.settle.new.into
    c.requires.feasible c.requires.ended c.plan.ensures.setup c.fixed_report_side_of_finished_board-side.ensures.choice
    c.plan.ensures.plan
    c.settle.ensures.settled in
    record { right = side.0; count = side.1 }
