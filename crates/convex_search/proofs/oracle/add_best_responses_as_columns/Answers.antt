use Rattle.convex_search.proofs.Common.{ℕ, arith, rules, w64, to_z-of_z, ap, ◌∙◌, subst, length, market_of, prices_of}
use Rattle.convex_search.proofs.Common.{schedule_of, IsFeasible, IsPool}
use Rattle.std.proofs.lemmas.List.{length-take, length-append, length-drop}
use Rattle.bundle_columns.proofs.Keeping.{length_more}
use Rattle.bundle_columns.proofs.Pooling.{fit_at}
use Rattle.unit_program.proofs.Lemmas.{answer_top, tops_pushed}
use Rattle.convex_search.proofs.oracle.add_best_responses_as_columns.Goals as goal

pub write_best_response_of_numbered_unit-flow-requires-clause-some :
    goal.write_best_response_of_numbered_unit-flow-requires-clause-some
write_best_response_of_numbered_unit-flow-requires-clause-some c = c.feasible_units_can_answer.ensures
    (market_of c.args.case.now)
    c.requires.some

pub add_answer_as_column-kept-requires-clause-fit : goal.add_answer_as_column-kept-requires-clause-fit
add_answer_as_column-kept-requires-clause-fit c = λ lt.
    let m = market_of c.args.case.now in
    let at = c.write_best_response_of_numbered_unit-flow.ensures.answer in
    let s = schedule_of c.write_best_response_of_numbered_unit-flow.new.into.response in
    fit_at c.unit_numbers_go_by_kind.ensures m c.loop-number.number at.unit s lt at.is
    (subst (λ (n : ℕ). IsFeasible at.unit n s) c.requires.horizon at.fit.best.feasible)

pub loop-number-preserved : goal.loop-number-preserved
loop-number-preserved c =
    let m = market_of c.args.case.now in
    let π = prices_of c.args.prices.now in
    let number = c.loop-number.number in
    let a = c.write_best_response_of_numbered_unit-flow.new.into in
    let at = c.write_best_response_of_numbered_unit-flow.ensures.answer in
    let room = c.loop-number.invariant.room in
    let all = c.loop-number.invariant.earned in
    let spare = c.push.ensures.spare in
    let more = ap length c.push.ensures.items ∙ length_more c.loop-number.oracle.earned.items _ in
    let long = c.deref_mut-in-loop-number.ensures.len in
    let kept = c.add_response_totals.auto.given in
    let rows = c.loop-number.invariant.given in
    record {
      tops = tops_pushed m π number c.loop-number.oracle.earned.items c.push.new.self.items at.unit a.earned
          c.loop-number.invariant.tops at.is (answer_top m π number c.write_best_response_of_numbered_unit-flow.result
          a at)
          (rw (to_z-of_z w64 a.earned (search rules)) at c.push.ensures.items);
      bench = c.write_best_response_of_numbered_unit-flow.ensures.bench;
      answer = c.write_best_response_of_numbered_unit-flow.ensures.into;
      room = omega (arith, room, spare);
      earned = omega (arith, all, spare, more);
      given = simp (length-take, length-append, length-drop) (omega (arith, long, kept, rows));
      pool = subst (λ (n : ℕ). IsPool m n c.add_answer_as_column-kept.new.pool) c.loop-number.invariant.pool.wanted
          c.add_answer_as_column-kept.ensures;
    }
