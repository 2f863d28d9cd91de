use Rattle.report_compare.proofs.Common.{ℕ, Ok, Err, List, map, arith, subst, length-map, err_from_is_err_and, Schedule}
use Rattle.report_compare.proofs.Common.{units, market_of, prices_of, schedule_of, Fits, told_of, Compares, told_lines}
use Rattle.report_compare.proofs.Common.{Title, answers_of, idle, titles}
use Rattle.report_compare.proofs.Lemmas.{read_item, zip_at, titles_length, units_step, units_stop, units_end, due_lines}
use Rattle.report_compare.proofs.units.compare_units.Goals as goal

pub returns-in_err-line-clause-lines : goal.returns-in_err-line-clause-lines
returns-in_err-line-clause-lines c = λ (responses : List Schedule) fits.
    let m = market_of c.args.case.now in
    let number = c.loop-number.number in
    let mine = c.index-lines-number.result in
    let a = answers_of c.args.compare_room.now.earned.items c.args.compare_room.now.settlement responses in
    let t : Title = record { kind = c.title_of_unit-title.result.kind; name = c.title_of_unit-title.result.name.now } in
    let at = c.write_best_response_of_numbered_unit.ensures.answer in
    let same = c.least_best_schedule_is_unique.ensures at.unit (prices_of c.args.prices.now)
    (schedule_of c.write_best_response_of_numbered_unit.new.into.response) _ at.fit
    (zip_at (λ u s. Fits u (prices_of c.args.prices.now) s) (units m) responses number at.unit idle fits at.is)
    in
    let due = due_lines a number t.kind t.name _ _ _ _
    (rw c.loop-number.invariant.earned at c.earnings_and_payment_of_unit-owed.ensures.earned)
    (rw c.loop-number.invariant.settlement at c.earnings_and_payment_of_unit-owed.ensures.scheduled)
    (rw c.loop-number.invariant.settlement at c.earnings_and_payment_of_unit-owed.ensures.payment) same in
    let p = err_from_is_err_and c.from_residual.result c.from_residual.ensures.1 in
    rw (p.1, p.2)
    (c.loop-number.invariant.rest responses fits (Err c.in_err-line.field-0.0)
    (units_stop a c.loop-number.line c.in_err-line.field-0.0 number (map told_of c.args.lines.now) (titles m)
    (told_of mine) t
    (read_item told_of c.args.lines.now number mine c.loop-number-test.true c.index-lines-number.is)
    c.title_of_unit-title.ensures
    (subst (λ (z : List (List ℕ)). Compares c.loop-number.line (Err c.in_err-line.field-0.0) (told_lines (told_of mine))
    z) due c.in_err-line.ensures.lines)))

pub loop-number-preserved : goal.loop-number-preserved
loop-number-preserved c =
    let m = market_of c.args.case.now in
    let number = c.loop-number.number in
    let mine = c.index-lines-number.result in
    let t : Title = record { kind = c.title_of_unit-title.result.kind; name = c.title_of_unit-title.result.name.now } in
    let at = c.write_best_response_of_numbered_unit.ensures.answer in
    let known = c.in_ok-line.ensures in
    let few = known.few in
    let line = c.loop-number.invariant.line in
    record {
      rest = λ (responses : List Schedule) fits result h.
          let a = answers_of c.args.compare_room.now.earned.items c.args.compare_room.now.settlement responses in
          let same = c.least_best_schedule_is_unique.ensures at.unit (prices_of c.args.prices.now)
          (schedule_of c.write_best_response_of_numbered_unit.new.into.response) _ at.fit
          (zip_at (λ u s. Fits u (prices_of c.args.prices.now) s) (units m) responses number at.unit idle fits
          at.is) in
          let due = due_lines a number t.kind t.name _ _ _ _
          (rw c.loop-number.invariant.earned at c.earnings_and_payment_of_unit-owed.ensures.earned)
          (rw c.loop-number.invariant.settlement at c.earnings_and_payment_of_unit-owed.ensures.scheduled)
          (rw c.loop-number.invariant.settlement at c.earnings_and_payment_of_unit-owed.ensures.payment) same in
          c.loop-number.invariant.rest responses fits result
          (units_step a c.loop-number.line c.in_ok-line.line result number (map told_of c.args.lines.now) (titles m)
          (told_of mine) t
          (read_item told_of c.args.lines.now number mine c.loop-number-test.true c.index-lines-number.is)
          c.title_of_unit-title.ensures
          (subst (λ (z : List (List ℕ)). Compares c.loop-number.line (Ok c.in_ok-line.line) (told_lines (told_of mine))
          z) due known.lines) h);
      compare_room = record {
        bench = c.write_best_response_of_numbered_unit.ensures.bench;
        answer = c.write_best_response_of_numbered_unit.ensures.into;
        earned = c.loop-number.invariant.compare_room.earned;
        scheduled = c.loop-number.invariant.compare_room.scheduled;
        payments = c.loop-number.invariant.compare_room.payments;
      };
      earned = c.loop-number.invariant.earned;
      settlement = c.loop-number.invariant.settlement;
      line = omega (arith, few, line);
    }

pub returns-clause-lines : goal.returns-clause-lines
returns-clause-lines c = λ (responses : List Schedule) fits.
    let m = market_of c.args.case.now in
    let number = c.loop-number.number in
    let done = c.loop-number-test.false in
    let count = c.requires.lines in
    let mine = length-map c.args.lines.now told_of in
    let right = titles_length m in
    c.loop-number.invariant.rest responses fits (Ok c.loop-number.line)
    (units_end (answers_of c.args.compare_room.now.earned.items c.args.compare_room.now.settlement responses)
    c.loop-number.line number
    (map told_of c.args.lines.now) (titles m) (omega (arith, done, mine)) (omega (arith, done, count, right)))

pub write_best_response_of_numbered_unit-requires-clause-some :
    goal.write_best_response_of_numbered_unit-requires-clause-some
write_best_response_of_numbered_unit-requires-clause-some c = c.feasible_units_can_answer.ensures
    (market_of c.args.case.now) c.requires.some
