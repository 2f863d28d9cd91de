use Rattle.unit_program.proofs.Common.{rules, w64, arith, market_of, prices_of}
use Rattle.std.proofs.lemmas.Int.{to_z-of_z}
use Rattle.unit_program.proofs.Lemmas.{answer_top, tops_pushed}
use Rattle.unit_program.proofs.earn.earn_all.Goals as goal

pub loop-number-preserved : goal.loop-number-preserved
loop-number-preserved c =
    let m = market_of c.args.case.now in
    let π = prices_of c.args.prices.now in
    let number = c.loop-number.number in
    let a = c.write_best_response_of_numbered_unit.new.into in
    let at = c.write_best_response_of_numbered_unit.ensures.answer in
    let room = c.loop-number.invariant.room in
    let spare = c.push.ensures.spare in
    record {
      tops = tops_pushed m π number c.loop-number.into.items c.push.new.self.items at.unit a.earned
          c.loop-number.invariant.tops at.is (answer_top m π number c.write_best_response_of_numbered_unit.result a at)
          (rw (to_z-of_z w64 a.earned (search rules)) at c.push.ensures.items);
      bench = c.write_best_response_of_numbered_unit.ensures.bench;
      buffer = c.write_best_response_of_numbered_unit.ensures.into;
      room = omega (arith, room, spare);
    }

pub write_best_response_of_numbered_unit-requires-clause-some :
    goal.write_best_response_of_numbered_unit-requires-clause-some
write_best_response_of_numbered_unit-requires-clause-some c = c.feasible_units_can_answer.ensures
    (market_of c.args.case.now) c.requires.some
