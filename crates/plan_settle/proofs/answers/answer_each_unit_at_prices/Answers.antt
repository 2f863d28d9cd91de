use Rattle.plan_settle.proofs.Common.{◌≡◌, ◌∷◌, [], length, map, List, ap, ◌∙◌, subst, arith, rules, w64, FitsSigned}
use Rattle.plan_settle.proofs.Common.{to_z-of_z, length-append, map_push, All, market_of, prices_of, schedule_of}
use Rattle.plan_settle.proofs.Common.{Answered}
use Rattle.plan_settle.proofs.Answered.{answers_more, popped}
use Rattle.plan_settle.proofs.answers.answer_each_unit_at_prices.Goals as goal

pub write_best_response_of_numbered_unit-requires-clause-some :
    goal.write_best_response_of_numbered_unit-requires-clause-some
write_best_response_of_numbered_unit-requires-clause-some c = c.feasible_units_can_answer.ensures
    (market_of c.args.case.now) c.requires.some

pub write_best_response_of_numbered_unit-requires-clause-into :
    goal.write_best_response_of_numbered_unit-requires-clause-into
write_best_response_of_numbered_unit-requires-clause-into c =
    let P : Answered → Type 0 = λ a. length (schedule_of a.response).on ≡ (market_of c.args.case.now).periods in
    (popped P c.pop.new.self.items c.in-Some.answer
    (subst (λ (xs : List Answered). All P xs) c.in-Some.ensures.items c.loop-number.invariant.periods)).1

pub loop-number-preserved : goal.loop-number-preserved
loop-number-preserved c =
    let m = market_of c.args.case.now in
    let π = prices_of c.args.prices.now in
    let P : Answered → Type 0 = λ a. length (schedule_of a.response).on ≡ (market_of c.args.case.now).periods in
    let a = c.write_best_response_of_numbered_unit.new.into in
    let f : FitsSigned w64 a.earned = search rules in
    let earned = rw (to_z-of_z w64 a.earned f) at c.push.ensures.items in
    let responses = ap (map schedule_of) c.push-in-loop-number.ensures.items ∙
    map_push schedule_of c.loop-number.responses.items a.response in
    let spare = c.push.ensures.spare in
    let response_spare = c.push-in-loop-number.ensures.spare in
    let room = c.loop-number.invariant.earned_room in
    let response_room = c.loop-number.invariant.response_room in
    let shorter = ap length c.in-Some.ensures.items ∙ length-append c.pop.new.self.items (c.in-Some.answer ∷ []) in
    let left = c.loop-number.invariant.left in
    record {
      answers = answers_more m π c.loop-number.number (map schedule_of c.loop-number.responses.items)
          (map schedule_of c.push-in-loop-number.new.self.items) c.loop-number.earned.items c.push.new.self.items
          c.write_best_response_of_numbered_unit.result a
          c.loop-number.invariant.answers c.write_best_response_of_numbered_unit.ensures.answer responses earned;
      bench = c.write_best_response_of_numbered_unit.ensures.bench;
      left = omega (arith, shorter, left);
      periods = (popped P c.pop.new.self.items c.in-Some.answer
          (subst (λ (xs : List Answered). All P xs) c.in-Some.ensures.items c.loop-number.invariant.periods)).0;
      response_room = omega (arith, response_spare, response_room);
      earned_room = omega (arith, spare, room);
    }
