use Rattle.board_store.proofs.Common.{rules, ◌<◌, pos, [], length, get_or, sym, ap, ◌∙◌, arith, w64, FitsSigned}
use Rattle.board_store.proofs.Common.{to_z-of_z, get_or_read, cast_signed, cast_unsigned, int_at, Answers, no_answer}
use Rattle.board_store.proofs.Common.{least_left}
use Rattle.board_store.proofs.Answers.{place_of, answer_at_place, same_answer}
use Rattle.board_store.proofs.store.Store.take.Goals as goal
use Rattle.board_store.proofs.store.Store.take.Goals.{After-self}

place_inside : (c : After-self) → c.args.index < length c.self.inside.earned.items
place_inside c =
    let s = c.self.inside in
    place_of s.on.rows s.power.rows s.reserve.rows s.earned.items c.args.self.now s.on.long
    (least_left s.on.left s.power.left s.reserve.left) c.args.index c.self.view_is c.requires.index

pub take-requires-clause-index : goal.take-requires-clause-index
take-requires-clause-index c = let lt = place_inside (goal.at.take-requires-clause-index c).After-self in
    omega (arith, lt, c.self.invariant.on_count)

pub take-requires-2-clause-index : goal.take-requires-2-clause-index
take-requires-2-clause-index c = let lt = place_inside (goal.at.take-requires-2-clause-index c).After-self in
    omega (arith, lt, c.self.invariant.power_count)

pub take-requires-3-clause-index : goal.take-requires-3-clause-index
take-requires-3-clause-index c = let lt = place_inside (goal.at.take-requires-3-clause-index c).After-self in
    omega (arith, lt, c.self.invariant.reserve_count)

pub index-requires : goal.index-requires
index-requires c = let lt = place_inside (goal.at.index-requires c).After-self in omega (arith, lt)

pub returns-clause-answer : goal.returns-clause-answer
returns-clause-answer c =
    let s = c.self.inside in
    let i = c.args.index in
    let lt = place_inside (goal.at.returns-clause-answer c).After-self in
    let f : FitsSigned w64 c.index.result.now = search rules in
    let e = to_z-of_z w64 c.index.result.now f
    ∙ get_or_read s.earned.items i c.index.result.now lt c.index.ensures (pos 0) in
    same_answer c.take.new.into.items (get_or s.on.rows i []) c.take-2.new.into.items
    (get_or s.power.rows i []) c.take-3.new.into.items (get_or s.reserve.rows i [])
    (cast_signed w64 (cast_unsigned w64 c.index.result.now)) (int_at s.earned.items i)
    c.take.ensures.row c.take-2.ensures.row c.take-3.ensures.row e
    ∙ sym (answer_at_place s.on.rows s.power.rows s.reserve.rows s.earned.items i lt)
    ∙ ap (λ (v : Answers). get_or v.answers i no_answer) c.self.view_is
