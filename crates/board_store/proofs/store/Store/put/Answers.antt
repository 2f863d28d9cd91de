use Rattle.board_store.proofs.Common.{rules, ℕ, ◌<◌, ℤ, Bool, List, length, ap, ◌∙◌, arith, w64, FitsSigned, set}
use Rattle.board_store.proofs.Common.{to_z-of_z, cast_signed, cast_unsigned, Answers, answer_of, answers_in, least_left}
use Rattle.board_store.proofs.Answers.{place_of, put_answer}
use Rattle.board_store.proofs.store.Store.put.Goals as goal
use Rattle.board_store.proofs.store.Store.put.Goals.{After-self}

-- both places are those of answers
module _ (c : After-self) where
  place_inside : c.args.index < length c.self.inside.earned.items
  place_inside =
      let s = c.self.inside in
      place_of s.on.rows s.power.rows s.reserve.rows s.earned.items c.args.self.now s.on.long
      (least_left s.on.left s.power.left s.reserve.left) c.args.index c.self.view_is c.requires.index

  like_inside : c.args.like < length c.self.inside.earned.items
  like_inside =
      let s = c.self.inside in
      place_of s.on.rows s.power.rows s.reserve.rows s.earned.items c.args.self.now s.on.long
      (least_left s.on.left s.power.left s.reserve.left) c.args.like c.self.view_is c.requires.like

pub put-requires-clause-index : goal.put-requires-clause-index
put-requires-clause-index c = let lt = place_inside (goal.at.put-requires-clause-index c).After-self in
    omega (arith, lt, c.self.invariant.on_count)

pub put-requires-clause-like : goal.put-requires-clause-like
put-requires-clause-like c = let lt = like_inside (goal.at.put-requires-clause-like c).After-self in
    omega (arith, lt, c.self.invariant.on_count)

pub put-requires-2-clause-index : goal.put-requires-2-clause-index
put-requires-2-clause-index c = let lt = place_inside (goal.at.put-requires-2-clause-index c).After-self in
    omega (arith, lt, c.self.invariant.power_count)

pub put-requires-2-clause-like : goal.put-requires-2-clause-like
put-requires-2-clause-like c = let lt = like_inside (goal.at.put-requires-2-clause-like c).After-self in
    omega (arith, lt, c.self.invariant.power_count)

pub put-requires-3-clause-index : goal.put-requires-3-clause-index
put-requires-3-clause-index c = let lt = place_inside (goal.at.put-requires-3-clause-index c).After-self in
    omega (arith, lt, c.self.invariant.reserve_count)

pub put-requires-3-clause-like : goal.put-requires-3-clause-like
put-requires-3-clause-like c = let lt = like_inside (goal.at.put-requires-3-clause-like c).After-self in
    omega (arith, lt, c.self.invariant.reserve_count)

pub index_mut-requires : goal.index_mut-requires
index_mut-requires c = let lt = place_inside (goal.at.index_mut-requires c).After-self in omega (arith, lt)

pub returns-clause-answers : goal.returns-clause-answers
returns-clause-answers c =
    let s = c.self.inside in
    let a = answer_of c.args.answer.now in
    let i = c.args.index in
    let I = c.self.invariant in
    let lt = place_inside (goal.at.returns-clause-answers c).After-self in
    let f : FitsSigned w64 c.args.answer.now.earned = search rules in
    let x = c.put.ensures.rows ∙ ap (λ (xs : List Bool). set s.on.rows i xs) c.as_slice.ensures in
    let y = c.put-2.ensures.rows ∙ ap (λ (xs : List ℕ). set s.power.rows i xs) c.as_slice-2.ensures in
    let z = c.put-3.ensures.rows ∙ ap (λ (xs : List ℕ). set s.reserve.rows i xs) c.as_slice-3.ensures in
    let e = ap (λ (v : ℤ). set s.earned.items i v) (to_z-of_z w64 c.args.answer.now.earned f) in
    let earned = set s.earned.items i (cast_signed w64 (cast_unsigned w64 c.args.answer.now.earned)) in
    let on2 = set s.on.rows i a.schedule.on in
    let power2 = set s.power.rows i a.schedule.power in
    ap (λ (xs : List (List Bool)). answers_in xs c.put-2.new.self.rows c.put-3.new.self.rows earned) x
    ∙ ap (λ (xs : List (List ℕ)). answers_in on2 xs c.put-3.new.self.rows earned) y
    ∙ ap (λ (xs : List (List ℕ)). answers_in on2 power2 xs earned) z
    ∙ ap (λ (xs : List ℤ). answers_in on2 power2 (set s.reserve.rows i a.schedule.reserve) xs) e
    ∙ put_answer s.on.rows s.power.rows s.reserve.rows s.earned.items i a I.on_count I.power_count I.reserve_count lt
    ∙ ap (λ (v : Answers). set v.answers i a) c.self.view_is
