use Rattle.task_deal.proofs.Common.{rules, ◌≡◌, ◌+◌, ◌<◌, length, sym, subst, slice_index_or, arith, Stands}
use Rattle.task_deal.proofs.Lemmas.{merges, each_down, TakenBack, books_set, back_books, back_stands}
use Rattle.task_deal.proofs.Lemmas.{its_pass, its_one, index_else}
use Rattle.task_deal.proofs.settle.return_steal_permission.Goals as goal
use Rattle.task_deal.proofs.settle.return_steal_permission.Goals.{After-index_mut, After-absorb}

-- the deque at the place
module _ (c : After-index_mut) where
  within : c.args.at < length c.args.owns.now.items
  within = omega (arith, c.requires.at, c.requires.count)

  here : slice_index_or c.args.owns.now.items c.args.at c.index_mut.result.now ≡ c.index_mut.result.now
  here = search rules

  is : Stands c.args.shared.now.thieves.items (c.args.left + 1) c.args.at c.index_mut.result.now
  is = subst (Stands c.args.shared.now.thieves.items (c.args.left + 1) c.args.at) here
      (c.requires.low c.args.at c.index_mut.result.now (omega arith) (omega arith))

back : (c : After-absorb) → TakenBack c.index_mut.result.now c.absorb.new.self c.args.pass
back c = record { own = c.absorb.ensures.same.0; view = c.absorb.ensures.rule }

pub absorb-requires-clause-table : goal.absorb-requires-clause-table
absorb-requires-clause-table c = its_pass c.args.shared.now.thieves.items (c.args.left + 1) c.args.at
    c.index_mut.result.now c.args.pass (omega (arith, c.requires.at))
    (is (goal.at.absorb-requires-clause-table c).After-index_mut) c.requires.pass

pub absorb-requires-clause-rule : goal.absorb-requires-clause-rule
absorb-requires-clause-rule c = merges _ _ _ _ (is (goal.at.absorb-requires-clause-rule c).After-index_mut).port

pub returns-clause-low : goal.returns-clause-low
returns-clause-low c = λ i d a b. subst (Stands c.args.shared.now.thieves.items (c.args.left + 1) i)
    (sym (index_else c.args.owns.now.items c.args.at i c.absorb.new.self d (λ e. absurd (omega (arith, e, b)))))
    (c.requires.low i d a (omega (arith, b)))

pub returns-clause-high : goal.returns-clause-high
returns-clause-high c =
    let thieves = c.args.shared.now.thieves.items in
    each_down (Stands thieves c.args.left) c.args.at _ c.args.owns.now.items c.absorb.new.self
    (within (goal.at.returns-clause-high c).After-index_mut)
    (back_stands thieves c.args.left c.args.at c.index_mut.result.now c.absorb.new.self c.args.pass
    (its_one thieves c.args.at c.args.pass c.requires.at c.requires.pass)
    (back (goal.at.returns-clause-high c).After-absorb) (is (goal.at.returns-clause-high c).After-index_mut))
    c.requires.high

pub returns-clause-books : goal.returns-clause-books
returns-clause-books c =
    let d = (goal.at.returns-clause-books c).After-index_mut in
    books_set _ c.args.owns.now.items c.args.at c.index_mut.result.now c.absorb.new.self (within d) (here d)
    (back_books c.index_mut.result.now c.absorb.new.self c.args.pass
    (back (goal.at.returns-clause-books c).After-absorb))
