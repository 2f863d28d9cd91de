use Rattle.task_deal.proofs.Common.{rules, ◌≡◌, ◌+◌, ◌<◌, length, ap, subst, slice_index_or, arith, Account, sum_of}
use Rattle.task_deal.proofs.Common.{Stands}
use Rattle.task_deal.proofs.Lemmas.{forks, books_set, each_up, each_low, fork_stands, fork_part}
use Rattle.task_deal.proofs.open.split_steal_permission_at.Goals as goal
use Rattle.task_deal.proofs.open.split_steal_permission_at.Goals.{After-index_mut}

-- the deque at the place
module _ (c : After-index_mut) where
  within : c.args.at < length c.args.owns.now.items
  within = omega (arith, c.requires.at, c.requires.count)

  here : slice_index_or c.args.owns.now.items c.args.at c.index_mut.result.now ≡ c.index_mut.result.now
  here = search rules

  is : Stands c.args.shared.now.thieves.items c.args.out c.args.at c.index_mut.result.now
  is = subst (Stands c.args.shared.now.thieves.items c.args.out c.args.at) here
      (c.requires.high c.args.at c.index_mut.result.now (omega arith) c.requires.at)

pub another-requires : goal.another-requires
another-requires c = forks _ _ (is (goal.at.another-requires c).After-index_mut).port

pub returns-clause-low : goal.returns-clause-low
returns-clause-low c =
    let d = (goal.at.returns-clause-low c).After-index_mut in
    let thieves = c.args.shared.now.thieves.items in
    each_up (Stands thieves (c.args.out + 1)) c.args.at c.args.owns.now.items c.another.new.self (within d)
    (fork_stands thieves c.args.out c.args.at c.index_mut.result.now c.another.new.self c.another.ensures.same.0
    c.another.ensures.rule.0 (is d)) c.requires.low

pub returns-clause-high : goal.returns-clause-high
returns-clause-high c =
    let thieves = c.args.shared.now.thieves.items in
    each_low (Stands thieves c.args.out) (c.args.at + 1) (length thieves) c.args.owns.now.items c.args.at
    c.another.new.self (omega arith) (λ i d a b. c.requires.high i d (omega (arith, a)) b)

pub returns-clause-books : goal.returns-clause-books
returns-clause-books c =
    let d = (goal.at.returns-clause-books c).After-index_mut in
    books_set (λ h. 0) c.args.owns.now.items c.args.at c.index_mut.result.now c.another.new.self
    (within d) (here d)
    (λ h. (
      omega (arith, ap (λ (u : Account). sum_of h u.taken) c.another.ensures.rule.0),
      ap (λ (u : Account). sum_of h u.put) c.another.ensures.rule.0,
    ))

pub returns-clause-pass : goal.returns-clause-pass
returns-clause-pass c = (
  fork_part c.args.shared.now.thieves.items c.args.out c.args.at c.index_mut.result.now c.another.result
      (is (goal.at.returns-clause-pass c).After-index_mut) c.another.ensures.same.2 c.another.ensures.rule.1,
  c.another.ensures.rule.1,
)
