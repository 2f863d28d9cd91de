use Rattle.task_deal.proofs.Common.{rules, ◌≡◌, ap, sym, subst, slice_index_or, arith, worker_view, Account, sum_of}
use Rattle.task_deal.proofs.Common.{Fits}
use Rattle.task_deal.proofs.Common.{Stands}
use Rattle.task_deal.proofs.Lemmas.{fits, books_set, each_up, check_stands}
use Rattle.task_deal.proofs.drain.check_deque_counts_at.Goals as goal
use Rattle.task_deal.proofs.drain.check_deque_counts_at.Goals.{After-index_mut}

-- the deque at the place
module _ (c : After-index_mut) where
  here : slice_index_or c.args.owns.now.items c.args.at c.index_mut.result.now ≡ c.index_mut.result.now
  here = search rules

pub len_as-requires : goal.len_as-requires
len_as-requires c = fits _ _ (subst (Stands c.args.shared.now.thieves.items 0 c.args.at)
    (here (goal.at.len_as-requires c).After-index_mut)
    (c.requires.stands c.args.at c.index_mut.result.now (omega arith) c.requires.at)).port

pub returns-clause-stands : goal.returns-clause-stands
returns-clause-stands c = check_stands c.args.shared.now.thieves.items c.args.owns.now.items c.args.at
    c.index_mut.result.now c.len_as.new.self c.requires.at (here (goal.at.returns-clause-stands c).After-index_mut)
    c.len_as.ensures.same.0 c.len_as.ensures.same.2 c.requires.stands

pub returns-clause-books : goal.returns-clause-books
returns-clause-books c = books_set (λ h. 0) c.args.owns.now.items c.args.at c.index_mut.result.now c.len_as.new.self
    c.requires.at (here (goal.at.returns-clause-books c).After-index_mut)
    (λ h. (
      omega (arith, ap (λ (u : Account). sum_of h u.taken) c.len_as.ensures.same.2),
      ap (λ (u : Account). sum_of h u.put) c.len_as.ensures.same.2,
    ))

pub returns-clause-fits : goal.returns-clause-fits
returns-clause-fits c = λ low. each_up (λ _ u. Fits (worker_view u)) c.args.at c.args.owns.now.items c.len_as.new.self
    c.requires.at (subst Fits (sym c.len_as.ensures.same.2) c.len_as.ensures.rule.2) low
