use Rattle.task_deal.proofs.Common.{◌∙◌, subst, sym, arith, Each, Stands}
use Rattle.task_deal.proofs.deal.prepare_task_queues.Goals as goal

pub make_steal_permissions_of_all-requires-clause-count : goal.make_steal_permissions_of_all-requires-clause-count
make_steal_permissions_of_all-requires-clause-count g c = sym c.in_ok-owns.ensures.1.count

pub make_steal_permissions_of_all-requires-clause-owns : goal.make_steal_permissions_of_all-requires-clause-owns
make_steal_permissions_of_all-requires-clause-owns g c = subst (λ k. Each (Stands c.in_ok-owns.thieves.items 0) 0 k
    c.in_ok-owns.owns.items)
    (sym c.in_ok-owns.ensures.1.count) c.in_ok-owns.ensures.1.stands

pub returns : goal.returns
returns g c = record {
  source = c.in_ok-source.ensures.0;
  port = c.in_ok-source.ensures.1;
  account = c.in_ok-source.ensures.2;
  thieves_count = c.in_ok-owns.ensures.1.count ∙ c.in_ok-owns.ensures.0;
  owns_count = c.in_ok-purses.ensures.count;
  owns = c.in_ok-purses.ensures.owns;
  fresh = λ h. let old = c.in_ok-owns.ensures.1.books h in let new = c.in_ok-purses.ensures.books h in
      (omega (arith, old.0, new.0), omega (arith, old.1, new.1));
  purses_count = c.in_ok-purses.ensures.purses.0;
  purses = c.in_ok-purses.ensures.purses.1;
  idle = c.in_ok-purses.ensures.purses.2;
}
