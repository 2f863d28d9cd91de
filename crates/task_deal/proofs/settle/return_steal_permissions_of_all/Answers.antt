use Rattle.task_deal.proofs.Common.{◌≡◌, ◌∙◌, ap, subst, length, arith, sum_of, AreParts, Each, Stands, taken_by}
use Rattle.task_deal.proofs.Lemmas.{all_last, all_rest, sum_of_push}
use Rattle.task_deal.proofs.settle.return_steal_permissions_of_all.Goals as goal

pub return_steal_permissions_of_worker-requires-clause-purse :
    goal.return_steal_permissions_of_worker-requires-clause-purse
return_steal_permissions_of_worker-requires-clause-purse c = all_last
    (λ p. AreParts c.args.shared.now.thieves.items p.items)
    c.loop-purse.purses.items c.pop.new.self.items c.in-Some.purse c.in-Some.ensures.items c.loop-purse.invariant.1

pub loop-purse-preserved : goal.loop-purse-preserved
loop-purse-preserved c = (
  c.return_steal_permissions_of_worker.ensures.count,
  all_rest (λ p. AreParts c.args.shared.now.thieves.items p.items) c.loop-purse.purses.items c.pop.new.self.items
      c.in-Some.purse c.in-Some.ensures.items c.loop-purse.invariant.1,
  (let e : c.len-left.result ≡ length c.pop.new.self.items = omega (arith, c.len-left.ensures) in
      subst (λ k. Each (Stands c.args.shared.now.thieves.items k) 0 (length c.args.shared.now.thieves.items)
      c.return_steal_permissions_of_worker.new.owns.items) e c.return_steal_permissions_of_worker.ensures.owns),
  (λ h.
      let t = ap (sum_of (λ p. taken_by h p.items)) c.in-Some.ensures.items ∙
      sum_of_push (λ p. taken_by h p.items) c.pop.new.self.items c.in-Some.purse in (
        omega (arith, (c.loop-purse.invariant.3 h).0, (c.return_steal_permissions_of_worker.ensures.books h).0, t),
        (c.return_steal_permissions_of_worker.ensures.books h).1 ∙ (c.loop-purse.invariant.3 h).1,
      )),
)
