use Rattle.task_deal.proofs.Common.{rules, ◌≡◌, ◌+◌, ◌∷◌, ◌++◌, [], subst, sym, arith}
use Rattle.task_deal.proofs.Lemmas.{Filling, filling, filled, purse_full}
use Rattle.task_deal.proofs.open.make_steal_permissions_of_worker.Goals as goal

pub loop-at-init : goal.loop-at-init
loop-at-init c =
    subst (λ l. Filling c.args.shared.now.thieves.items c.args.out 0 c.args.owns.now.items c.args.owns.now.items l)
    (sym c.new-purse.ensures.items)
    (filling c.args.shared.now.thieves.items c.args.out c.args.owns.now.items c.requires.count c.requires.owns)

pub loop-at-preserved : goal.loop-at-preserved
loop-at-preserved c =
    let p = c.split_steal_permission_at-pass in
    let e : c.push.new.self.items ≡ c.loop-at.purse.items ++ p.result ∷ [] = search rules in
    subst (λ l. Filling c.args.shared.now.thieves.items c.args.out (c.loop-at.at + 1) c.args.owns.now.items
    p.new.owns.items l) (sym e)
    (filled c.args.shared.now.thieves.items c.args.out c.loop-at.at c.args.owns.now.items c.loop-at.owns.items
    p.new.owns.items c.loop-at.purse.items p.result c.loop-at.invariant p.ensures.count p.ensures.low p.ensures.high
    p.ensures.books p.ensures.pass.0 p.ensures.pass.1)

pub returns-clause-purse : goal.returns-clause-purse
returns-clause-purse c = (
  purse_full c.args.shared.now.thieves.items c.args.out c.loop-at.at _ _ c.loop-at.purse.items
      (omega (arith, c.loop-at-test.false, c.len-at-end.ensures)) c.loop-at.invariant
      (omega (arith, c.loop-at-test.false, c.len-at-end.ensures, c.loop-at.invariant.full, c.loop-at.auto.at-end)),
  c.loop-at.invariant.none,
)
