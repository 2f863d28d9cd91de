use Rattle.task_deal.proofs.Common.{arith}
use Rattle.task_deal.proofs.Lemmas.{returning, last_pass, returned}
use Rattle.task_deal.proofs.settle.return_steal_permissions_of_worker.Goals as goal

pub loop-pass-init : goal.loop-pass-init
loop-pass-init c = returning c.args.shared.now.thieves.items c.args.left c.args.owns.now.items c.args.purse.items
    c.requires.count c.requires.purse c.requires.owns

pub return_steal_permission-requires-clause-pass : goal.return_steal_permission-requires-clause-pass
return_steal_permission-requires-clause-pass c = last_pass c.args.shared.now.thieves.items c.args.left _ _ _
    c.loop-pass.purse.items
    c.pop.new.self.items c.in-Some.pass c.len-at.result (omega (arith, c.len-at.ensures)) c.in-Some.ensures.items
    c.loop-pass.invariant

pub loop-pass-preserved : goal.loop-pass-preserved
loop-pass-preserved c = returned c.args.shared.now.thieves.items c.args.left _ _ c.loop-pass.owns.items
    c.return_steal_permission.new.owns.items c.loop-pass.purse.items c.pop.new.self.items c.in-Some.pass c.len-at.result
    (omega (arith, c.len-at.ensures)) c.in-Some.ensures.items c.loop-pass.invariant
    c.return_steal_permission.ensures.count c.return_steal_permission.ensures.low
    c.return_steal_permission.ensures.high c.return_steal_permission.ensures.books
