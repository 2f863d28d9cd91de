use Rattle.task_deal.proofs.Common.{◌∷◌, ◌++◌, [], ◌∙◌, ap, refl, arith, Account, account}
use Rattle.task_deal.proofs.Lemmas.{takes, same_part}
use Rattle.task_deal.proofs.seat.steal_number.Goals as goal

pub loop-init : goal.loop-init
loop-init g c = (tt, tt, c.requires, refl)

pub steal_as-requires-clause-table : goal.steal_as-requires-clause-table
steal_as-requires-clause-table g c = c.loop.invariant.2.0

pub steal_as-requires-clause-takes : goal.steal_as-requires-clause-takes
steal_as-requires-clause-takes g c = takes _ _ 1 (omega (arith, c.loop.invariant.2.1))

pub steal_as-requires-clause-empty : goal.steal_as-requires-clause-empty
steal_as-requires-clause-empty g c = λ items views few fair at. tt

pub returns-in-Success-clause-same : goal.returns-in-Success-clause-same
returns-in-Success-clause-same g c = same_part c.args.thief.now c.loop.pass c.steal_as.new.pass c.loop.invariant.2
    c.steal_as.ensures.same (ap (λ (u : Account). u.parts) c.in-Success.ensures.rule)

pub returns-in-Success-clause-view : goal.returns-in-Success-clause-view
returns-in-Success-clause-view g c = c.in-Success.ensures.rule ∙
    ap (λ (u : Account). account u.parts u.put (u.taken ++ c.in-Success.stolen ∷ [])) c.loop.invariant.3

pub returns-in-Empty-clause-same : goal.returns-in-Empty-clause-same
returns-in-Empty-clause-same g c = same_part c.args.thief.now c.loop.pass c.steal_as.new.pass c.loop.invariant.2
    c.steal_as.ensures.same (ap (λ (u : Account). u.parts) c.in-Empty.ensures.rule.0)

pub returns-in-Empty-clause-view : goal.returns-in-Empty-clause-view
returns-in-Empty-clause-view g c = c.in-Empty.ensures.rule.0 ∙ c.loop.invariant.3

pub loop-preserved : goal.loop-preserved
loop-preserved g c = (
  c.loop.invariant.0,
  c.loop.invariant.1,
  same_part c.args.thief.now c.loop.pass c.steal_as.new.pass c.loop.invariant.2 c.steal_as.ensures.same
      (ap (λ (u : Account). u.parts) c.in-Retry.ensures.rule.0),
  c.in-Retry.ensures.rule.0 ∙ c.loop.invariant.3,
)
