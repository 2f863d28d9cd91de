use Rattle.task_deal.proofs.Common.{◌∙◌, arith}
use Rattle.task_deal.proofs.drain.check_deque_counts.Goals as goal

pub loop-at-preserved : goal.loop-at-preserved
loop-at-preserved c = let inv = c.loop-at.invariant in (
  c.check_deque_counts_at.ensures.count ∙ inv.0,
  c.check_deque_counts_at.ensures.stands,
  (λ h. (
    omega (arith, (inv.2 h).0, (c.check_deque_counts_at.ensures.books h).0),
    (c.check_deque_counts_at.ensures.books h).1 ∙
        (inv.2 h).1,
  )),
  c.check_deque_counts_at.ensures.fits inv.3,
)

pub returns-clause-fits : goal.returns-clause-fits
returns-clause-fits c = λ i d b. c.loop-at.invariant.3 i d (omega arith)
    (omega (arith, b, c.loop-at-test.false, c.len-at-end.ensures, c.loop-at.invariant.0))
