use Rattle.task_deal.proofs.Common.{arith}
use Rattle.task_deal.proofs.Working.{begun, ran, ended}
use Rattle.task_deal.proofs.member.work_as_member.Goals as goal

pub loop-done-preserved : goal.loop-done-preserved
loop-done-preserved g c = (
  ran c.args.shared.now g.J.Job.work g.J.Job.runs g.J.Job.spare c.args.member.now c.loop-done.member
      c.next_number.new.seat c.run.new.self c.in-Some.task c.loop-done.invariant.0 c.next_number.ensures.same.0
      c.next_number.ensures.same.1 c.in-Some.ensures.gains
      c.run.ensures.work c.run.ensures.runs c.run.ensures.spare,
  omega (arith, c.loop-done.invariant.1, c.run.ensures.spare),
)

pub loop-done-init : goal.loop-done-init
loop-done-init g c = (
  begun c.args.shared.now g.J.Job.work g.J.Job.runs g.J.Job.spare c.args.member.now c.requires.seat,
  omega (arith, c.requires.spare),
)

pub next_number-requires : goal.next_number-requires
next_number-requires g c = c.loop-done.invariant.0.seat

pub returns-in_default : goal.returns-in_default
returns-in_default g c = ended c.args.shared.now g.J.Job.work g.J.Job.runs g.J.Job.spare c.args.member.now
    c.loop-done.member c.next_number.new.seat c.loop-done.invariant.0 c.next_number.ensures.same.0
    c.next_number.ensures.same.1 c.in_default.ensures.gains

pub returns : goal.returns
returns g c = c.loop-done.invariant.0
