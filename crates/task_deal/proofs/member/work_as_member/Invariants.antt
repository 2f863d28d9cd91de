use Rattle.task_deal.proofs.Common.{◌≤◌, ◌+◌, HasWorked}
use Rattle.task_deal.proofs.member.work_as_member.Given as goal

abbrev pub invariant-loop-done : goal.invariant-loop-done
invariant-loop-done g l = HasWorked l.shared g.J.Job.work g.J.Job.runs g.J.Job.spare l.initial.member l.member ×
    (l.tasks ≤ g.J.Job.spare l.member.job + l.done)
