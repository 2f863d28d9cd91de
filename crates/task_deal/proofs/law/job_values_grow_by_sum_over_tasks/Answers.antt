use Rattle.task_deal.proofs.Lemmas.{values_dealt}
use Rattle.task_deal.proofs.law.job_values_grow_by_sum_over_tasks.Goals as goal

pub returns : goal.returns
returns g c = λ tasks before after value f. values_dealt g.J.Job.work g.J.Job.runs g.J.Job.spare value f tasks before
    after
