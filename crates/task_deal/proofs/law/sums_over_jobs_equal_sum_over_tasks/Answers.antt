use Rattle.task_deal.proofs.Lemmas.{sums_are_dealt}
use Rattle.task_deal.proofs.law.sums_over_jobs_equal_sum_over_tasks.Goals as goal

pub returns : goal.returns
returns c = sums_are_dealt
