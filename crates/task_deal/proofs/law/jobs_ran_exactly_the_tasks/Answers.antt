use Rattle.task_deal.proofs.Lemmas.{numbers_are_dealt}
use Rattle.task_deal.proofs.law.jobs_ran_exactly_the_tasks.Goals as goal

pub returns : goal.returns
returns c = numbers_are_dealt
