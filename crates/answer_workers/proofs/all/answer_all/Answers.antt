use Rattle.answer_workers.proofs.Lemmas.{zip_worked, then_worked}
use Rattle.answer_workers.proofs.all.answer_all.Goals as goal

pub returns-clause-worked : goal.returns-clause-worked
returns-clause-worked g c =
    let e = c.run_each_worker.ensures in
    then_worked c.args.workers.now c.run_each_worker.new.workers c.find_how_workers_ended.new.workers
    (zip_worked c.args.workers.now c.run_each_worker.new.workers e.count e.each) c.find_how_workers_ended.ensures.worked
