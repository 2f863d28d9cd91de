use Rattle.task_deal.proofs.Common.{rules, ◌≡◌, ap, length, slice_index_or, arith, worker_view, IsEmptied}
use Rattle.task_deal.proofs.Lemmas.{Deque, each_up, room_own, ledger_own}
use Rattle.task_deal.proofs.drain.run_tasks_left_in_deque_at.Goals as goal

pub run_tasks_left_in_deque-requires-clause-room : goal.run_tasks_left_in_deque-requires-clause-room
run_tasks_left_in_deque-requires-clause-room g c = let w = c.index_mut.result.now in let y = c.index_mut-2.result.now in
    let at : slice_index_or c.args.owns.now.items c.args.at w ≡ w = search rules in
    let at₀ : slice_index_or c.args.jobs.now.items 0 y ≡ y = search rules in
    omega (
      arith,
      room_own g.J.Job.work g.J.Job.runs g.J.Job.spare c.args.shared.now.thieves.items c.args.tasks c.requires.ledger.0
          c.args.jobs.now.items c.requires.ledger.1 c.args.owns.now.items c.args.at w y c.requires.at.0 c.requires.at.1
          c.requires.ledger.2 c.requires.ledger.3,
      ap (λ (u : Deque). length (worker_view u).put) at,
      ap (λ (u : Deque). length (worker_view u).taken) at,
      ap g.J.Job.spare at₀,
    )

pub returns-clause-ledger : goal.returns-clause-ledger
returns-clause-ledger g c = λ first v a. let w = c.index_mut.result.now in let y = c.index_mut-2.result.now in
    let at : slice_index_or c.args.owns.now.items c.args.at w ≡ w = search rules in
    let at₀ : slice_index_or c.args.jobs.now.items 0 y ≡ y = search rules in
    ledger_own g.J.Job.work g.J.Job.runs g.J.Job.spare c.args.shared.now.thieves.items c.args.tasks first
    c.args.jobs.now.items v c.args.owns.now.items c.args.at w c.run_tasks_left_in_deque.new.own y
    c.run_tasks_left_in_deque.new.job
    c.requires.at.0 c.requires.at.1 at at₀ c.run_tasks_left_in_deque.ensures.same
    c.run_tasks_left_in_deque.ensures.all.1
    c.run_tasks_left_in_deque.ensures.all.0 c.run_tasks_left_in_deque.ensures.job
    c.run_tasks_left_in_deque.ensures.books a

pub returns-clause-even : goal.returns-clause-even
returns-clause-even g c = λ low. each_up (λ _ u. IsEmptied u) c.args.at c.args.owns.now.items
    c.run_tasks_left_in_deque.new.own
    c.requires.at.0 (λ h. c.run_tasks_left_in_deque.ensures.all.0 c.run_tasks_left_in_deque.ensures.all.1 h) low
