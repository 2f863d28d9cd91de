use Rattle.task_deal.proofs.Common.{◌≤◌, ◌∙◌, subst, vec_capacity}
use Rattle.task_deal.specs.Hands.{AreSetOut}
use Rattle.task_deal.proofs.deal.deal_all.Goals as goal

pub run_members-requires-clause-hands : goal.run_members-requires-clause-hands
run_members-requires-clause-hands g c κs within =
    subst (λ k. AreSetOut c.in_ok-shared.shared c.args.tasks k c.in_ok-shared.hands)
    (c.len-count.ensures ∙ c.args.jobs.now.ok.0) c.in_ok-shared.ensures

pub run_members-requires-clause-room : goal.run_members-requires-clause-room
run_members-requires-clause-room g c κs within = subst (λ k. k ≤ vec_capacity c.in_ok-members.members)
    (c.len-count.ensures ∙ c.args.jobs.now.ok.0) c.in_ok-members.ensures.capacity
