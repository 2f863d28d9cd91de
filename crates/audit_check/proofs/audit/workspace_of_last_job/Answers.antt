use Rattle.audit_check.proofs.Common.{◌≡◌, Some, subst, All-pop, market_of, Answerer, IsBenchOver}
use Rattle.audit_check.proofs.audit.workspace_of_last_job.Goals as goal

pub returns : goal.returns
returns c = λ m for.
    let job = c.in-Some.job in
    let is = (All-pop (λ (j : Answerer). market_of j.case.now ≡ m) c.args.jobs.items c.pop.new.self.items (Some job)
    c.in-Some.ensures.items for).1 in
    subst (λ n. IsBenchOver n job.means.bench) is job.over
