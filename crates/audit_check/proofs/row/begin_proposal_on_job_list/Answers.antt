use Rattle.audit_check.proofs.Common.{List, length, sym, ap, ◌∙◌, subst, with_items_is, market_of, prices_of, Answerer}
use Rattle.audit_check.proofs.Common.{AreFor, HaveBegun}
use Rattle.audit_check.proofs.row.begin_proposal_on_job_list.Goals as goal

pub begin_proposal_on_jobs-requires-clause-jobs : goal.begin_proposal_on_jobs-requires-clause-jobs
begin_proposal_on_jobs-requires-clause-jobs c = subst (λ (xs : List Answerer). AreFor (market_of c.args.case.now) xs)
    (sym c.as_mut_slice.ensures.value) c.requires.jobs

pub returns-clause-count : goal.returns-clause-count
returns-clause-count c =
    let lent = c.as_mut_slice.ensures in
    let same = with_items_is c.args.jobs.now c.begin_proposal_on_jobs.new.jobs
    (c.begin_proposal_on_jobs.ensures.count ∙ lent.len) in
    ap length same ∙ c.begin_proposal_on_jobs.ensures.count ∙ ap length lent.value

pub returns-clause-begun : goal.returns-clause-begun
returns-clause-begun c =
    let lent = c.as_mut_slice.ensures in
    let same = with_items_is c.args.jobs.now c.begin_proposal_on_jobs.new.jobs
    (c.begin_proposal_on_jobs.ensures.count ∙ lent.len) in
    subst (λ (xs : List Answerer). HaveBegun (market_of c.args.case.now) (prices_of c.args.prices.now) xs) (sym same)
    c.begin_proposal_on_jobs.ensures.begun
