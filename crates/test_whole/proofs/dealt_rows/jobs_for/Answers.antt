use Rattle.test_whole.proofs.Common.{◌≡◌, List, [], ◌∷◌, ◌++◌, length, length-append, sym, ap, ◌∙◌, subst, arith}
use Rattle.test_whole.proofs.Common.{All-push, market_of, AreFor}
use Rattle.audit_check.specs.declared.answerer.Answerer.{Answerer}
use Rattle.test_whole.proofs.dealt_rows.jobs_for.Goals as goal

pub loop-preserved : goal.loop-preserved
loop-preserved c =
    let m = market_of c.args.case.now in
    let job = c.in_ok-job.job in
    let known = c.loop.invariant in
    let pushed : c.push.new.self.items ≡ c.loop.jobs.items ++ job ∷ [] = c.in_ok-push.ensures.items in
    let long = ap (length {A = Answerer}) pushed ∙ length-append c.loop.jobs.items (job ∷ []) in
    let was = known.count in
    let test = c.loop-test.true in
    record {
      count = omega (arith, long, was);
      within = omega (arith, test);
      jobs = subst (λ (xs : List Answerer). AreFor m xs) (sym pushed)
          (All-push (λ (j : Answerer). market_of j.case.now ≡ m) c.loop.jobs.items job known.jobs
          (ap market_of c.in_ok-job.ensures));
    }
