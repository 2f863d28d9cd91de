use Rattle.audit_check.proofs.Common.{◌≡◌, List, [], ◌∷◌, ◌++◌, length, length-append, sym, ap, ◌∙◌, subst, arith, Some}
use Rattle.audit_check.proofs.Common.{All-push, All-pop, market_of, Answerer, IsBenchOver, AreFor}
use Rattle.unit_program.specs.declared.bench.Bench.{Bench}
use Rattle.audit_check.proofs.audit.make_audit_jobs.Goals as goal

pub make-requires-clause-bench : goal.make-requires-clause-bench
make-requires-clause-bench c =
    (All-pop (IsBenchOver (market_of c.args.case.now)) c.loop-bench.benches.items c.pop.new.self.items
    (Some c.in-Some.bench) c.in-Some.ensures.items c.loop-bench.invariant.benches).1

pub loop-bench-preserved : goal.loop-bench-preserved
loop-bench-preserved c =
    let m = market_of c.args.case.now in
    let job = c.in_ok-job.job in
    let known = c.loop-bench.invariant in
    let pushed : c.push.new.self.items ≡ c.loop-bench.jobs.items ++ job ∷ [] = c.in_ok-push.ensures.items in
    let longer = ap (length {A = Answerer}) pushed ∙ length-append c.loop-bench.jobs.items (job ∷ []) in
    let shorter = ap (length {A = Bench}) c.in-Some.ensures.items ∙
    length-append c.pop.new.self.items (c.in-Some.bench ∷ []) in
    let was = known.count in
    record {
      count = omega (arith, longer, shorter, was);
      benches = (All-pop (IsBenchOver m) c.loop-bench.benches.items c.pop.new.self.items (Some c.in-Some.bench)
          c.in-Some.ensures.items known.benches).0;
      jobs = subst (λ (xs : List Answerer). AreFor m xs) (sym pushed)
          (All-push (λ (j : Answerer). market_of j.case.now ≡ m) c.loop-bench.jobs.items job known.jobs
          (ap market_of c.in_ok-job.ensures));
    }
