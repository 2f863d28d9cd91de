use Rattle.hull_engine.proofs.Common.{◌≡◌, List, [], ◌∷◌, ◌++◌, length, length-append, sym, ap, ◌∙◌, subst, arith, All}
use Rattle.hull_engine.proofs.Common.{All-push, market_of, IsBenchOver}
use Rattle.unit_program.specs.declared.bench.Bench.{Bench}
use Rattle.hull_engine.proofs.audit.workspaces_for_audit_jobs.Goals as goal

pub loop-preserved : goal.loop-preserved
loop-preserved c =
    let m = market_of c.args.case.now in
    let bench = c.in_ok-make_bench_for_case.field-0 in
    let known = c.loop.invariant in
    let over = c.in_ok-make_bench_for_case.ensures in
    let pushed : c.push.new.self.items ≡ c.loop.benches.items ++ bench ∷ [] = c.in_ok-push.ensures.items in
    let long = ap (length {A = Bench}) pushed ∙ length-append c.loop.benches.items (bench ∷ []) in
    let was = known.count in
    let test = c.loop-test.true in
    record {
      count = omega (arith, long, was);
      within = omega (arith, test);
      benches = subst (λ (xs : List Bench). All (IsBenchOver m) xs) (sym pushed)
          (All-push (IsBenchOver m) c.loop.benches.items bench known.benches over);
    }
