use Rattle.answer_workers.proofs.Common.{ℕ, sym, ◌∙◌, subst, IsTaskFor, IsBenchFor}
use Rattle.answer_workers.proofs.Lemmas.{bench_of_case}
use Rattle.answer_workers.proofs.worker.Worker.make.Goals as goal

pub returns-clause-parts : goal.returns-clause-parts
returns-clause-parts c m same few = record {
  bench = bench_of_case c.bench_suffices_for_fewer_periods.ensures m c.args.points c.in_ok-bench.bench
      (subst (λ (n : ℕ). IsBenchFor n c.args.points c.in_ok-bench.bench) (sym same) c.in_ok-bench.ensures) few;
  task = subst (λ (n : ℕ). IsTaskFor n c.in_ok-answer.task) (sym same) c.in_ok-answer.ensures.task;
  answer = c.in_ok-answer.ensures.answer ∙ sym same;
  count = c.in_ok-answer.ensures.count;
  held = c.in_ok-answer.ensures.fits m same;
}
