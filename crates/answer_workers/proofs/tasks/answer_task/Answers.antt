use Rattle.answer_workers.proofs.Common.{sym, subst, ap, ◌∙◌, length, AnyUnit, prices_of, Suffices, IsResponse}
use Rattle.answer_workers.proofs.Lemmas.{kept}
use Rattle.uc_model.specs.Data.{horizon_of}
use Rattle.unit_program.specs.Answers.{CanBeAnswered}
use Rattle.answer_workers.proofs.tasks.answer_task.Goals as goal

pub write_best_response_of_unit-requires-clause-horizon : goal.write_best_response_of_unit-requires-clause-horizon
write_best_response_of_unit-requires-clause-horizon c =
    ap horizon_of c.unit_of_task-unit.ensures.unit ∙ c.unit_of_task-unit.ensures.horizon

pub write_best_response_of_unit-requires-clause-some : goal.write_best_response_of_unit-requires-clause-some
write_best_response_of_unit-requires-clause-some c =
    subst (λ (u : AnyUnit). CanBeAnswered u (length (prices_of c.args.task.now.prices).energy))
    (sym c.unit_of_task-unit.ensures.unit) (λ none. none c.requires.some.0 c.requires.some.1)

pub write_best_response_of_unit-requires-clause-bench : goal.write_best_response_of_unit-requires-clause-bench
write_best_response_of_unit-requires-clause-bench c =
    subst (λ (u : AnyUnit). Suffices (length (prices_of c.args.task.now.prices).energy) u c.args.bench.now)
    (sym c.unit_of_task-unit.ensures.unit) c.requires.bench

pub returns-clause-response : goal.returns-clause-response
returns-clause-response c =
    subst (λ (u : AnyUnit). IsResponse u (prices_of c.args.task.now.prices) c.write_best_response_of_unit.new.into)
    c.unit_of_task-unit.ensures.unit c.write_best_response_of_unit.ensures.response

pub returns-clause-bench : goal.returns-clause-bench
returns-clause-bench c = kept c.args.bench.now c.write_best_response_of_unit.new.bench
    c.write_best_response_of_unit.ensures.bench
