use Rattle.hull_engine.proofs.Common.{inr, refl, planned_run}
use Rattle.hull_engine.proofs.Lemmas.{handed_on, sides_paid, fixed_texts}
use Rattle.hull_engine.proofs.Common.{IsCommandAnswer, rest_with, nothing_read, Memory}
use Rattle.hull_command.specs.declared.ready.Purpose.TheVariants.{Fixed}
use Rattle.hull_engine.proofs.answers.answer_fixed.Goals as goal

pub returns-in_err-run_with_free_and_fixed_commitments-clause-answers :
    goal.returns-in_err-run_with_free_and_fixed_commitments-clause-answers
returns-in_err-run_with_free_and_fixed_commitments-clause-answers g c =
    let terms = c.args.terms in
    handed_on (IsCommandAnswer (rest_with Fixed (planned_run terms) terms.budget terms.ahead) nothing_read)
    c.from_residual.result Memory c.from_residual.ensures.1 (inr refl)

pub returns-clause-answers : goal.returns-clause-answers
returns-clause-answers g c = (
  planned_run c.args.terms,
  refl,
  fixed_texts c.args.terms c.in_ok-run_with_free_and_fixed_commitments.field-0 c.args.terms.budget c.args.terms.ahead
      c.in_ok-run_with_free_and_fixed_commitments.ensures refl refl,
)

pub returns-clause-answered : goal.returns-clause-answered
returns-clause-answered g c = sides_paid c.args.terms c.in_ok-run_with_free_and_fixed_commitments.field-0
    c.in_ok-run_with_free_and_fixed_commitments.ensures
