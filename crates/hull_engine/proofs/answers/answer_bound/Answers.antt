use Rattle.hull_engine.proofs.Common.{rules, ◌∙◌, inr, refl, w64, to_z-of_z, planned_run}
use Rattle.hull_engine.proofs.Lemmas.{handed_on, bound_texts}
use Rattle.hull_engine.proofs.Common.{IsCommandAnswer, rest_with, nothing_read, Memory}
use Rattle.hull_command.specs.declared.ready.Purpose.TheVariants.{Bound}
use Rattle.hull_engine.proofs.answers.answer_bound.Goals as goal

pub returns-in_err-run_and_bound-clause-answers : goal.returns-in_err-run_and_bound-clause-answers
returns-in_err-run_and_bound-clause-answers g c =
    let terms = c.args.terms in
    handed_on (IsCommandAnswer (rest_with (Bound c.args.radius) (planned_run terms) terms.budget terms.ahead)
    nothing_read)
    c.from_residual.result Memory c.from_residual.ensures.1 (inr refl)

pub returns-clause-answers : goal.returns-clause-answers
returns-clause-answers g c =
    let b = c.in_ok-run_and_bound in (
      planned_run c.args.terms,
      refl,
      bound_texts c.args.terms b.field-0.done.closed.setup c.args.terms.budget c.args.terms.ahead b.field-0.radius
          c.args.radius b.ensures.ended.setup refl refl
          (b.ensures.radius_is ∙ to_z-of_z w64 c.args.radius (search rules)),
    )
