use Rattle.hull_engine.proofs.Common.{inr, refl, sym, subst, ◌∙◌, report_text, planned_run, IsEnded}
use Rattle.board_store.specs.Board.{Setup}
use Rattle.hull_engine.proofs.Lemmas.{handed_on, run_texts}
use Rattle.hull_engine.proofs.Common.{IsCommandAnswer, rest_with, nothing_read, Memory}
use Rattle.hull_command.specs.declared.ready.Purpose.TheVariants.{Price}
use Rattle.hull_engine.proofs.answers.answer_price.Goals as goal

pub returns-in_err-opened-clause-answers : goal.returns-in_err-opened-clause-answers
returns-in_err-opened-clause-answers g c =
    let terms = c.args.terms in
    handed_on (IsCommandAnswer (rest_with Price (planned_run terms) terms.budget terms.ahead)
    nothing_read)
    c.from_residual.result Memory c.from_residual.ensures.1 (inr refl)

pub returns-clause-answers : goal.returns-clause-answers
returns-clause-answers g c = (
  planned_run c.args.terms,
  refl,
  run_texts report_text c.args.terms c.run_board.result.closed.setup c.args.terms.budget c.args.terms.ahead
      (c.run_board.ensures.setup ∙ c.in_ok-opened.ensures) refl refl,
)

pub returns-clause-answered : goal.returns-clause-answered
returns-clause-answered g c =
    subst (λ (b : Setup). IsEnded b c.run_board.result) (sym c.run_board.ensures.setup) c.run_board.ensures
