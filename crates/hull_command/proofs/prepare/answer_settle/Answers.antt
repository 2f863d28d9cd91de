use Rattle.hull_command.proofs.Common.{Ok, inr, refl, prices_of, settle, settle_asked}
use Rattle.hull_fault.specs.declared.fault.TopFault.TheVariants.{Memory}
use Rattle.hull_command.specs.Rest.{HasAnswer}
use Rattle.hull_command.proofs.Lemmas.{answers_settle, handed_on}
use Rattle.hull_command.proofs.prepare.answer_settle.Goals as goal

pub returns-in_err-priced-clause-answers : goal.returns-in_err-priced-clause-answers
returns-in_err-priced-clause-answers g c =
    handed_on (HasAnswer g.F.Shelf.told g.F.Shelf.faults g.F.Shelf.last c.args.shelf.now c.read_settle_input.new.shelf
    (Ok (settle (settle_asked c.args.words.now))))
    c.from_residual.result c.in_err-priced.field-0.0 c.from_residual.ensures.1 c.in_err-priced.ensures.answers

pub returns-in_err-settled-clause-answers : goal.returns-in_err-settled-clause-answers
returns-in_err-settled-clause-answers g c =
    handed_on (HasAnswer g.F.Shelf.told g.F.Shelf.faults g.F.Shelf.last c.args.shelf.now c.read_settle_input.new.shelf
    (Ok (settle (settle_asked c.args.words.now))))
    c.from_residual-in_err-settled.result Memory c.from_residual-in_err-settled.ensures.1
    (c.in_ok-priced.ensures.answers.0, c.in_ok-priced.ensures.answers.1, inr refl)

pub returns-clause-answers : goal.returns-clause-answers
returns-clause-answers g c =
    let h = c.in_ok-priced.ensures.answers in
    let priced = c.in_ok-priced.priced in (
      h.0,
      h.1,
      answers_settle priced.input c.in_ok-settled.settled c.in_ok-settled.ensures.input (prices_of priced.prices)
          c.in_ok-settled.ensures.settled c.args.words.now h.0 h.2.0 h.2.1,
    )
