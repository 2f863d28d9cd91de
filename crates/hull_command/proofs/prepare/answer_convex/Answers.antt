use Rattle.hull_command.proofs.Common.{Ok, inr, refl, ◌∙◌, convex, convex_asked}
use Rattle.hull_fault.specs.declared.fault.TopFault.TheVariants.{Memory}
use Rattle.hull_command.specs.Rest.{HasAnswer}
use Rattle.hull_command.proofs.Lemmas.{answers_convex, handed_on}
use Rattle.hull_command.proofs.prepare.answer_convex.Goals as goal

pub returns-in_err-search-clause-answers : goal.returns-in_err-search-clause-answers
returns-in_err-search-clause-answers g c =
    handed_on (HasAnswer g.F.Shelf.told g.F.Shelf.faults g.F.Shelf.last c.args.shelf.now c.read_convex_input.new.shelf
    (Ok (convex (convex_asked c.args.words.now))))
    c.from_residual.result c.in_err-search.field-0.0 c.from_residual.ensures.1 c.in_err-search.ensures.answers

pub returns-in_err-found-clause-answers : goal.returns-in_err-found-clause-answers
returns-in_err-found-clause-answers g c =
    handed_on (HasAnswer g.F.Shelf.told g.F.Shelf.faults g.F.Shelf.last c.args.shelf.now c.read_convex_input.new.shelf
    (Ok (convex (convex_asked c.args.words.now))))
    c.from_residual-in_err-found.result Memory c.from_residual-in_err-found.ensures.1
    (c.in_ok-search.ensures.answers.0, c.in_ok-search.ensures.answers.1, inr refl)

pub returns-clause-answers : goal.returns-clause-answers
returns-clause-answers g c =
    let h = c.in_ok-search.ensures.answers in (
      h.0,
      h.1,
      answers_convex c.args.words.now c.in_ok-search.search.input c.in_ok-found.found c.in_ok-found.ensures.input
          c.in_ok-found.ensures.within (c.in_ok-found.ensures.rounds ∙ c.in_ok-search.ensures.rounds)
          c.in_ok-found.ensures.found h.0 h.2,
    )
