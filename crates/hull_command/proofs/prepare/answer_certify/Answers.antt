use Rattle.hull_command.proofs.Common.{Ok, ℤ, rules, inr, refl, subst, w64, to_z-of_z, prices_of, mixture_of, certify}
use Rattle.hull_command.proofs.Common.{certify_asked, IsCertifiedAt}
use Rattle.hull_fault.specs.declared.fault.TopFault.TheVariants.{Memory}
use Rattle.hull_command.specs.Rest.{HasAnswer}
use Rattle.hull_command.proofs.Lemmas.{answers_certify, handed_on}
use Rattle.hull_command.proofs.prepare.answer_certify.Goals as goal

pub returns-in_err-mixed-clause-answers : goal.returns-in_err-mixed-clause-answers
returns-in_err-mixed-clause-answers g c =
    handed_on (HasAnswer g.F.Shelf.told g.F.Shelf.faults g.F.Shelf.last c.args.shelf.now c.read_certify_input.new.shelf
    (Ok (certify (certify_asked c.args.words.now))))
    c.from_residual.result c.in_err-mixed.field-0.0 c.from_residual.ensures.1 c.in_err-mixed.ensures.answers

pub returns-in_err-certified-clause-answers : goal.returns-in_err-certified-clause-answers
returns-in_err-certified-clause-answers g c =
    handed_on (HasAnswer g.F.Shelf.told g.F.Shelf.faults g.F.Shelf.last c.args.shelf.now c.read_certify_input.new.shelf
    (Ok (certify (certify_asked c.args.words.now))))
    c.from_residual-in_err-certified.result Memory c.from_residual-in_err-certified.ensures.1
    (c.in_ok-mixed.ensures.answers.0, c.in_ok-mixed.ensures.answers.1, inr refl)

pub returns-clause-answers : goal.returns-clause-answers
returns-clause-answers g c =
    let words = c.args.words.now in
    let mixed = c.in_ok-mixed.mixed in
    let h = c.in_ok-mixed.ensures.answers in
    let certified =
    subst (λ (q : ℤ). IsCertifiedAt (prices_of mixed.priced.prices) (mixture_of mixed.mixture) q
    c.in_ok-certified.certified) (to_z-of_z w64 words.radius (search rules)) c.in_ok-certified.ensures.certified in (
      h.0,
      h.1,
      answers_certify words mixed.priced.input c.in_ok-certified.certified c.in_ok-certified.ensures.input
          (prices_of mixed.priced.prices) (mixture_of mixed.mixture) certified h.0 h.2.0.0 h.2.0.1 h.2.1,
    )
