use Rattle.hull_command.proofs.Common.{Result, Ok, Err, inr, refl, err_from_is_err_and, TopFault, Terms, planned_of}
use Rattle.hull_command.proofs.Common.{planned_run, IsMade, IsWithinWork}
use Rattle.hull_command.proofs.Lemmas.{completes_try, answer_then}
use Rattle.hull_command.proofs.prepare.prepare_try.Goals as goal

pub returns-in_default-clause-prepared : goal.returns-in_default-clause-prepared
returns-in_default-clause-prepared c reads = inr refl

pub returns-in_err-terms-clause-prepared : goal.returns-in_err-terms-clause-prepared
returns-in_err-terms-clause-prepared c reads =
    let words = c.args.words.now in
    let p = err_from_is_err_and c.from_residual.result c.from_residual.ensures.1 in
    let run : Result Terms TopFault = Err c.in_err-terms.field-0.0 in
    rw (p.1, p.2) (answer_then (IsMade words.number) (IsWithinWork words.proposals) (planned_of c.in-Ok.input)
    planned_run run
    (c.in-Ok.ensures.planned.feasible, c.in-Ok.ensures.made) c.in_err-terms.ensures.answers)

pub returns-clause-prepared : goal.returns-clause-prepared
returns-clause-prepared c reads =
    let words = c.args.words.now in
    let run : Result Terms TopFault = Ok c.in_ok-terms.terms in
    let due =
    answer_then (IsMade words.number) (IsWithinWork words.proposals) (planned_of c.in-Ok.input) planned_run run
    (c.in-Ok.ensures.planned.feasible, c.in-Ok.ensures.made) c.in_ok-terms.ensures.answers in
    completes_try c.in_ok-terms.terms words reads c.in_ok-terms.ensures.budget c.in_ok-terms.ensures.ahead due
