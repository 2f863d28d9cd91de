use Rattle.hull_engine.proofs.Common.{ℤ, rules, subst, w64, to_z-of_z, planned_run, Terms, IsCommandAnswer, rest_with}
use Rattle.hull_engine.proofs.Common.{nothing_read}
use Rattle.hull_command.specs.declared.ready.Purpose.TheVariants.{Price, Try, Bound, Fixed, Audit}
use Rattle.hull_engine.proofs.Lemmas.{ends_for, useful_within}
use Rattle.hull_engine.proofs.end.run_prepared_command.Goals as goal

pub terms_for_workers-terms-requires-clause-workers : goal.terms_for_workers-terms-requires-clause-workers
terms_for_workers-terms-requires-clause-workers g c =
    useful_within c.args.ready.terms.callers c.args.workers c.requires.ready.workers c.requires.workers

pub returns-in-Price-clause-ends : goal.returns-in-Price-clause-ends
returns-in-Price-clause-ends g c =
    let terms = c.args.ready.terms in
    ends_for g.S.Sink.held g.S.Sink.faults g.S.Sink.last c.args.out.now c.finish.new.out c.finish.result
    c.args.ready.purpose Price c.in-Price.is
    (planned_run terms) terms.budget terms.ahead
    (c.finish.ensures.ends Price (planned_run terms) terms.budget terms.ahead
    (subst (λ (m : Terms). IsCommandAnswer (rest_with Price (planned_run m) m.budget m.ahead) nothing_read
    c.answer_price.result) c.terms_for_workers-terms.ensures.same c.answer_price.ensures.answers))

pub returns-in-Try-clause-ends : goal.returns-in-Try-clause-ends
returns-in-Try-clause-ends g c =
    let terms = c.args.ready.terms in
    ends_for g.S.Sink.held g.S.Sink.faults g.S.Sink.last c.args.out.now c.finish-in-Try.new.out c.finish-in-Try.result
    c.args.ready.purpose (Try c.in-Try.number) c.in-Try.is
    (planned_run terms) terms.budget terms.ahead
    (c.finish-in-Try.ensures.ends (Try c.in-Try.number) (planned_run terms) terms.budget terms.ahead
    (subst (λ (m : Terms). IsCommandAnswer (rest_with (Try c.in-Try.number) (planned_run m) m.budget m.ahead)
    nothing_read
    c.answer_try.result) c.terms_for_workers-terms.ensures.same c.answer_try.ensures.answers))

pub returns-in-Bound-clause-ends : goal.returns-in-Bound-clause-ends
returns-in-Bound-clause-ends g c =
    let terms = c.args.ready.terms in
    ends_for g.S.Sink.held g.S.Sink.faults g.S.Sink.last c.args.out.now c.finish-in-Bound.new.out
    c.finish-in-Bound.result c.args.ready.purpose (Bound c.in-Bound.radius) c.in-Bound.is
    (planned_run terms) terms.budget terms.ahead
    (c.finish-in-Bound.ensures.ends (Bound c.in-Bound.radius) (planned_run terms) terms.budget terms.ahead
    (subst (λ (m : Terms). IsCommandAnswer (rest_with (Bound c.in-Bound.radius) (planned_run m) m.budget m.ahead)
    nothing_read
    c.answer_bound.result) c.terms_for_workers-terms.ensures.same
    (subst (λ (q : ℤ). IsCommandAnswer (rest_with (Bound q) (planned_run c.terms_for_workers-terms.result)
    c.terms_for_workers-terms.result.budget c.terms_for_workers-terms.result.ahead) nothing_read c.answer_bound.result)
    (to_z-of_z w64 c.in-Bound.radius (search rules)) c.answer_bound.ensures.answers)))

pub returns-in-Fixed-clause-ends : goal.returns-in-Fixed-clause-ends
returns-in-Fixed-clause-ends g c =
    let terms = c.args.ready.terms in
    ends_for g.S.Sink.held g.S.Sink.faults g.S.Sink.last c.args.out.now c.finish-in-Fixed.new.out
    c.finish-in-Fixed.result c.args.ready.purpose Fixed c.in-Fixed.is
    (planned_run terms) terms.budget terms.ahead
    (c.finish-in-Fixed.ensures.ends Fixed (planned_run terms) terms.budget terms.ahead
    (subst (λ (m : Terms). IsCommandAnswer (rest_with Fixed (planned_run m) m.budget m.ahead) nothing_read
    c.answer_fixed.result) c.terms_for_workers-terms.ensures.same c.answer_fixed.ensures.answers))

pub returns-in-Audit-clause-ends : goal.returns-in-Audit-clause-ends
returns-in-Audit-clause-ends g c =
    let terms = c.args.ready.terms in
    ends_for g.S.Sink.held g.S.Sink.faults g.S.Sink.last c.args.out.now c.finish-in-Audit.new.out
    c.finish-in-Audit.result c.args.ready.purpose (Audit c.in-Audit.report) c.in-Audit.is
    (planned_run terms) terms.budget terms.ahead
    (c.finish-in-Audit.ensures.ends (Audit c.in-Audit.report) (planned_run terms) terms.budget terms.ahead
    (subst (λ (m : Terms). IsCommandAnswer (rest_with (Audit c.in-Audit.report) (planned_run m) m.budget m.ahead)
    nothing_read
    c.answer_audit.result) c.terms_for_workers-terms.ensures.same c.answer_audit.ensures.answers))
