use Rattle.hull_engine.proofs.Common.{◌≡◌, subst, texts, words_of, command_for, planned_run, rest_of, Gains, FallsShort}
use Rattle.hull_io.specs.Edge.{Rose}
use Rattle.hull_command.specs.Rest.{IsBefore, IsUntouched, nothing_read}
use Rattle.hull_command.specs.Outcome.{Ends}
use Rattle.hull_command.specs.declared.ready.Before.{Before}
use Rattle.hull_engine.proofs.Lemmas.{ends_of_rest}
use Rattle.hull_engine.proofs.hull_run.Goals as goal

pub returns-in-Ended-clause-outcome : goal.returns-in-Ended-clause-outcome
returns-in-Ended-clause-outcome g c =
    let before = subst (λ (b : Before). IsBefore (words_of (texts c.args.words.now)) (g.F.Shelf.told c.args.shelf.now)
    (λ name. Rose g.F.Shelf.last (g.F.Shelf.faults c.args.shelf.now name)
    (g.F.Shelf.faults c.hull_before_run.new.shelf name))
    (Gains g.S.Sink.held g.S.Sink.faults c.args.out.now c.hull_before_run.new.out)
    (FallsShort g.S.Sink.held g.S.Sink.faults g.S.Sink.last c.args.out.now c.hull_before_run.new.out) b)
    c.in-Ended.is c.hull_before_run.ensures.before in
    record {
      reads = before.0;
      are_reads = before.1;
      end = c.in-Ended.end;
      ends = before.2;
      status_is = c.status.ensures;
    }

pub returns-in-Ready-clause-outcome : goal.returns-in-Ready-clause-outcome
returns-in-Ready-clause-outcome g c =
    let ready = c.in-Ready.ready in
    let before = subst (λ (b : Before). IsBefore (words_of (texts c.args.words.now)) (g.F.Shelf.told c.args.shelf.now)
    (λ name. Rose g.F.Shelf.last (g.F.Shelf.faults c.args.shelf.now name)
    (g.F.Shelf.faults c.hull_before_run.new.shelf name))
    (Gains g.S.Sink.held g.S.Sink.faults c.args.out.now c.hull_before_run.new.out)
    (FallsShort g.S.Sink.held g.S.Sink.faults g.S.Sink.last c.args.out.now c.hull_before_run.new.out) b)
    c.in-Ready.is c.hull_before_run.ensures.before in
    let untouched = subst (λ (b : Before). IsUntouched b (c.hull_before_run.new.out ≡ c.args.out.now)) c.in-Ready.is
    c.hull_before_run.ensures.unwritten in
    let ends = subst (λ out. Ends (rest_of ready) nothing_read
    (Gains g.S.Sink.held g.S.Sink.faults out c.run_prepared_command.new.out)
    (FallsShort g.S.Sink.held g.S.Sink.faults g.S.Sink.last out c.run_prepared_command.new.out)
    c.run_prepared_command.result)
    untouched
    c.run_prepared_command.ensures.ends in
    record {
      reads = before.2.0;
      are_reads = before.2.1;
      end = c.run_prepared_command.result;
      ends = ends_of_rest (command_for (words_of (texts c.args.words.now))) ready.purpose (planned_run ready.terms)
          ready.terms.budget ready.terms.ahead before.2.0 before.2.2 _ _ c.run_prepared_command.result ends;
      status_is = c.status-in-Ready.ensures;
    }
