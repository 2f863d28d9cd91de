use Rattle.hull_command.proofs.Common.{Gains, FallsShort}
use Rattle.hull_command.proofs.Lemmas.{end_of_text}
use Rattle.hull_command.proofs.end.finish.Goals as goal

pub returns-in-Ok-clause-end : goal.returns-in-Ok-clause-end
returns-in-Ok-clause-end g c =
    let e = c.write_answer.ensures in
    let out = c.write_answer.new.out in
    rw c.in-Ok.is (end_of_text (Gains g.S.Sink.held g.S.Sink.faults c.args.out.now out)
    (FallsShort g.S.Sink.held g.S.Sink.faults g.S.Sink.last c.args.out.now out) c.in-Ok.answer c.write_answer.result
    c.end_of_written_text.result e.0 e.1 e.2.ok e.2.err c.end_of_written_text.ensures.whole
    c.end_of_written_text.ensures.cut)
