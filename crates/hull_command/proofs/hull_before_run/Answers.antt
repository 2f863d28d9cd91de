use Rattle.hull_command.proofs.Common.{Err, texts, words_of, command_for}
use Rattle.hull_command.proofs.Lemmas.{ended_as}
use Rattle.hull_command.proofs.hull_before_run.Goals as goal

pub returns-in-Ok-clause-before : goal.returns-in-Ok-clause-before
returns-in-Ok-clause-before g c = rw c.in-Ok.ensures.given c.answer_or_prepare_command.ensures.before

pub returns-in-Ok-clause-unread : goal.returns-in-Ok-clause-unread
returns-in-Ok-clause-unread g c = rw c.in-Ok.ensures.given c.answer_or_prepare_command.ensures.unread

pub returns-in-Err-clause-before : goal.returns-in-Err-clause-before
returns-in-Err-clause-before g c =
    let command = command_for (words_of (texts c.args.words.now)) in
    let some = c.some_reads_of_files_exist.ensures c.args.shelf.now c.args.shelf.now command.name_of in
    ended_as command _ _ _ _ (Err c.in-Err.fault) c.finish.result
    (some.0, some.1, c.in-Err.ensures.refused some.0) c.finish.ensures.end
