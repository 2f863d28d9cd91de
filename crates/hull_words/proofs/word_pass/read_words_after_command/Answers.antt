use Rattle.hull_words.proofs.Common.{sym, ◌∙◌, ◌+◌}
use Rattle.hull_words.proofs.Lemmas.{at_end}
use Rattle.hull_words.proofs.word_pass.read_words_after_command.Goals as goal

pub returns-clause-read : goal.returns-clause-read
returns-clause-read c =
    sym (at_end c.args.command c.args.words.now c.loop-index.index (c.loop-index.index + 2) c.loop-index.is_value _
    c.loop-index-test.false) ∙ c.loop-index.invariant.rest
