use Rattle.hull_words.proofs.Common.{sym, drop, ◌+◌, string_bytes, texts, found_so_far, set_count}
use Rattle.std.specs.Option.{option_copied}
use Rattle.hull_words.proofs.Counts.{word_step-count}
use Rattle.hull_words.proofs.Lemmas.{texts-drop, past_value, past_word, at_fault, few_more}
use Rattle.hull_words.proofs.word_pass.read_word_at_index.Goals as goal

pub returns-then-is_value-clause-ok : goal.returns-then-is_value-clause-ok
returns-then-is_value-clause-ok c = rw c.if-is_value.true
    (past_value c.args.command c.args.words.now c.args.index (found_so_far c.args.given) c.requires.within)

pub returns-in-Ok-clause-ok : goal.returns-in-Ok-clause-ok
returns-in-Ok-clause-ok c =
    rw c.if-is_value.false (past_word c.args.command (drop c.args.index (texts c.args.words.now))
    (drop (c.args.index + 1) (texts c.args.words.now)) (string_bytes c.index-words-index.result)
    c.as_str-word.result.now
    (option_copied c.word_at.result) c.args.index c.takes_next_word.result (found_so_far c.args.given)
    (found_so_far c.in-Ok.read)
    (texts-drop c.args.words.now c.args.index c.index-words-index.result c.requires.within c.index-words-index.is)
    c.as_str-word.ensures.value c.word_at.ensures c.in-Ok.ensures c.takes_next_word.ensures)

pub returns-in-Ok-clause-few : goal.returns-in-Ok-clause-few
returns-in-Ok-clause-few c =
    few_more c.args.index (set_count (found_so_far c.args.given)) (set_count (found_so_far c.in-Ok.read))
    c.args.is_value c.takes_next_word.result c.if-is_value.false c.requires.few
    (word_step-count c.args.command c.as_str-word.result.now (option_copied c.word_at.result)
    (found_so_far c.args.given) (found_so_far c.in-Ok.read) (sym c.in-Ok.ensures))

pub returns-in-Err-clause-err : goal.returns-in-Err-clause-err
returns-in-Err-clause-err c =
    rw c.if-is_value.false (at_fault c.args.command (drop c.args.index (texts c.args.words.now))
    (drop (c.args.index + 1) (texts c.args.words.now)) (string_bytes c.index-words-index.result)
    c.as_str-word.result.now
    (option_copied c.word_at.result) c.args.index (found_so_far c.args.given) c.in-Err.code
    (texts-drop c.args.words.now c.args.index c.index-words-index.result c.requires.within c.index-words-index.is)
    c.as_str-word.ensures.value c.word_at.ensures c.in-Err.ensures)
