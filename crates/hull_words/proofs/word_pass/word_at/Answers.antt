use Rattle.hull_words.proofs.Lemmas.{first_of-texts}
use Rattle.hull_words.proofs.word_pass.word_at.Goals as goal

pub returns-then-index-words : goal.returns-then-index-words
returns-then-index-words c = rw c.as_str.ensures.value
    (first_of-texts c.args.words.now c.args.index c.index-words-index.result c.if-index-words.true
    c.index-words-index.is)
