use Rattle.hull_command.proofs.Common.{inl, inr, refl, asked, texts, words_of}
use Rattle.hull_command.proofs.Lemmas.{refused_words, words_have_sizes}
use Rattle.hull_command.proofs.prepare.command_of_words.Goals as goal

pub returns-in-Ok-clause-sizes : goal.returns-in-Ok-clause-sizes
returns-in-Ok-clause-sizes c = words_have_sizes (texts c.args.words.now) (asked c.in-Ok.command) c.in-Ok.ensures

pub returns-in-Err-Fault-clause-refused : goal.returns-in-Err-Fault-clause-refused
returns-in-Err-Fault-clause-refused c reads =
    inl (refused_words (words_of (texts c.args.words.now)) c.in-Err-Fault.fault
    (rw c.in-Err-Fault.field-0-is at c.in-Err-Fault.ensures) reads)

pub returns-in-Err-Memory-clause-refused : goal.returns-in-Err-Memory-clause-refused
returns-in-Err-Memory-clause-refused c reads = inr refl
