use Rattle.report_form.proofs.Lemmas.{count_is}
use Rattle.report_form.proofs.pieces.U32Listed.add.Goals as goal

pub returns : goal.returns
returns g c = rw (count_is c.args.self c.ranges.self) at c.add_word_and_number.ensures
