use Rattle.report_form.proofs.Common.{w64, to_z-of_z}
use Rattle.report_form.proofs.Lemmas.{number_is}
use Rattle.report_form.proofs.pieces.I64Listed.add.Goals as goal

pub returns : goal.returns
returns g c = rw (
  to_z-of_z w64 c.args.self c.ranges.self,
  number_is c.args.self
      c.ranges.self,
) at c.add_word_and_number.ensures
