use Rattle.report_form.proofs.Common.{w128, to_z-of_z}
use Rattle.report_form.proofs.Lemmas.{amount_is}
use Rattle.report_form.proofs.pieces.I128Listed.add.Goals as goal

pub returns : goal.returns
returns g c = rw (
  to_z-of_z w128 c.args.self c.ranges.self,
  amount_is c.args.self
      c.ranges.self,
) at c.add_word_and_number.ensures
