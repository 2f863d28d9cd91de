use Rattle.report_form.proofs.Common.{rules, w128, to_z-of_z}
use Rattle.report_form.proofs.Lemmas.{amount_is, wide_count_is}
use Rattle.report_form.proofs.parts.add_form_part.Goals as goal

pub returns-in-Count : goal.returns-in-Count
returns-in-Count g c = rw (c.in-Count.is, ← wide_count_is c.in-Count.n (search rules)) c.add_number.ensures

pub returns-in-Amount : goal.returns-in-Amount
returns-in-Amount g c = rw (c.in-Amount.is, ← amount_is c.in-Amount.x (search rules))
    (rw (to_z-of_z w128 c.in-Amount.x (search rules)) at c.add_number-in-Amount.ensures)
