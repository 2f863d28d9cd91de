use Rattle.report_compare.proofs.Common.{◌∷◌, [], w128, to_z-of_z, chosen_text, report_of}
use Rattle.report_compare.proofs.Lemmas.{judged_compare, choice_judged}
use Rattle.report_compare.proofs.parts.compare_chosen.Goals as goal

pub returns-clause-lines : goal.returns-clause-lines
unfolding report_of
returns-clause-lines c =
    let r = c.args.report.now in
    let choice = rw (to_z-of_z w128 c.args.value c.ranges.value) at c.same_chosen_proposal.ensures in
    rw c.first_wrong_line.ensures
    (judged_compare c.args.first (c.same_chosen_proposal.result ∷ []) (chosen_text r.chosen r.chosen_value ∷ [])
    (chosen_text c.args.chosen c.args.value ∷ [])
    (choice_judged c.same_chosen_proposal.result r.chosen c.args.chosen r.chosen_value c.args.value choice, tt))
