use Rattle.hull_report.proofs.Common.{rules, sym, subst, w128, to_z-of_z, IsTold}
use Rattle.hull_report.proofs.bound.write_bound.Goals as goal

pub write_bound_lines-requires-clause-value : goal.write_bound_lines-requires-clause-value
write_bound_lines-requires-clause-value g c =
    subst IsTold (sym (to_z-of_z w128 c.chosen_proposal_of_finished_board-choice.result.value (search rules)))
    c.chosen_proposal_of_finished_board-choice.ensures.told
