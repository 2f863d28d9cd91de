-- The lemmas that answers cite, passed on from one place.
pub use Rattle.unit_program.proofs.BackLaws.{written_none, written_first}
pub use Rattle.unit_program.proofs.BenchLaws.{charge_less, bench_kept, room_more, way_found}
pub use Rattle.unit_program.proofs.BestLaws.{best_of, least_of, cleared_idle, cleared_zero}
pub use Rattle.unit_program.proofs.EndLaws.{IsLeastOf, one_more, least_end_of_all, earliest_of_all, no_end_of_all}
pub use Rattle.unit_program.proofs.LimitLaws.{end_capped, end_earliest, end_low, if_none_more, none_feasible}
pub use Rattle.unit_program.proofs.LimitLaws.{found_within, none_found}
pub use Rattle.unit_table.proofs.RowLaws.{cost-is, first-is}
pub use Rattle.unit_program.proofs.TopLaws.{can_answer, answer_top, tops_pushed, AreTopsTo}
pub use Rattle.unit_program.proofs.Units.{serves_all, some_at, bench_at, case_bench_kept, found, answer_long}
pub use Rattle.unit_program.proofs.MostPoints.{greater, greater_within, few_more, all_few, HaveFew}
