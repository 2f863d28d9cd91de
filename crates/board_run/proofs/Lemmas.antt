-- The lemmas that answers cite, passed on from one place.
pub use Rattle.board_run.proofs.BenchLaws.{bench_over}
pub use Rattle.board_run.proofs.CrewLaws.{join_one, hired_first, hired_again, crew_all, crew_done, written}
pub use Rattle.board_run.proofs.CrewLaws.{all_finished, crew_names}
pub use Rattle.board_run.proofs.FixedLaws.{held_setup_is, held_feasible, held_market, fixed_side_is}
