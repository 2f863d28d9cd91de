-- The lemmas that answers cite, passed on from one place.
pub use Rattle.plain_lists.proofs.ListLaws.{if_some_more}
pub use Rattle.unit_table.proofs.BeginLaws.{at_once_some, at_once_none}
pub use Rattle.unit_table.proofs.LiveLaws.{going_on, live_other, live_here, live_from, off_from, on_from, kept_none}
pub use Rattle.unit_table.proofs.LiveLaws.{kept_then, kept_written, kept_roomy, kept_room, kept_left, stopped_one}
pub use Rattle.unit_table.proofs.LiveLaws.{written_here, written_other, kept_trails}
pub use Rattle.unit_table.proofs.LiveLaws.{none_trails, room_one, rooms_then, rooms_written}
pub use Rattle.unit_table.proofs.LiveLaws.{begun_one, off_roomy, all_off, fewer_none, fewer_then, fewer_off}
pub use Rattle.unit_table.proofs.LiveLaws.{fewer_small}
pub use Rattle.unit_table.proofs.LiveLaws.{fewer_but, below_of, under_of, beyond_of, small_of}
pub use Rattle.unit_table.proofs.LiveLaws.{going_off, on_same, room_more, room_next, still_roomy}
pub use Rattle.unit_table.proofs.LogLaws.{entries_more, entries_fit, entries_small}
pub use Rattle.unit_table.proofs.OriginLaws.{origins_to, origins_within, entry_beyond}
pub use Rattle.unit_table.proofs.PeriodLaws.{filled_whole, period_off, period_run, period_filled}
pub use Rattle.unit_table.proofs.RosterLaws.{none_run, run_before, one_run, run_whole, IsListRun, still_listed}
pub use Rattle.unit_table.proofs.RosterLaws.{none_listed, one_listed, none_kept, one_kept, one_off, all_kept}
pub use Rattle.unit_table.proofs.RosterLaws.{first_inside, IsKeptTo}
pub use Rattle.unit_table.proofs.RowLaws.{cost-same, first-same}
pub use Rattle.unit_table.proofs.RunAllLaws.{run_begins, run_over, item_at, run_written, run_skipped}
pub use Rattle.unit_table.proofs.RunningSpellRowLaws.{row_end}
pub use Rattle.unit_table.proofs.StandInLaws.{may_next, beyond_goes, early_goes, none_starts, start_undercut}
pub use Rattle.unit_table.proofs.StandInLaws.{starts_beyond, start_beyond}
pub use Rattle.unit_table.proofs.StartLaws.{started, none_goes_on, one_goes_on}
pub use Rattle.unit_table.proofs.BacktrackLaws.{always, end_some, end_left, ways_same, ways_none, ways_more}
pub use Rattle.unit_table.proofs.BacktrackLaws.{noted_fewer, noted_start, noted_all}
