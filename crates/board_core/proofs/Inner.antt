-- What a board holds: its setup, its events and its lists.
use Rattle.board_core.proofs.Common.{List, Setup, Answer, Event, unit_count, events_of, Lists, setup_of}
use Rattle.board_core.specs.declared.board.Board.TheInside.{Inside}

abbrev pub setup_in : Inside → Setup
setup_in s = setup_of s.terms

abbrev pub events_in : Inside → List (Event Answer)
events_in s = events_of (unit_count (setup_in s).market) s.store.answers s.lists.history.items

abbrev pub lists_in : Inside → Lists
lists_in s = record {
  takers = s.lists.takers.items;
  marks = s.lists.marks.items;
  kept = s.store.answers;
  counts =
      s.lists.counts.items;
  halted = s.lists.halted.items;
  any_halt = s.any_halt;
}
