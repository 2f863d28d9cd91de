-- The events of a board, read off its entries and its stored answers.
use Rattle.std.specs.Prelude.{ℕ, ◌+◌, ◌-◌, ◌*◌, List, map, slice_index_or}
use Rattle.board_store.specs.Board.{Answer, no_answer}
use Rattle.board_store.specs.Rounds.{Event, Given, Taken, Closing, Stopped}
use Rattle.board_store.specs.declared.entries.Entry.{Entry}
use Rattle.board_store.specs.declared.entries.Reply.{Reply}
use Rattle.board_store.specs.declared.entries.Reply.TheVariants as replies

-- the number of a task among all: by proposal, and then by unit
abbrev pub task_number : ℕ → ℕ → ℕ → ℕ
task_number units n u = (n - 1) * units + u

abbrev pub event_by : Reply → (c n u : ℕ) → Answer → Event Answer
event_by replies.Given c n u a = Given c n u
event_by replies.Taken c n u a = Taken c n u a
event_by replies.Closing c n u a = Closing c n u a
event_by replies.Stopped c n u a = Stopped c

abbrev pub event_of : ℕ → List Answer → Entry → Event Answer
event_of units answers e =
    event_by e.reply e.caller e.proposal e.unit
    (slice_index_or answers (task_number units e.proposal e.unit) no_answer)

abbrev pub events_of : ℕ → List Answer → List Entry → List (Event Answer)
events_of units answers entries = map (event_of units answers) entries
