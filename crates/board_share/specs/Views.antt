-- What a seat at the table knows (this project's profile).
use Rattle.std.specs.Prelude.{ℕ, ◌+◌, ◌==◌, pos, List, [], ◌∷◌, ◌++◌, length, nat_lt, if◌then◌else◌}
use Rattle.board_store.specs.Board.{Setup, Answer, Content}
use Rattle.board_store.specs.Rounds.{Event, Given, Taken, Closing, Stopped}

abbrev pub BoardEvent : Type 0
BoardEvent = Event Answer

-- whose call made the event
abbrev pub caller_of : BoardEvent → ℕ
caller_of (Given c n u) = c
caller_of (Taken c n u a) = c
caller_of (Closing c n u a) = c
caller_of (Stopped c) = c

abbrev pub content : Setup → List BoardEvent → Content
content b h = record { setup = b; events = h }

-- A seat has no ticket where it is idle. `joined` is the owner's between the two reads of a join:
-- what it and the other had seen, the callers whose seats were out, and the other's caller number
pub data Stage : Type 0 where
  idle : Stage
  waits : ℕ → Stage
  turn : ℕ → Stage
  spent : Stage
  joined : (own other : List BoardEvent) → (out : List ℕ) → (caller : ℕ) → Stage

-- `setup` is what the seat names: what its board was made for. `made` and `out` are the owner's:
-- how many seats there were, and the callers whose seats are out
pub record View : Type 0 where
  pub caller : ℕ
  pub seen : List BoardEvent
  pub setup : Setup
  pub made : ℕ
  pub out : List ℕ
  pub stage : Stage

abbrev pub at_stage : View → Stage → View
at_stage v st = record v { stage = st }

abbrev pub first_view : Content → View
first_view b =
    record { caller = 0; seen = b.events; setup = b.setup; made = 1; out = 0 ∷ []; stage = idle }

-- what a board is made for where there is none
abbrev pub no_setup : Setup
no_setup = record {
  market = record { periods = 0; demand = []; reserves = []; thermal = []; flat = []; bids = [] };
  plan = [];
  cost = pos 0;
  budget = 0;
  ahead = 0;
  callers = 0;
}

abbrev pub nobody : View
nobody = record { caller = 0; seen = []; setup = no_setup; made = 0; out = []; stage = spent }

abbrev pub ticket_count : Stage → ℕ
ticket_count idle = 0
ticket_count (waits t) = 1
ticket_count (turn t) = 1
ticket_count spent = 0
ticket_count (joined a b l c) = 0

abbrev pub live_count : Stage → ℕ
live_count idle = 1
live_count (waits t) = 1
live_count (turn t) = 1
live_count spent = 0
live_count (joined a b l c) = 1

-- the list with c taken out once
abbrev pub without : ℕ → List ℕ → List ℕ
without c [] = []
without c (x ∷ xs) = if x == c then xs else x ∷ without c xs

abbrev pub longer : List BoardEvent → List BoardEvent → List BoardEvent
longer a b = if nat_lt (length a) (length b) then b else a

-- the owner after a split, and the seat that it gives
abbrev pub cut_left : View → View
cut_left v = record v { made = v.made + 1; out = v.out ++ v.made ∷ [] }

abbrev pub cut_right : View → View
cut_right v =
    record { caller = v.made; seen = v.seen; setup = v.setup; made = 0; out = []; stage = idle }

-- the owner between the two reads of a join
abbrev pub glued : View → View → View
glued v w = record v {
  seen = longer v.seen w.seen;
  out = without w.caller v.out;
  stage = joined v.seen w.seen v.out w.caller;
}
