-- Workers at a shared board, and what their work does (this project's profile).
use Rattle.std.specs.Prelude.{◌≡◌, ◌≢◌, ◌⊎◌, ⊤, ℕ, ◌≤◌, true, List, ◌++◌, length}
use Rattle.std.specs.List.{All, AllWithin, AllZip, Contains, list_any}
use Rattle.board_store.specs.Calls.{has_finished}
use Rattle.board_store.specs.Rounds.{Stopped, is_halt}
use Rattle.board_core.specs.declared.replies.Claim.{Claim}
use Rattle.board_core.specs.declared.replies.Claim.TheVariants as claim
use Rattle.board_share.specs.Seats.{SeatValue, view_of, IsSeatOf, IsSameBoard}
use Rattle.board_share.specs.Views.{BoardEvent, View, caller_of, content}
use Rattle.board_share.specs.declared.shared.SharedBoard.{SharedBoard}
use Rattle.uc_model.specs.Data.{Market, units}
use Rattle.uc_model.specs.PlainCases.{task_unit}
use Rattle.uc_model.specs.PlainUnits.{prices_of, schedule_of}
use Rattle.uc_model.specs.TaskRoom.{IsTaskFor}
use Rattle.uc_model.specs.declared.cases.Task.{Task}
use Rattle.answer_workers.specs.Answers.{HasSchedule, IsBenchOf}
use Rattle.unit_program.specs.Answers.{IsResponse}
use Rattle.answer_workers.specs.declared.worker.Worker.{Worker}
use Rattle.answer_workers.specs.declared.worker.Held.{Held}
use Rattle.answer_workers.specs.declared.worker.TheConstants.{MOST_HELD}
use Rattle.answer_workers.specs.declared.worker.Ended.{Ended}
use Rattle.answer_workers.specs.declared.worker.Ended.TheVariants.{Finished, Halted}

-- ---- a worker

-- a task that is held and its answer fit the case
pub record IsHeldFor (m : Market) (h : Held) : Type 0 where
  pub task : IsTaskFor m.periods h.task
  pub answer : length (schedule_of h.answer.response).on ≡ m.periods

-- its bench, its tasks and its answers fit the case, and it has room for the most tasks
pub record HasParts (m : Market) (w : Worker) : Type 0 where
  pub bench : IsBenchOf m w.bench
  pub task : IsTaskFor m.periods w.task
  pub answer : length (schedule_of w.answer.response).on ≡ m.periods
  pub count : length w.held.items ≡ MOST_HELD
  pub held : All (IsHeldFor m) w.held.items

abbrev pub market_at : SeatValue → Market
market_at s = (view_of s).setup.market

-- it has a seat of the board, and parts that fit the board's case
pub record IsWorkerOf (b : SharedBoard) (w : Worker) : Type 0 where
  pub seat : IsSeatOf b w.seat
  pub parts : HasParts (market_at w.seat) w

-- a task of the case that has an answer: its unit is one of the case's, and some schedule of that
-- is feasible
pub record IsAnswerable (m : Market) (t : Task) : Type 0 where
  pub unit : Contains (units m) (task_unit t)
  pub some : HasSchedule (task_unit t) m.periods

-- the first so many of the tasks that it holds are such
abbrev pub AreGiven : ℕ → Worker → Type 0
AreGiven k w =
    (k ≤ MOST_HELD)
    × AllWithin (λ (h : Held). IsAnswerable (market_at w.seat) h.task) w.held.items 0 k

-- it is answered
abbrev pub IsAnswered : Held → Type 0
IsAnswered h = IsResponse (task_unit h.task) (prices_of h.task.prices) h.answer

-- and the first so many of them are answered
abbrev pub AreAnswered : ℕ → Worker → Type 0
AreAnswered k w = (k ≤ MOST_HELD) × AllWithin IsAnswered w.held.items 0 k

-- ---- what work does

-- an event that a seat comes to see of its worker's work and that of others: it isn't a halt of its
-- own caller; and the owner's seat sees those of its own caller, and of callers whose seats are out
abbrev pub Came : View → BoardEvent → Type 0
Came v e =
    (e ≢ Stopped v.caller) × (v.caller ≡ 0 → (caller_of e ≡ 0) ⊎ Contains v.out (caller_of e))

-- the seat has seen what it had seen, and more, and is otherwise as it was
pub record GoesOn (v w : View) : Type 0 where
  pub more : List BoardEvent
  pub longer : v.seen ++ more ≡ w.seen
  pub came : All (Came v) more
  pub same : w ≡ record v { seen = w.seen }

-- the worker's seat has gone on at its board, and its parts still fit
pub record HasWorked (old new : Worker) : Type 0 where
  pub board : IsSameBoard old.seat new.seat
  pub goes : GoesOn (view_of old.seat) (view_of new.seat)
  pub parts : HasParts (market_at new.seat) new

-- and so has each of a row of workers
abbrev pub HaveWorked : List Worker → List Worker → Type 0
HaveWorked old new = AllZip HasWorked old new

-- ---- how it ends

abbrev pub HasFinished : Worker → Type 0
HasFinished w = has_finished (content (view_of w.seat).setup (view_of w.seat).seen) ≡ true

abbrev pub HasSeenHalt : Worker → Type 0
HasSeenHalt w = list_any is_halt (view_of w.seat).seen ≡ true

-- what the answer of its last claim tells of the board
abbrev pub IsEnd : Claim → Worker → Type 0
IsEnd claim.Finished w = HasFinished w
IsEnd claim.Halted w = HasSeenHalt w
IsEnd claim.Given w = ⊤
IsEnd claim.NotYet w = ⊤

-- and of the task that it gave
abbrev pub IsTold : Claim → Worker → Type 0
IsTold claim.Finished w = HasFinished w
IsTold claim.Halted w = HasSeenHalt w
IsTold claim.Given w = IsAnswerable (market_at w.seat) w.task
IsTold claim.NotYet w = ⊤

abbrev pub HasEnded : Ended → Worker → Type 0
HasEnded Finished w = HasFinished w
HasEnded Halted w = HasSeenHalt w

-- each has seen a finished history, or some one a halt
abbrev pub HaveEnded : Ended → List Worker → Type 0
HaveEnded Finished ws = All HasFinished ws
HaveEnded Halted ws = (w : Worker) × Contains ws w × HasSeenHalt w
