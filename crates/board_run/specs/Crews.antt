-- The workers of a run: one for each seat of its board (this project's profile).
use Rattle.std.specs.Prelude.{◌≡◌, ◌≢◌, ◌⊎◌, ℕ, ◌+◌, true, List, [], ◌∷◌, ◌++◌, length}
use Rattle.std.specs.List.{All, Contains, list_any}
use Rattle.board_store.specs.Board.{Setup}
use Rattle.board_store.specs.Calls.{has_finished}
use Rattle.board_store.specs.Rounds.{Stopped, is_halt}
use Rattle.board_share.specs.Seats.{SeatValue, view_of, IsSeatOf, IsSameBoard, IsOwner}
use Rattle.board_share.specs.Views.{BoardEvent, View, content, no_setup}
use Rattle.board_share.specs.declared.shared.SharedBoard.{SharedBoard}
use Rattle.answer_workers.specs.Workers.{IsWorkerOf, HasSeenHalt}
use Rattle.answer_workers.specs.declared.worker.Worker.{Worker}

-- what the first one's seat names
abbrev pub named_by : List Worker → Setup
named_by [] = no_setup
named_by (w ∷ ws) = (view_of w.seat).setup

-- ---- before the work

-- a worker of a new board for that
pub record IsNew (b : Setup) (board : SharedBoard) (w : Worker) : Type 0 where
  pub own : IsWorkerOf board w
  pub setup : (view_of w.seat).setup ≡ b
  pub seen : (view_of w.seat).seen ≡ []

-- all of them, as many as the board has callers: the last has the owner's seat, the others have
-- those that were split from it, and no other seat is out
pub record IsCrew (b : Setup) (board : SharedBoard) (ws : List Worker) : Type 0 where
  pub others : List Worker
  pub owner : Worker
  pub all : ws ≡ others ++ owner ∷ []
  pub callers : length ws ≡ b.callers
  pub new : All (IsNew b board) ws
  pub is_owner : IsOwner owner.seat
  pub split : All (λ (w : Worker). IsOwner w.seat → ⊥) others
  pub count : length (view_of owner.seat).out ≡ length ws
  pub owner_out : Contains (view_of owner.seat).out 0

-- the owner's seat after so many seats were made, its own among them, with the workers of the
-- others
pub record IsHired (b : Setup) (board : SharedBoard) (owner : SeatValue) (k : ℕ)
    (ws : List Worker) : Type 0 where
  pub own : IsSeatOf board owner × IsOwner owner
  pub setup : (view_of owner).setup ≡ b
  pub seen : (view_of owner).seen ≡ []
  pub made : (view_of owner).made ≡ k
  pub out : length (view_of owner).out ≡ k
  pub owner_out : Contains (view_of owner).out 0
  pub count : length ws + 1 ≡ k
  pub new : All (IsNew b board) ws
  pub split : All (λ (w : Worker). IsOwner w.seat → ⊥) ws

-- ---- after it

-- a worker with a seat that was split from the owner's, which has seen no halt of its own caller
pub record IsCalmWorker (owner : SeatValue) (w : Worker) : Type 0 where
  pub same : IsSameBoard owner w.seat
  pub split : IsOwner w.seat → ⊥
  pub calm : All (λ (e : BoardEvent). e ≢ Stopped (view_of w.seat).caller) (view_of w.seat).seen

-- a halt would be of another caller than the owner, whose seat is out
abbrev pub IsCalm : List ℕ → BoardEvent → Type 0
IsCalm out e = (c : ℕ) → e ≡ Stopped c → Contains out c × (c ≢ 0)

abbrev pub StartsWith : List BoardEvent → List BoardEvent → Type 0
StartsWith h start = (rest : List BoardEvent) × (start ++ rest ≡ h)

-- the owner has seen a finished history, or a halt, or one of the others has seen a halt
abbrev pub SomeEnd : View → List Worker → Type 0
SomeEnd v ws =
    ((start : List BoardEvent) × StartsWith v.seen start
    × (has_finished (content v.setup start) ≡ true))
    ⊎ ((list_any is_halt v.seen ≡ true) ⊎ ((w : Worker) × Contains ws w × HasSeenHalt w))

-- the owner's seat, and the workers whose seats are still out
pub record AreOut (board : SharedBoard) (owner : SeatValue) (ws : List Worker) : Type 0 where
  pub own : IsSeatOf board owner × IsOwner owner
  pub others : All (IsCalmWorker owner) ws
  pub count : length (view_of owner).out ≡ length ws + 1
  pub owner_out : Contains (view_of owner).out 0
  pub calm : All (IsCalm (view_of owner).out) (view_of owner).seen
  pub ended : SomeEnd (view_of owner) ws
