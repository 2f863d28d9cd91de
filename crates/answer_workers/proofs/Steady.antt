-- A worker that has worked still is one of its board.
use Rattle.answer_workers.proofs.Common.{◌≡◌, length, ap, ◌∙◌, refl, sym, subst, Setup, SeatValue, view_of, IsSameBoard}
use Rattle.answer_workers.proofs.Common.{SharedBoard, Market, schedule_of, IsTaskFor, Task, IsBenchOf, IsWorkerOf}
use Rattle.answer_workers.proofs.Common.{HasParts, HasWorked, GoesOn, IsHeldFor, All, market_at, Worker}
use Rattle.answer_workers.proofs.Going.{stays, then_on}

pub rests : (w : Worker) → HasParts (market_at w.seat) w → HasWorked w w
rests w parts = record { board = (refl, refl); goes = stays (view_of w.seat); parts = parts }

-- its seat stays as it was
pub seat_stays : (w now : Worker) → now.seat ≡ w.seat → HasParts (market_at now.seat) now → HasWorked w now
seat_stays w now same parts = record {
  board = (ap (λ (s : SeatValue). s.board) same, ap (λ (s : SeatValue). (view_of s).setup) same);
  goes = subst (λ (s : SeatValue). GoesOn (view_of w.seat) (view_of s)) (sym same) (stays (view_of w.seat));
  parts = parts;
}

pub works_on : (a b c : Worker) → HasWorked a b → HasWorked b c → HasWorked a c
works_on a b c p q = record {
  board = (q.board.0 ∙ p.board.0, q.board.1 ∙ p.board.1);
  goes = then_on (view_of a.seat) (view_of b.seat) (view_of c.seat) p.goes q.goes;
  parts = q.parts;
}

pub still_of : (b : SharedBoard) (old new : Worker) → IsWorkerOf b old → HasWorked old new → IsWorkerOf b new
still_of b old new is h =
    record { seat = (h.board.0 ∙ is.seat.0, ap (λ (s : Setup). s.callers) h.board.1 ∙ is.seat.1); parts = h.parts }

-- a seat that has gone on names the same market
pub same_market : (old new : SeatValue) → IsSameBoard old new → market_at old ≡ market_at new
same_market old new same = ap (λ (s : Setup). s.market) (sym same.1)

-- a claim leaves the seat further on, and maybe another task
pub parts_after : (old : Worker) (seat : SeatValue) (task : Task) → IsSameBoard old.seat seat →
    HasParts (market_at old.seat) old → IsTaskFor (market_at seat).periods task →
    HasParts (market_at seat) (record old { seat = seat; task = task })
parts_after old seat task same parts room =
    let m : market_at old.seat ≡ market_at seat = same_market old.seat seat same in record {
      bench = subst (λ (n : Market). IsBenchOf n old.bench) m parts.bench;
      task = room;
      answer = subst (λ (n : Market). length (schedule_of old.answer.response).on ≡ n.periods) m parts.answer;
      count = parts.count;
      held = subst (λ (n : Market). All (IsHeldFor n) old.held.items) m parts.held;
    }

-- a post leaves it further on
pub parts_posted : (old : Worker) (seat : SeatValue) → IsSameBoard old.seat seat → HasParts (market_at old.seat) old →
    HasParts (market_at seat) (record old { seat = seat })
parts_posted old seat same parts = parts_after old seat old.task same parts
    (subst (λ (n : Market). IsTaskFor n.periods old.task) (same_market old.seat seat same) parts.task)
