-- The tasks that a worker holds, of which one after another is given or answered.
use Rattle.answer_workers.proofs.Common.{◌≡◌, ℕ, ◌+◌, ◌<◌, List, length, get_or, set, sym, ap, ◌∙◌, subst, arith}
use Rattle.answer_workers.proofs.Common.{length-set, AllWithin, All-set, AllWithin-more_set, with_item, AnyUnit}
use Rattle.answer_workers.proofs.Common.{Thermal, Flat, Bid, PriceLists, Market, task_unit, prices_of, schedule_of}
use Rattle.answer_workers.proofs.Common.{IsTaskFor, Task, Answered, Bench, HasSchedule, IsResponse, Suffices, HasParts}
use Rattle.answer_workers.proofs.Common.{HasWorked, IsHeldFor, IsAnswerable, IsAnswered, AreGiven, AreAnswered}
use Rattle.answer_workers.proofs.Common.{market_at, MOST_HELD, Held, Worker}
use Rattle.answer_workers.proofs.BenchLaws.{all_kept, serves_in}
use Rattle.answer_workers.proofs.Steady.{same_market}

-- an answer is over the periods of its prices
pub answer_long : (u : AnyUnit) (π : PriceLists) (a : Answered) → IsResponse u π a →
    length (schedule_of a.response).on ≡ length π.energy
answer_long (Thermal g) π a r = r.fit.best.feasible.schedule.on
answer_long (Flat f) π a r = r.fit.best.feasible.schedule.on
answer_long (Bid b) π a r = r.fit.best.feasible.schedule.on

-- ---- what an answer requires

module _ (m : Market) (t : Task) (fits : IsTaskFor m.periods t) (open_task : IsAnswerable m t) where
  pub some_schedule : HasSchedule (task_unit t) (length (prices_of t.prices).energy)
  some_schedule = subst (HasSchedule (task_unit t)) (sym fits.horizon) open_task.some

  pub bench_serves : (w : Worker) → HasParts m w → Suffices (length (prices_of t.prices).energy) (task_unit t) w.bench
  bench_serves w parts = subst (λ (n : ℕ). Suffices n (task_unit t) w.bench) (sym fits.horizon)
      (serves_in m w.bench (task_unit t) parts.bench open_task.unit)

-- ---- the task at k

module _ (m : Market) (w : Worker) (k : ℕ) (h : Held) (below : k < MOST_HELD) (at : h ≡ get_or w.held.items k h)
    (parts : HasParts m w) where
  inside : k < length w.held.items
  inside = let count = parts.count in omega (arith, below, count)

  pub fits_at : IsHeldFor m h
  fits_at = subst (IsHeldFor m) (sym at) (parts.held k h inside)

  -- it and the one that was given change places
  pub parts_given : (x y : Task) → x ≡ h.task → y ≡ w.task →
      HasParts m (record w { task = x; held = with_item w.held k (record h { task = y }) })
  parts_given x y is_x is_y = record {
    bench = parts.bench;
    task = subst (IsTaskFor m.periods) (sym is_x) fits_at.task;
    answer = parts.answer;
    count = length-set w.held.items k (record h { task = y }) ∙ parts.count;
    held =
        All-set (IsHeldFor m) w.held.items k (record h { task = y })
        (record { task = subst (IsTaskFor m.periods) (sym is_y) parts.task; answer = fits_at.answer }) parts.held;
  }

  -- its answer and the one that was made change places
  pub parts_answered : (bench : Bench) (x : Answered) (g : Held) →
      ((periods : ℕ) (u : AnyUnit) → Suffices periods u w.bench → Suffices periods u bench) → x ≡ h.answer →
      g.task ≡ h.task → IsAnswered g
      → HasParts m (record w { bench = bench; answer = x; held = with_item w.held k g })
  parts_answered bench x g keeps is_x same response =
      let room : IsTaskFor m.periods g.task = subst (IsTaskFor m.periods) (sym same) fits_at.task in record {
        bench = all_kept m w.bench bench keeps parts.bench;
        task = parts.task;
        answer = ap (λ (a : Answered). length (schedule_of a.response).on) is_x ∙ fits_at.answer;
        count = length-set w.held.items k g ∙ parts.count;
        held =
            All-set (IsHeldFor m) w.held.items k g
            (record {
              task = room;
              answer =
                  answer_long (task_unit g.task) (prices_of g.task.prices) g.answer response ∙ room.horizon;
            }) parts.held;
      }

-- ---- those up to k

abbrev pub Opens : Market → Held → Type 0
Opens m h = IsAnswerable m h.task

-- a claim leaves them as they were
pub given_kept : (old now : Worker) (k : ℕ) → HasWorked old now → now.held.items ≡ old.held.items → AreGiven k old →
    AreGiven k now
given_kept old now k worked same given = (
  given.0,
  subst (λ (hs : List Held). AllWithin (Opens (market_at now.seat)) hs 0 k) (sym same)
      (subst (λ (n : Market). AllWithin (Opens n) old.held.items 0 k) (same_market old.seat now.seat worked.board)
      given.1),
)

-- and the next is among them where it was given
pub given_more : (m : Market) (w : Worker) (k : ℕ) (h : Held) (y : Task) → k < MOST_HELD → HasParts m w → y ≡ w.task →
    IsAnswerable m w.task → AllWithin (Opens m) w.held.items 0 k →
    AllWithin (Opens m) (set w.held.items k (record h { task = y })) 0 (k + 1)
given_more m w k h y below parts is_y told given =
    let count = parts.count in
    let within : k < length w.held.items = omega (arith, below, count) in
    AllWithin-more_set w.held.items k (record h { task = y }) within (Opens m) given
    (subst (IsAnswerable m) (sym is_y) told)

-- ---- one of those that were answered

pub answered_at : (old : Worker) (n : ℕ) (hs : List Held) (k : ℕ) (h : Held) → AreAnswered n old → hs ≡ old.held.items →
    k < n → h ≡ get_or hs k h → IsAnswered h
answered_at old n hs k h answered same below at =
    subst IsAnswered (sym (at ∙ ap (λ (xs : List Held). get_or xs k h) same)) (answered.1 k h (omega arith) below)
