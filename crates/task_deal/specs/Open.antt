-- Deques that have just been opened.
use Rattle.std.specs.Prelude.{◌≡◌, ℕ, List, length}
use Rattle.crossbeam_deque.specs.declared.handles.Stealer.{Stealer}
use Rattle.crossbeam_deque.specs.declared.handles.Worker.{Worker}
use Rattle.std.specs.declared.alloc.Global.{Global}
use Rattle.task_deal.specs.declared.rule.Account.{Account}
use Rattle.task_deal.specs.Rule.{sum_of}
use Rattle.task_deal.specs.Seats.{Each, Stands, own_taken, own_put}

-- each deque stands at its place, no part of it is out, and nothing was put or taken
pub record AreOpen {Q : Type 0} (thieves : List (Stealer ℕ Global Account Q))
    (owns : List (Worker ℕ Global Account Q)) : Type 0 where
  pub count : length thieves ≡ length owns
  pub stands : Each (Stands thieves 0) 0 (length owns) owns
  pub books :
      (h : ℕ → ℕ) → (sum_of (own_taken h) owns ≡ 0) × (sum_of (own_put h) owns ≡ 0)
