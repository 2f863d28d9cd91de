-- What is taken from a queue is run.
use Rattle.std.specs.Prelude.{◌≡◌, ℕ, ◌+◌, List}
use Rattle.task_deal.specs.declared.rule.Account.{Account}
use Rattle.task_deal.specs.Rule.{sum_of}

-- what was taken from v to w was run from j to k, and nothing was put
pub record RanTaken {J : Type 0} (runs : J → List ℕ) (v w : Account) (j k : J) : Type 0 where
  pub put : w.put ≡ v.put
  pub ran :
      (h : ℕ → ℕ) →
      sum_of h (runs k) + sum_of h v.taken ≡ sum_of h (runs j) + sum_of h w.taken
