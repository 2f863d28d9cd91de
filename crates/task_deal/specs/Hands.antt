-- What a deal works with, before it begins.
use Rattle.std.specs.Prelude.{◌≡◌, ℕ, [], length, All}
use Rattle.crossbeam_deque.specs.Injected.{injector_view, IsInjectorPassOf}
use Rattle.task_deal.specs.declared.deal.Hands.{Hands}
use Rattle.task_deal.specs.declared.rule.Shared.{Shared}
use Rattle.task_deal.specs.Jobs.{below}
use Rattle.task_deal.specs.Rule.{account, sum_of}
use Rattle.task_deal.specs.Seats.{AreParts, Each, Stands, own_taken, own_put, taken_by}

-- What `count` jobs begin with. The source holds the numbers below `tasks`, and the owner has the
-- first pass of the source. There is a deque for each job, with nothing in it, and a purse for each
-- job, with a pass for every deque. Nothing has been taken yet.
pub record AreSetOut (shared : Shared) (tasks count : ℕ) (hands : Hands) : Type 0 where
  pub source : IsInjectorPassOf shared.source hands.owner
  pub port : hands.owner.id ≡ 0
  pub account : injector_view hands.owner ≡ account 0 (below tasks) []
  pub thieves_count : length shared.thieves.items ≡ count
  pub owns_count : length hands.owns.items ≡ length shared.thieves.items
  pub owns : Each (Stands shared.thieves.items count) 0 (length shared.thieves.items)
      hands.owns.items
  pub fresh : (h : ℕ → ℕ) →
      (sum_of (own_taken h) hands.owns.items ≡ 0) × (sum_of (own_put h) hands.owns.items ≡ 0)
  pub purses_count : length hands.purses.items ≡ count
  pub purses : All (λ p. AreParts shared.thieves.items p.items) hands.purses.items
  pub idle : (h : ℕ → ℕ) → sum_of (λ p. taken_by h p.items) hands.purses.items ≡ 0
