-- How large a run may be, and the numbers that words ask of it (this project's profile).
use Rattle.std.specs.Prelude.{◌≡◌, ℕ, ◌≤◌, Option, IfSome}
use Rattle.plain_lists.specs.declared.limits.TheConstants.{MOST_PROPOSALS, MOST_WORKERS, MOST_AHEAD}
use Rattle.hull_words.specs.declared.command.PriceWords.{PriceWords}
use Rattle.hull_words.specs.declared.limits.TheConstants.{MOST_WITHIN, MOST_ROUNDS}
use Rattle.board_core.specs.declared.terms.Terms.{Terms}

-- the number is from low to high
pub record IsWithin (low high n : ℕ) : Type 0 where
  pub at_least : low ≤ n
  pub at_most : n ≤ high

abbrev pub IsBudget : ℕ → Type 0
IsBudget n = IsWithin 1 MOST_PROPOSALS n

abbrev pub IsWorkers : ℕ → Type 0
IsWorkers n = IsWithin 1 MOST_WORKERS n

abbrev pub IsAhead : ℕ → Type 0
IsAhead n = IsWithin 1 MOST_AHEAD n

abbrev pub IsRounds : ℕ → Type 0
IsRounds n = IsWithin 1 MOST_ROUNDS n

-- the numbers of a run
pub record IsRunSize (budget ahead callers : ℕ) : Type 0 where
  pub budget_in : IsBudget budget
  pub ahead_in : IsAhead ahead
  pub callers_in : IsWorkers callers

-- a run has the numbers that such words ask for: a budget of proposals, and a caller of the board for
-- each worker
pub record HasNumbers (w : PriceWords) (terms : Terms) : Type 0 where
  pub budget : terms.budget ≡ w.proposals
  pub ahead : terms.ahead ≡ w.ahead
  pub callers : terms.callers ≡ w.workers

-- the numbers of a search: the distance at which it ends, and its rounds, where words say
pub record IsSearchSize (within : ℕ) (rounds : Option ℕ) : Type 0 where
  pub within_in : IsWithin 0 MOST_WITHIN within
  pub rounds_in : IfSome rounds IsRounds
