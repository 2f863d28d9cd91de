-- How many of the workers that are asked for a run has (this project's profile).
use Rattle.std.specs.Prelude.{◌≡◌, ℕ, min, max}
use Rattle.hull_engine.specs.declared.workers.TheConstants.{FEW_WORKERS}

-- as many as there are processors, but always a few, and no more than are asked for
abbrev pub useful_workers : (asked processors : ℕ) → ℕ
useful_workers asked processors = min asked (max FEW_WORKERS processors)

-- so many are useful on some machine
abbrev pub IsUseful : (asked workers : ℕ) → Type 0
IsUseful asked workers = (processors : ℕ) × (workers ≡ useful_workers asked processors)
