-- What is kept of a spell: a dispatch in the periods of an answer (this project's profile).
use Rattle.std.specs.Prelude.{◌≡◌, ℕ, suc, ◌<◌, ◌≤◌, ◌⊎◌, false, IsTrue, length, slice_index}
use Rattle.std.specs.Prelude.{slice_index_or}
use Rattle.uc_model.specs.Data.{Schedule}

-- the unit is on in periods first to last
abbrev pub IsOnFromTo : ℕ → ℕ → Schedule → Type 0
IsOnFromTo first last d =
    (k : ℕ) → first ≤ suc k → suc k ≤ last → IsTrue (slice_index_or d.on k false)

-- two schedules are over one horizon, and alike in every period outside first to last
pub record IsSameOutside (first last : ℕ) (d d' : Schedule) : Type 0 where
  pub on_length : length d'.on ≡ length d.on
  pub power_length : length d'.power ≡ length d.power
  pub reserve_length : length d'.reserve ≡ length d.reserve
  pub on : (k : ℕ) → (suc k < first) ⊎ (last < suc k) →
      slice_index_or d'.on k false ≡ slice_index_or d.on k false
  pub power : (k : ℕ) → (suc k < first) ⊎ (last < suc k) →
      slice_index d'.power k ≡ slice_index d.power k
  pub reserve : (k : ℕ) → (suc k < first) ⊎ (last < suc k) →
      slice_index d'.reserve k ≡ slice_index d.reserve k
