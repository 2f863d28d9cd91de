-- Rows of one length, where places with the same row may share its runs.
use Rattle.std.specs.Prelude.{◌≡◌, ℕ, suc, ◌*◌, ◌≤◌, List, length, map, slice_index, refl}
use Rattle.std.specs.Coded.{Coded, code_by, coded×, coded_ℕ, coded_list}
use Rattle.board_store.specs.RowRuns.{from_run, row_at}
use Rattle.plain_lists.specs.declared.limits.TheConstants.{MOST_TASKS, MOST_WORK}

-- what a contract sees of a table: its rows by their places, and how many more may be put
pub record Rows (T : Type 0) : Type 0 where
  pub long : ℕ
  pub left : ℕ
  pub rows : List (List T)

-- such a table is stored as the tuple of its fields
abbrev pub rows_code : {T : Type 0} → Coded T → Coded (Rows T)
rows_code {T} code =
    code_by ((ℕ × ℕ) × List (List T))
    (coded× (coded× coded_ℕ coded_ℕ) (coded_list (coded_list code)))
    (λ r. ((r.long, r.left), r.rows))
    (λ p. record { long = p.0.0; left = p.0.1; rows = p.1 }) (λ _. refl)

-- the rows whose runs begin at these places
abbrev pub rows_in : {T : Type 0} → ℕ → List ℕ → List T → List ℕ → List (List T)
rows_in long lengths values starts = map (row_at long lengths values) starts

-- each start has the runs of a whole row, and there is room for one more row at each place
pub record IsTable {T : Type 0} (long : ℕ) (starts : List ℕ) (used : ℕ) (lengths : List ℕ) (values : List T)
    (lengths_room values_room : ℕ) : Type 0 where
  pub pairs : length lengths ≡ length values
  pub whole : (k : ℕ) → long ≤ length (from_run lengths values (slice_index starts k))
  pub few : used ≤ length starts
  pub runs : length lengths ≤ suc used * long
  pub count : length starts ≤ MOST_TASKS
  pub size : length starts * long ≤ MOST_WORK
  pub lengths_fit : suc (length starts) * long ≤ lengths_room
  pub values_fit : suc (length starts) * long ≤ values_room
