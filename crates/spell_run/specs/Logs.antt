-- What spells leave in one log: each entry names the one that its spell wrote before it (this
-- project's profile).
use Rattle.std.specs.Prelude.{ℕ, zero, suc, ◌<◌, ◌==◌, if◌then◌else◌, ⊤, List, [], length}
use Rattle.std.specs.Prelude.{slice_index_or}
use Rattle.spell_run.specs.declared.notes.Logged.{Logged}
use Rattle.spell_run.specs.declared.notes.Passed.{Passed}
use Rattle.spell_run.specs.declared.notes.Trace.{Trace}
use Rattle.spell_run.specs.Notes.{passed_at}

abbrev pub entry_at : List Logged → ℕ → Logged
entry_at log i = slice_index_or log i (record { passed = passed_at [] 0; before = 0 })

-- by number of the period, from the spell's first one on, what its n entries say, the last of which
-- is at place i
abbrev pub left_from : List Logged → ℕ → ℕ → ℕ → Passed
left_from log i zero k = passed_at [] k
left_from log i (suc n) k =
    if k == n then (entry_at log i).passed else left_from log (entry_at log i).before n k

-- the log has those n entries
abbrev pub AreLogged : List Logged → ℕ → ℕ → Type 0
AreLogged log i zero = ⊤
AreLogged log i (suc n) = (i < length log) × AreLogged log (entry_at log i).before n

abbrev pub left_by : List Logged → Trace → ℕ → Passed
left_by log trace = left_from log trace.last trace.count

abbrev pub IsTrace : List Logged → Trace → Type 0
IsTrace log trace = AreLogged log trace.last trace.count
