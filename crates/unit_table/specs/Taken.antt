-- What a period changes: its row of the table, and the running spells that are on (this project's
-- profile). The period at an index is the one after so many.
use Rattle.std.specs.Prelude.{◌≡◌, ◌≢◌, ℕ, suc, ◌+◌, ◌-◌, ◌*◌, ◌^◌, ◌<◌, ◌≤◌, ◌⊎◌, ℤ, IsTrue, List}
use Rattle.std.specs.Prelude.{length, slice_get, Option, Some, None}
use Rattle.plain_lists.specs.Reserved.{Reserved}
use Rattle.slope_list.specs.Table.{value_of}
use Rattle.slope_list.specs.Slopes.{count_of, room_of}
use Rattle.spell_run.specs.declared.notes.Logged.{Logged}
use Rattle.spell_run.specs.Frontier.{IsFrontier}
use Rattle.spell_run.specs.Logs.{left_by, IsTrace}
use Rattle.spell_run.specs.Notes.{IsOnNoted}
use Rattle.spell_run.specs.declared.notes.Trace.{Trace}
use Rattle.unit_rows.specs.declared.origins.Origins.{Origins}
use Rattle.unit_table.specs.declared.roster.Roster.{Roster}
use Rattle.unit_table.specs.declared.running_spell.RunningSpell.{RunningSpell}
use Rattle.unit_rows.specs.declared.table.Ended.{Ended}
use Rattle.unit_table.specs.Live.{live_at, left_at, AreTraces, IsRoomy, AreRoomy, HaveRoom, HasRoomFor}
use Rattle.unit_table.specs.Live.{IsFilledTo}
use Rattle.unit_table.specs.Questions.{Asked, periods_of}
use Rattle.unit_table.specs.Rosters.{IsRoster}
use Rattle.unit_rows.specs.Rows.{row_at, cost_at, first_at, before_at, IsWithinTimes, AreWithin}
use Rattle.unit_table.specs.RunningSpells.{Going, MayBeOn, IsRowOf, IsGoneOn, IsEndLeft, CanBacktrack, since}
use Rattle.unit_table.specs.RunningSpells.{AreAllNoted}

-- no other running spell is on, and those that are stay as they are
abbrev pub AreFewer : (ℕ → Option Going) → (ℕ → Option Going) → Type 0
AreFewer old new = (first : ℕ) → (new first ≡ old first) ⊎ (new first ≡ None)

-- a running spell has the room that it had, and what it left; if it is on, its function is a new one, or
-- as long as it was
pub record IsKeptFrom (old new : RunningSpell) : Type 0 where
  pub room_same : room_of new.running ≡ room_of old.running
  pub trace : new.trace ≡ old.trace
  pub pieces : IsTrue new.is_on → (count_of new.running ≡ 0)
      ⊎ (IsTrue old.is_on × (count_of new.running ≡ count_of old.running))

-- they are as many as before, each with its room
pub record HaveSameRooms (old new : List RunningSpell) : Type 0 where
  pub count_same : length new ≡ length old
  pub keeps : (room : ℕ) → HaveRoom room old → HaveRoom room new

-- so do all
pub record AreKept (old new : List RunningSpell) : Type 0 where
  pub count_same : length new ≡ length old
  pub each : (first : ℕ) (r : RunningSpell) → slice_get new first ≡ Some r →
      (o : RunningSpell) × (slice_get old first ≡ Some o) × IsKeptFrom o r

-- the running spell that begins with `first` may go over the period
pub record IsReady (a : Asked) (first : ℕ) (r : Going) : Type 0 where
  pub order : first ≤ suc a.index
  pub frontier : IsFrontier a.unit a.prices first a.index r.function
  pub may : MayBeOn a.unit first (suc a.index)
  pub within : IsWithinTimes (2 * first + 1) r.cost

-- the period's row is that of the running spells that begin before period n
abbrev pub IsRowTo : Asked → (ℕ → Option Going) → ℕ → List (Option Ended) → Type 0
IsRowTo a live n rows =
    IsRowOf a.unit a.prices (periods_of a) live n (suc a.index) (cost_at rows (suc a.index))
    (first_at rows (suc a.index)) (before_at rows (suc a.index))

-- the period's row is that of one running spell more, and no other row is changed
pub record IsRowMore (a : Asked) (n : ℕ) (here : Option Going) (rows rows' : List (Option Ended))
    : Type 0 where
  pub row : (live : ℕ → Option Going) → live n ≡ here → IsRowTo a live n rows →
      IsRowTo a live (suc n) rows'
  pub others : (l : ℕ) → l ≢ suc a.index → row_at rows' l ≡ row_at rows l
  pub within : AreWithin rows'
  pub rows_length : length rows' ≡ length rows

-- one entry more is in the log, of the spell of a trace, and what all others left stands as it did
pub record IsEntryMore (log log' : Reserved Logged) (trace trace' : Trace) : Type 0 where
  pub there : IsTrace log'.items trace'
  pub earlier : (k : ℕ) → k ≢ trace.count →
      left_by log'.items trace' k ≡ left_by log.items trace k
  pub others : (other : Trace) → IsTrace log.items other → IsTrace log'.items other
      × ((k : ℕ) → left_by log'.items other k ≡ left_by log.items other k)
  pub entries : length log'.items ≡ suc (length log.items)
  pub spare : suc log'.spare ≡ log.spare

-- the log has what each running spell left, and memory for so many entries more
pub record IsLogFor (more : ℕ) (log : Reserved Logged) (spells : List RunningSpell) : Type 0 where
  pub traces : AreTraces log.items spells
  pub spare : more ≤ log.spare
  pub small : length log.items + more ≤ 2 ^ 32

-- the running spell that begins with n has gone over the period, if it is on, and no other one; its
-- entry is left in the log, and what the others left stands as it was
pub record IsOneRun (a : Asked) (n : ℕ) (rows rows' : List (Option Ended))
    (spells spells' : List RunningSpell) (log log' : Reserved Logged) : Type 0 where
  pub more : IsRowMore a n (live_at spells n) rows rows'
  pub goes : (r : Going) → live_at spells n ≡ Some r →
      IsGoneOn a.unit a.prices a.index n r (live_at spells' n)
  pub off : live_at spells n ≡ None → live_at spells' n ≡ None
  pub rest : (f : ℕ) → f ≢ n → slice_get spells' f ≡ slice_get spells f
  pub roomy : (r : RunningSpell) → slice_get spells' n ≡ Some r →
      IsRoomy (periods_of a) (suc a.index) a.charge n r
  pub ends : (row_at rows' (suc a.index) ≡ row_at rows (suc a.index))
      ⊎ ((first_at rows' (suc a.index) ≡ n) × IsEndLeft a.unit a.prices n a.index
      (since n (left_at log'.items spells' n) a.index))
  pub noted : (r : Going) (x v : ℤ) → live_at spells n ≡ Some r → value_of r.function x ≡ Some v →
      IsOnNoted a.unit a.prices n a.index (since n (left_at log'.items spells' n) a.index).note
  pub left : (k : ℕ) → k ≢ a.index - (n - 1) → left_at log'.items spells' n k ≡ left_at log.items
      spells n k
  pub left_others : (f k : ℕ) → f ≢ n → left_at log'.items spells' f k ≡ left_at log.items spells
      f k
  pub traces : AreTraces log'.items spells'
  pub entries : length log'.items ≤ length log.items + 1
  pub log_same : length log'.items + log'.spare ≡ length log.items + log.spare
  pub keeps : (room : ℕ) → HaveRoom room spells → HaveRoom room spells'
  pub count_same : length spells' ≡ length spells

-- all running spells have gone over the period: its row is theirs, no other row is changed, and what
-- names it left what backtracking needs
pub record IsRunOver (a : Asked) (rows rows' : List (Option Ended))
    (spells spells' : List RunningSpell) (log log' : Reserved Logged) : Type 0 where
  pub row : IsRowTo a (live_at spells) (suc (suc a.index)) rows'
  pub others : (l : ℕ) → l ≢ suc a.index → row_at rows' l ≡ row_at rows l
  pub within : AreWithin rows'
  pub rows_length : length rows' ≡ length rows
  pub goes : (f : ℕ) (r : Going) → live_at spells f ≡ Some r →
      IsGoneOn a.unit a.prices a.index f r (live_at spells' f)
  pub off : (f : ℕ) → live_at spells f ≡ None → live_at spells' f ≡ None
  pub ends : (v : ℤ) → cost_at rows' (suc a.index) ≡ Some v →
      IsEndLeft a.unit a.prices (first_at rows' (suc a.index)) a.index
      (since (first_at rows' (suc a.index)) (left_at log'.items spells'
      (first_at rows' (suc a.index))) a.index)
  pub noted : (f : ℕ) (r : Going) (x v : ℤ) → live_at spells f ≡ Some r →
      value_of r.function x ≡ Some v → IsOnNoted a.unit a.prices f a.index
      (since f (left_at log'.items spells' f) a.index).note
  pub left : (f k : ℕ) → k ≢ a.index - (f - 1) → left_at log'.items spells' f k ≡ left_at
      log.items spells f k
  pub traces : AreTraces log'.items spells'
  pub entries : length log'.items ≤ length log.items + suc (suc a.index)
  pub log_same : length log'.items + log'.spare ≡ length log.items + log.spare
  pub roomy : AreRoomy (periods_of a) (suc a.index) a.charge spells'
  pub keeps : (room : ℕ) → HaveRoom room spells → HaveRoom room spells'
  pub count_same : length spells' ≡ length spells

-- the table is filled up to the place, the running spells go on from there, and backtracking is left
pub record IsSweptTo (a : Asked) (rows : List (Option Ended))
    (spells : List RunningSpell) (roster : Roster) (log : List Logged) : Type 0 where
  pub filled : IsFilledTo a.unit a.prices a.limits a.index rows (live_at spells)
  pub noted : AreAllNoted a.unit a.prices a.index (live_at spells) (left_at log spells)
  pub backtracks : CanBacktrack a.unit a.prices a.index (cost_at rows) (first_at rows) (left_at log spells)
  pub traces : AreTraces log spells
  pub entries : 2 * length log ≤ a.index * (a.index + 3)
  pub roomy : AreRoomy (periods_of a) a.index a.charge spells
  pub roster_is : IsRoster (live_at spells) (suc a.index) roster

-- there are more than so many rows, running spells and places for ends and first periods
pub record AreLonger (periods : ℕ) (rows : List (Option Ended))
    (spells : List RunningSpell) (roster : Roster) (origins : Origins) (log : Reserved Logged) : Type 0
  where
    pub rows_end : periods < length rows
    pub spells_end : periods < length spells
    pub firsts_end : periods < length roster.firsts.items
    pub list_end : periods < length origins.list.items
    pub log_end : HasRoomFor periods log

-- as many as there were, each running spell and the log with its room
pub record AreAsLong (rows rows' : List (Option Ended))
    (spells spells' : List RunningSpell) (roster roster' : Roster) (log log' : Reserved Logged) :
    Type 0 where
  pub rows_length : length rows' ≡ length rows
  pub count_same : length spells' ≡ length spells
  pub firsts_same : length roster'.firsts.items ≡ length roster.firsts.items
  pub log_same : length log'.items + log'.spare ≡ length log.items + log.spare
  pub keeps : (room : ℕ) → HaveRoom room spells → HaveRoom room spells'
