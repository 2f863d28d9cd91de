-- A list of the running spells that are on (this project's profile).
use Rattle.std.specs.Prelude.{◌≡◌, ℕ, ◌<◌, ◌≤◌, length, slice_get, Option, Some}
use Rattle.unit_table.specs.declared.roster.Roster.{Roster}
use Rattle.unit_table.specs.RunningSpells.{Going}

-- first periods before `until`, rising; among them is that of each running spell that is on
pub record IsRoster (live : ℕ → Option Going) (until : ℕ) (roster : Roster) : Type 0 where
  pub few : roster.count ≤ until
  pub room : roster.count ≤ length roster.firsts.items
  pub below : (i f : ℕ) → i < roster.count → slice_get roster.firsts.items i ≡ Some f → f < until
  pub rising : (i j f h : ℕ) → i < j → j < roster.count →
      slice_get roster.firsts.items i ≡ Some f → slice_get roster.firsts.items j ≡ Some h → f < h
  pub all : (f : ℕ) (r : Going) → live f ≡ Some r →
      (i : ℕ) × (i < roster.count) × (slice_get roster.firsts.items i ≡ Some f)
