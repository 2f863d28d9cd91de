-- Which ends of spells the next start may follow, and which of them a search for the cheapest start
-- has to look at: a later end dominates an earlier one that costs more (dominance between the
-- labels of a shortest path; this project's profile).
use Rattle.std.specs.Prelude.{◌≡◌, ℕ, suc, ◌+◌, ◌*◌, ◌<◌, ◌≤◌, ℤ, pos, ◌+ℤ◌, ◌≤ℤ◌, ◌⊎◌, IsTrue}
use Rattle.std.specs.Prelude.{List, length, slice_get, Option, Some}
use Rattle.uc_model.specs.declared.units.Lag.{Lag}
use Rattle.uc_model.specs.Data.{ThermalUnit}
use Rattle.uc_model.specs.Earnings.{start_cost_of}
use Rattle.unit_rows.specs.declared.origins.Origin.{Origin}
use Rattle.unit_rows.specs.declared.origins.Origins.{Origins}
use Rattle.unit_rows.specs.Rows.{IsWithinTimes}
use Rattle.unit_rows.specs.Spells.{IsOffRun, IsGap, off_time}

-- a start never costs less after a longer time off
abbrev pub IsRising : List Lag → Type 0
IsRising lags = (a b : ℕ) → a ≤ b → start_cost_of lags a ≤ℤ start_cost_of lags b

-- at the end of period k the unit has been off for long enough since `last`, and a period before it
-- hadn't been
pub record IsRipe (g : ThermalUnit) (k last : ℕ) : Type 0 where
  pub order : last ≤ k
  pub long : g.min_down ≤ off_time g last k
  pub before : (b : ℕ) → k ≡ suc b → off_time g last b < g.min_down

-- an end that a start in the period after k may follow
pub record IsOrigin (g : ThermalUnit) (ends : ℕ → Option ℤ) (k : ℕ) (o : Origin) : Type 0 where
  pub ended : ends o.last ≡ Some o.cost
  pub gap : IsGap g o.last k

-- one of the list is this end, or a later one that costs less, which is never the dearer start
pub record HasOrigin (os : Origins) (o : Origin) : Type 0 where
  pub index : ℕ
  pub origin : Origin
  pub low : index < os.count
  pub is : slice_get os.list.items index ≡ Some origin
  pub best : (origin.last ≡ o.last)
      ⊎ (IsTrue os.is_rising × (o.last < origin.last) × ((origin.cost +ℤ pos 1) ≤ℤ o.cost))

-- the list is in order
pub record AreInOrder (os : Origins) : Type 0 where
  pub last : (i j : ℕ) (a b : Origin) → i < j → j < os.count →
      slice_get os.list.items i ≡ Some a → slice_get os.list.items j ≡ Some b → a.last < b.last
  pub cost : IsTrue os.is_rising → (i j : ℕ) (a b : Origin) → i < j → j < os.count →
      slice_get os.list.items i ≡ Some a → slice_get os.list.items j ≡ Some b → a.cost ≤ℤ b.cost

-- each of the list is an end that a start in the period after k may follow
pub record AreRight (g : ThermalUnit) (ends : ℕ → Option ℤ) (k : ℕ) (os : Origins) : Type 0 where
  pub rising : IsTrue os.is_rising → IsRising g.lags
  pub off : (last : ℕ) → last ≤ k → IsOffRun g last k → os.off_from ≤ last
  pub off_since : (last : ℕ) → os.off_from ≤ last → last ≤ k → IsOffRun g last k
  pub each : (i : ℕ) (o : Origin) → i < os.count → slice_get os.list.items i ≡ Some o →
      IsOrigin g ends k o
  pub order : AreInOrder os

-- and it has each of them, but for those that a later one of it dominates
pub record AreOrigins (g : ThermalUnit) (ends : ℕ → Option ℤ) (k : ℕ) (os : Origins) : Type 0 where
  pub few : os.count ≤ suc k
  pub right : AreRight g ends k os
  pub all : (o : Origin) → IsOrigin g ends k o → HasOrigin os o

-- its numbers are within bounds
pub record AreOriginsWithin (k : ℕ) (os : Origins) : Type 0 where
  pub room : os.count ≤ length os.list.items
  pub last : (i : ℕ) (o : Origin) → i < os.count → slice_get os.list.items i ≡ Some o → o.last ≤ k
  pub cost : (i : ℕ) (o : Origin) → i < os.count → slice_get os.list.items i ≡ Some o →
      IsWithinTimes (2 * o.last + 2) o.cost

-- an end is put into the list at an index: where it takes that of others, they cost more
pub record IsOriginPut (o : Origin) (old new : Origins) : Type 0 where
  pub index : ℕ
  pub within : index ≤ old.count
  pub count : new.count ≡ suc index
  pub here : slice_get new.list.items index ≡ Some o
  pub before : (i : ℕ) → i < index → slice_get new.list.items i ≡ slice_get old.list.items i
  pub dearer : (i : ℕ) (a : Origin) → index ≤ i → i < old.count →
      slice_get old.list.items i ≡ Some a →
      IsTrue old.is_rising × ((o.cost +ℤ pos 1) ≤ℤ a.cost)
  pub cheaper : IsTrue old.is_rising → (i : ℕ) (a : Origin) → index ≡ suc i →
      slice_get old.list.items i ≡ Some a → a.cost ≤ℤ o.cost
  pub is_rising : new.is_rising ≡ old.is_rising
  pub off_from : new.off_from ≡ old.off_from
