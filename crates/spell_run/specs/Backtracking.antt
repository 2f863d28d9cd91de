-- Backtracking over a spell: the cheapest power before each period, and what is written for it
-- (Bellman's principle on the spell's periods).
use Rattle.std.specs.Prelude.{◌≡◌, ℕ, suc, ◌<◌, ◌≤◌, ◌==◌, nat_lt, ℤ, ◌+ℤ◌, ◌-ℤ◌, ◌≤ℤ◌, Bool}
use Rattle.std.specs.Prelude.{false, ◌&&◌, IsTrue, Some, length, slice_index_or}
use Rattle.slope_list.specs.Effect.{IsLeastIn}
use Rattle.slope_list.specs.Table.{Table, value_of}
use Rattle.slope_list.specs.declared.step_terms.Step.{Step}
use Rattle.uc_model.specs.Data.{ThermalUnit, PriceLists, Schedule}
use Rattle.uc_model.specs.Schedules.{power_in, reserve_in}
use Rattle.plain_lists.specs.Sums.{int_at}
use Rattle.spell_run.specs.Laws.{best_reserve}
use Rattle.spell_run.specs.Spells.{spell_cost, IsDispatch}
use Rattle.spell_run.specs.Steps.{cap_at, level, IsRun, IsKinked}
use Rattle.spell_run.specs.Entries.{IsSameOutside}

-- y is the cheapest power before a step to power x, the least of those
pub record IsCheapest (s : Step) (f : Table) (x y : ℤ) : Type 0 where
  pub kinked : Table
  pub is_kinked : IsKinked s f kinked
  pub value : ℤ
  pub least : IsLeastIn (x -ℤ s.ramp_up) (x +ℤ s.ramp_down) kinked value y

-- period suc k of d' is on with power p and reserve r, and every other period is that of d
pub record IsWritten (k : ℕ) (p r : ℤ) (d d' : Schedule) : Type 0 where
  pub on : IsTrue (slice_index_or d'.on k false)
  pub power : power_in d' (suc k) ≡ p
  pub reserve : reserve_in d' (suc k) ≡ r
  pub outside : IsSameOutside (suc k) (suc k) d d'

-- y is the cheapest power before a step to power x, the least of those, and period suc k of d' is
-- written for it
pub record IsChosen (s : Step) (f : Table) (k : ℕ) (x y : ℤ) (d d' : Schedule) : Type 0 where
  pub kinked : Table
  pub is_kinked : IsKinked s f kinked
  pub value : ℤ
  pub least : IsLeastIn (x -ℤ s.ramp_up) (x +ℤ s.ramp_down) kinked value y
  pub written : IsWritten k x (best_reserve s.reserve_price s.cap s.ramp_up y x) d d'

-- whether a stop follows the period at an index, where the spell's last period is before the end
abbrev pub stops_at : ℕ → ℕ → ℕ → Bool
stops_at last periods index = nat_lt last periods && (last == suc index)

-- d and d' have the same powers in the periods after k up to last
abbrev pub HasSamePowersAfter : ℕ → ℕ → Schedule → Schedule → Type 0
HasSamePowersAfter k last d d' =
    (j : ℕ) → k ≤ j → j < last → power_in d' (suc j) ≡ power_in d (suc j)

-- and the same reserves
pub record IsSameAfter (k last : ℕ) (d d' : Schedule) : Type 0 where
  pub power : HasSamePowersAfter k last d d'
  pub reserve : (j : ℕ) → k ≤ j → j < last → reserve_in d' (suc j) ≡ reserve_in d (suc j)

-- the reserve of period suc k is the best one for the powers
abbrev pub HasBestReserve : ThermalUnit → PriceLists → ℕ → ℕ → Schedule → ℕ → Type 0
HasBestReserve g π first last d k =
    reserve_in d (suc k)
    ≡ best_reserve (int_at π.reserve k)
    (cap_at g (first == suc k) (stops_at last (length π.energy) k)) g.ramp_up (level g first d k)
    (power_in d (suc k))

-- the periods after k up to last of d are a way on from power y, where f has its value before: with
-- any run up to k that ends at y they make a dispatch, and with the cheapest one a dispatch of cost
-- c
pub record IsWayFrom (g : ThermalUnit) (π : PriceLists) (first k last : ℕ) (f : Table)
    (d : Schedule) (y c : ℤ) : Type 0 where
  pub before : ℤ
  pub there : value_of f y ≡ Some before
  pub completes : (run : Schedule) → IsRun g first k run → level g first run k ≡ y →
      IsSameAfter k last d run →
      IsDispatch g (length π.energy) first last run
      × (spell_cost g π first last run ≡ spell_cost g π first k run +ℤ (c -ℤ before))
      × ((j : ℕ) → k ≤ j → j < last → HasBestReserve g π first last run j)
  -- no dispatch costs less than c, and none with these powers costs less after k
  pub least : (other : Schedule) → IsDispatch g (length π.energy) first last other →
      c ≤ℤ spell_cost g π first last other
  pub rest : (other : Schedule) → IsDispatch g (length π.energy) first last other →
      HasSamePowersAfter k last d other → level g first other k ≡ y →
      (spell_cost g π first k other +ℤ (c -ℤ before)) ≤ℤ spell_cost g π first last other
  -- of the dispatches of cost c that have the later powers, none has less power
  pub first_before : (other : Schedule) → IsDispatch g (length π.energy) first last other →
      spell_cost g π first last other ≡ c →
      HasSamePowersAfter k last d other → y ≤ℤ level g first other k
  pub first_after : (other : Schedule) → IsDispatch g (length π.energy) first last other →
      spell_cost g π first last other ≡ c →
      (i : ℕ) → k ≤ i → i < last → HasSamePowersAfter (suc i) last d other →
      power_in d (suc i) ≤ℤ power_in other (suc i)
