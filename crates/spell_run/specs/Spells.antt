-- Dispatches of a spell, and the least net cost of one: the dispatch rules of pglib-uc (Knueven,
-- Ostrowski and Watson) on a run of on periods, first to last. A spell that goes on from before the
-- horizon has first 0: period 0 is its first. Dispatches are read in place: only the powers and
-- reserves of the spell's periods count, and no flag is looked at.
use Rattle.std.specs.Prelude.{◌≡◌, ℕ, zero, suc, ◌+◌, ◌-◌, ◌*◌, ◌<◌, ◌≤◌, ℤ, pos, neg_ℤ, ◌+ℤ◌, ◌-ℤ◌}
use Rattle.std.specs.Prelude.{◌≤ℤ◌, true, false, Option, MatchOption}
use Rattle.std.specs.Int.{int_min}
use Rattle.uc_model.specs.Data.{ThermalUnit, PriceLists, Schedule}
use Rattle.plain_lists.specs.Ranges.{IsFrom}
use Rattle.uc_model.specs.Schedules.{power_in, reserve_in, cap_of}
use Rattle.plain_lists.specs.Sums.{sum_below}
use Rattle.unit_rows.specs.NetCosts.{net_cost}

-- the power above the least one in a period of a spell
abbrev pub over_min : ThermalUnit → Schedule → ℕ → ℤ
over_min g d zero = g.power0 -ℤ g.min_power
over_min g d (suc k) = power_in d (suc k) -ℤ g.min_power

-- the powers and reserves of d in periods first to last keep the dispatch rules of a spell
pub record IsDispatch (g : ThermalUnit) (periods first last : ℕ) (d : Schedule) : Type 0 where
  pub least : (t : ℕ) → 1 ≤ t → first ≤ t → t ≤ last → pos 0 ≤ℤ over_min g d t
  pub greatest : (t : ℕ) → 1 ≤ t → first ≤ t → t ≤ last →
      (over_min g d t +ℤ reserve_in d t) ≤ℤ cap_of g false false
  pub start : 1 ≤ first → (over_min g d first +ℤ reserve_in d first) ≤ℤ cap_of g true false
  pub enter : 1 ≤ first → (over_min g d first +ℤ reserve_in d first) ≤ℤ g.ramp_up
  pub ramp_up : (k : ℕ) → first ≤ k → suc k ≤ last →
      ((over_min g d (suc k) +ℤ reserve_in d (suc k)) -ℤ over_min g d k) ≤ℤ g.ramp_up
  pub ramp_down : (k : ℕ) → first ≤ k → suc k ≤ last →
      (over_min g d k -ℤ over_min g d (suc k)) ≤ℤ g.ramp_down
  -- where a stop follows
  pub stop : last < periods → 1 ≤ last →
      (over_min g d last +ℤ reserve_in d last) ≤ℤ cap_of g false true
  pub leave : last < periods → over_min g d last ≤ℤ g.ramp_down
  pub stop_at_once : last < periods → last ≡ 0 → g.power0 ≤ℤ int_min g.stop_limit g.max_power
  pub leave_at_once : last < periods → last ≡ 0 → (pos 0 -ℤ over_min g d last) ≤ℤ g.ramp_up

-- f first + .. + f last
abbrev pub sum_from_to : (ℕ → ℤ) → ℕ → ℕ → ℤ
sum_from_to f first last = sum_below (suc last - first) (λ k. f (first + k))

abbrev pub spell_cost : ThermalUnit → PriceLists → ℕ → ℕ → Schedule → ℤ
spell_cost g π first last d = sum_from_to (net_cost g π d) first last

-- d is a dispatch of the spell of net cost c, and no dispatch of it costs less
pub record IsBestDispatch (g : ThermalUnit) (π : PriceLists) (periods first last : ℕ) (d : Schedule)
    (c : ℤ) : Type 0 where
  pub keeps : IsDispatch g periods first last d
  pub cost : spell_cost g π first last d ≡ c
  pub least : (other : Schedule) → IsDispatch g periods first last other →
      c ≤ℤ spell_cost g π first last other

-- and of those of cost c it is the first: by powers from the last period back, less power first,
-- and then by reserves
pub record IsFirstDispatch (g : ThermalUnit) (π : PriceLists) (periods first last : ℕ)
    (d : Schedule) (c : ℤ) : Type 0 where
  pub power : (other : Schedule) → IsDispatch g periods first last other →
      spell_cost g π first last other ≡ c →
      (k : ℕ) → first ≤ suc k → k < last →
      ((j : ℕ) → k < j → j < last → power_in other (suc j) ≡ power_in d (suc j)) →
      power_in d (suc k) ≤ℤ power_in other (suc k)
  pub reserve : (other : Schedule) → IsDispatch g periods first last other →
      spell_cost g π first last other ≡ c →
      ((j : ℕ) → first ≤ suc j → j < last → power_in other (suc j) ≡ power_in d (suc j)) →
      (k : ℕ) → first ≤ suc k → k < last → reserve_in d (suc k) ≤ℤ reserve_in other (suc k)

-- c is the least net cost of a dispatch of the spell
pub record IsLeastSpell (g : ThermalUnit) (π : PriceLists) (periods first last : ℕ) (c : ℤ) : Type
    0 where
  pub dispatch : Schedule
  pub keeps : IsDispatch g periods first last dispatch
  pub cost : spell_cost g π first last dispatch ≡ c
  pub least : (d : Schedule) → IsDispatch g periods first last d → c ≤ℤ spell_cost g π first last d

-- the spell has no dispatch
abbrev pub HasNoDispatch : ThermalUnit → ℕ → ℕ → ℕ → Type 0
HasNoDispatch g periods first last = (d : Schedule) → IsDispatch g periods first last d → ⊥

-- the least net cost, or none exactly where there is no dispatch
abbrev pub IsSpellAnswer : ThermalUnit → PriceLists → ℕ → ℕ → ℕ → Option ℤ → Type 0
IsSpellAnswer g π periods first last answer =
    MatchOption answer (HasNoDispatch g periods first last) (IsLeastSpell g π periods first last)

-- at most 10^15 for each period from first to last, in magnitude
abbrev pub IsSpellWithin : ℕ → ℕ → ℤ → Type 0
IsSpellWithin first last c =
    IsFrom (neg_ℤ (pos ((suc last - first) * 1000000000000000)))
    (pos ((suc last - first) * 1000000000000000)) c
