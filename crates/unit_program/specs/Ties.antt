-- Which of several schedules of the same cost is the first (this project's profile): by on flags,
-- off first, then by powers, and then by reserves, less first, each compared from the last period
-- back.
use Rattle.std.specs.Prelude.{◌≡◌, ℕ, suc, ◌<◌, ◌≤◌, ℤ, ◌≤ℤ◌, IsTrue, IsFalse}
use Rattle.uc_model.specs.Data.{ThermalUnit, PriceLists, Schedule}
use Rattle.uc_model.specs.Schedules.{on_in, power_in, reserve_in, IsThermalFeasible}
use Rattle.unit_rows.specs.Spells.{paid}

-- a feasible schedule that costs v up to period l, where a run of on periods ends with l, or l is 0
pub record IsRival (g : ThermalUnit) (π : PriceLists) (periods l : ℕ) (v : ℤ) (s : Schedule) : Type
    0 where
  pub right : IsThermalFeasible g periods s
  pub cost : paid g π s l ≡ v
  pub on : 1 ≤ l → IsTrue (on_in g s l)
  pub after : IsTrue (on_in g s l) → l < periods → IsFalse (on_in g s (suc l))

-- a and b have the same on flags in the periods after t to l
abbrev pub HasSameFlags : ThermalUnit → Schedule → Schedule → ℕ → ℕ → Type 0
HasSameFlags g a b t l = (u : ℕ) → t < u → u ≤ l → on_in g a u ≡ on_in g b u

-- and the same powers
abbrev pub HasSamePowers : Schedule → Schedule → ℕ → ℕ → Type 0
HasSamePowers a b t l = (k : ℕ) → t ≤ k → k < l → power_in a (suc k) ≡ power_in b (suc k)

-- up to period l, s comes no later than the other one: in each on period of s, where all that is
-- compared before it agrees, the other one is on, gives at least its power, and holds at least its
-- reserve
pub record IsFirstBeside (g : ThermalUnit) (l : ℕ) (other s : Schedule) : Type 0 where
  pub flag : (t : ℕ) → t ≤ l → HasSameFlags g other s t l → IsTrue (on_in g s t) →
      IsTrue (on_in g other t)
  pub power : HasSameFlags g other s 0 l → (k : ℕ) → k < l → IsTrue (on_in g s (suc k)) →
      HasSamePowers other s (suc k) l →
      power_in s (suc k) ≤ℤ power_in other (suc k)
  pub reserve : HasSameFlags g other s 0 l → HasSamePowers other s 0 l → (k : ℕ) → k < l →
      IsTrue (on_in g s (suc k)) →
      reserve_in s (suc k) ≤ℤ reserve_in other (suc k)

-- s is the first of all that cost v up to period l
abbrev pub IsFirstUpTo : ThermalUnit → PriceLists → ℕ → ℕ → ℤ → Schedule → Type 0
IsFirstUpTo g π periods l v s =
    (other : Schedule) → IsRival g π periods l v other → IsFirstBeside g l other s
