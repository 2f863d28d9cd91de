-- The function before a spell, and the whole way from there, by whether the unit starts.
use Rattle.test_units.proofs.Common.{ℕ, ◌≤◌, ◌-◌, ◌≡◌, ℤ, pos, Bool, true, false, cond, refl, subst, arith, length}
use Rattle.test_units.proofs.Common.{IsPoint, Table, ThermalUnit, PriceLists, Schedule, IsThermalUnit, ArePrices}
use Rattle.test_units.proofs.Common.{IsFrontier, IsWayFrom, IsBestDispatch, IsFirstDispatch, IsSpellStart, spell_first}
use Rattle.spell_run.proofs.FrontierLaws.{begin_started, frontier_goes_on}
use Rattle.spell_run.proofs.NoteLaws.{whole_way}

pub frontier_begin : (g : ThermalUnit) (π : PriceLists) (periods first : ℕ) (started : Bool) (f : Table) →
    IsThermalUnit g → IsSpellStart g periods first started →
    IsPoint (cond started g.min_power g.power0) (pos 0) f → IsFrontier g π (spell_first started first) (first - 1) f
frontier_begin g π periods first true f unit start point = begin_started π first unit start.from_one point
frontier_begin g π periods first false f unit start point =
    let one = (start.goes_on refl).0 in
    let z : 0 ≡ first - 1 = omega (arith, one) in
    subst (λ (t : ℕ). IsFrontier g π 0 t f) z (frontier_goes_on π unit point)

module _ (g : ThermalUnit) (π : PriceLists) (last : ℕ) (f : Table) (d : Schedule) (y c : ℤ) (unit : IsThermalUnit g)
    (prices : ArePrices π) (end : last ≤ length π.energy) where
  -- a way on from before the spell is the first dispatch of least cost
  pub whole_of : (first : ℕ) (started : Bool) → IsSpellStart g (length π.energy) first started →
      IsFrontier g π (spell_first started first) (first - 1) f →
      IsWayFrom g π (spell_first started first) (first - 1) last f d y c →
      IsBestDispatch g π (length π.energy) (spell_first started first) last d c ×
      IsFirstDispatch g π (length π.energy) (spell_first started first) last d c
  whole_of first true start front way = whole_way unit prices end first front way
  whole_of first false start front way =
      let one = (start.goes_on refl).0 in
      let z : first - 1 ≡ 0 - 1 = omega (arith, one) in
      whole_way unit prices end 0 (subst (λ (t : ℕ). IsFrontier g π 0 t f) z front)
      (subst (λ (t : ℕ). IsWayFrom g π 0 t last f d y c) z way)
