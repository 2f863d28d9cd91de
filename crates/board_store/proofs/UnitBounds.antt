-- How large the earnings of one unit's feasible schedule can be, and what a schedule that is missing gives.
use Rattle.board_store.proofs.Common.{◌≡◌, ℕ, pos, length, sym, ap, subst, arith, ints, slice_index, GivesWithin}
use Rattle.board_store.proofs.Common.{OutputsAreWithin, EarningsAreWithin, UnitsAreWithin}
use Rattle.board_store.proofs.Common.{PowerAndReserveTotalsAreWithin}
use Rattle.board_store.proofs.Common.{DemandWorthIsWithin, AnyUnit, Thermal, Flat, Bid, PriceLists, Schedule}
use Rattle.board_store.proofs.Common.{earnings, IsUnit, ArePrices, IsFeasible, IsWithin, wider}

-- the model's laws of bounds that those of a board rest on
pub record ModelLaws : Type 0 where
  pub outputs : OutputsAreWithin
  pub earnings : EarningsAreWithin
  pub units : UnitsAreWithin
  pub totals : PowerAndReserveTotalsAreWithin
  pub worth : DemandWorthIsWithin

pub model_laws : OutputsAreWithin → EarningsAreWithin → UnitsAreWithin → PowerAndReserveTotalsAreWithin →
    DemandWorthIsWithin →
    ModelLaws
model_laws outputs earnings units totals worth =
    record { outputs = outputs; earnings = earnings; units = units; totals = totals; worth = worth }

-- the lists of a feasible schedule are over the horizon
pub lengths_of : (u : AnyUnit) (s : Schedule) (n : ℕ) → IsFeasible u n s →
    (length s.on ≡ n) × (length s.power ≡ n) × (length s.reserve ≡ n)
lengths_of (Thermal g) s n h = (h.schedule.on, h.schedule.power, h.schedule.reserve)
lengths_of (Flat r) s n h = (h.schedule.on, h.schedule.power, h.schedule.reserve)
lengths_of (Bid b) s n h = (h.schedule.on, h.schedule.power, h.schedule.reserve)

-- a schedule that gives nothing in a period
pub no_output : (u : AnyUnit) (s : Schedule) (k : ℕ) → slice_index s.power k ≡ 0 → slice_index s.reserve k ≡ 0 →
    GivesWithin u s k
no_output (Thermal g) s k p r = let a = ap pos p in let b = ap pos r in
    record { least = omega (arith, ints, a); most = omega (arith, ints, a); reserve = omega (arith, ints, b) }
no_output (Flat g) s k p r = let a = ap pos p in let b = ap pos r in
    record { least = omega (arith, ints, a); most = omega (arith, ints, a); reserve = omega (arith, ints, b) }
no_output (Bid g) s k p r = let a = ap pos p in let b = ap pos r in
    record { least = omega (arith, ints, a); most = omega (arith, ints, a); reserve = omega (arith, ints, b) }

-- what a feasible schedule earns is within 64 bits
pub earnings_within : ModelLaws → (u : AnyUnit) (π : PriceLists) (s : Schedule) (n : ℕ) → IsUnit u → ArePrices π →
    IsFeasible u n s → length π.energy ≡ n → IsWithin 5040000000000000000 (earnings u π s)
earnings_within laws u π s n unit prices h energy =
    wider 3500000000000000000 5040000000000000000 (earnings u π s) (omega arith)
    (laws.earnings u π s unit prices (subst (λ k. IsFeasible u k s) (sym energy) h))
