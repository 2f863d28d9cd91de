-- The bench that the owner of a run leaves.
use Rattle.board_run.proofs.Common.{ℕ, suc, List, [], ◌∷◌, ◌++◌, map, length, subst, arith, append_assoc, All-nil}
use Rattle.board_run.proofs.Common.{All-cons, All, AnyUnit, Thermal, Flat, Bid, Market, NamedThermalUnit}
use Rattle.board_run.proofs.Common.{NamedRenewableUnit, NamedBidUnit, IsBenchOver, Suffices, IsBenchOf}
use Rattle.uc_model.specs.declared.units.Point.{Point}
use Rattle.unit_program.specs.Benches.{IsBenchFor}
use Rattle.unit_program.specs.declared.bench.Bench.{Bench}

module _ (periods : ℕ) (b : Bench) where
  abbrev Serves : AnyUnit → Type 0
  Serves u = Suffices periods u b

  abbrev Holds : List Point → Type 0
  Holds ps = IsBenchFor periods (length ps) b

  points_served : (ts : List NamedThermalUnit) (rest : List AnyUnit) →
      All Serves (map (λ (n : NamedThermalUnit). Thermal n.unit) ts ++ rest) →
      All Holds (map (λ (n : NamedThermalUnit). n.unit.points) ts)
  points_served [] rest h = All-nil Holds
  points_served (t ∷ ts) rest h =
      All-cons Holds t.unit.points (map (λ (n : NamedThermalUnit). n.unit.points) ts)
      (h 0 (Thermal t.unit) (omega arith))
      (points_served ts rest (λ k d inside. h (suc k) d (omega (arith, inside))))

-- a bench for each unit of a case suffices for its thermal units
pub bench_over : (m : Market) (b : Bench) → IsBenchOf m b → IsBenchOver m b
bench_over m b h =
    let ts = map (λ (n : NamedThermalUnit). Thermal n.unit) m.thermal in
    let fs = map (λ (n : NamedRenewableUnit). Flat n.unit) m.flat in
    let bs = map (λ (n : NamedBidUnit). Bid n.unit) m.bids in
    points_served m.periods b m.thermal (fs ++ bs)
    (subst (λ (us : List AnyUnit). All (λ (u : AnyUnit). Suffices m.periods u b) us) (append_assoc ts fs bs) h)
