-- A bench for the most cost points of a case suffices for each of its units.
use Rattle.answer_workers.proofs.Common.{ℕ, suc, ◌≤◌, List, [], ◌∷◌, ◌++◌, map, sym}
use Rattle.answer_workers.proofs.Common.{subst, append_assoc, arith, All, Contains, AnyUnit, Thermal, Flat, Bid, Market}
use Rattle.answer_workers.proofs.Common.{NamedThermalUnit, NamedRenewableUnit, NamedBidUnit}
use Rattle.answer_workers.proofs.Common.{units, IsBenchFor}
use Rattle.answer_workers.proofs.Common.{Bench, Suffices, IsBenchOf, length, All-nil, All-cons}
use Rattle.unit_program.specs.Benches.{BenchSufficesForFewerPeriods}

module _ (less : BenchSufficesForFewerPeriods) (periods : ℕ) (b : Bench) where
  abbrev Serves : AnyUnit → Type 0
  Serves u = Suffices periods u b

  bids : (bs : List NamedBidUnit) → All Serves (map (λ (n : NamedBidUnit). Bid n.unit) bs)
  bids [] = All-nil Serves
  bids (d ∷ ds) = All-cons Serves (Bid d.unit) (map (λ (n : NamedBidUnit). Bid n.unit) ds) tt (bids ds)

  flats : (fs : List NamedRenewableUnit) (rest : List AnyUnit) → All Serves rest →
      All Serves (map (λ (n : NamedRenewableUnit). Flat n.unit) fs ++ rest)
  flats [] rest h = h
  flats (f ∷ fs) rest h = All-cons Serves (Flat f.unit) (map (λ (n : NamedRenewableUnit). Flat n.unit) fs ++ rest) tt
      (flats fs rest h)

  thermals : (points : ℕ) (ts : List NamedThermalUnit) (rest : List AnyUnit) → IsBenchFor periods points b →
      All (λ (n : NamedThermalUnit). length n.unit.points ≤ points) ts → All Serves rest
      → All Serves (map (λ (n : NamedThermalUnit). Thermal n.unit) ts ++ rest)
  thermals points [] rest made few h = h
  thermals points (t ∷ ts) rest made few h =
      All-cons Serves (Thermal t.unit) (map (λ (n : NamedThermalUnit). Thermal n.unit) ts ++ rest)
      (less periods points periods (length t.unit.points) b (omega arith) (few 0 t (omega arith)) made)
      (thermals points ts rest made (λ k d inside. few (suc k) d (omega (arith, inside))) h)

-- a bench for the most points of a case's thermal units is the case's
pub bench_of_case : BenchSufficesForFewerPeriods → (m : Market) (points : ℕ) (b : Bench) → IsBenchFor m.periods points
    b →
    All (λ (n : NamedThermalUnit). length n.unit.points ≤ points) m.thermal → IsBenchOf m b
bench_of_case less m points b made few =
    let ts = map (λ (n : NamedThermalUnit). Thermal n.unit) m.thermal in
    let fs = map (λ (n : NamedRenewableUnit). Flat n.unit) m.flat in
    let bs = map (λ (n : NamedBidUnit). Bid n.unit) m.bids in
    subst (λ (us : List AnyUnit). All (λ (u : AnyUnit). Suffices m.periods u b) us) (sym (append_assoc ts fs bs))
    (thermals less m.periods b points m.thermal (fs ++ bs) made few
    (flats less m.periods b m.flat bs (bids less m.periods b m.bids)))

-- it suffices for each of them
pub serves_in : (m : Market) (b : Bench) (u : AnyUnit) → IsBenchOf m b → Contains (units m) u → Suffices m.periods u b
serves_in m b u served (i, inside, there) = subst (λ (x : AnyUnit). Suffices m.periods x b) there (served i u inside)

-- ---- what an answer leaves

pub kept : (old new : Bench) → ((periods points : ℕ) → IsBenchFor periods points old → IsBenchFor periods points new) →
    (periods : ℕ) (u : AnyUnit) → Suffices periods u old → Suffices periods u new
kept old new keeps periods (Thermal g) h = keeps periods (length g.points) h
kept old new keeps periods (Flat r) h = tt
kept old new keeps periods (Bid d) h = tt

pub all_kept : (m : Market) (old new : Bench) →
    ((periods : ℕ) (u : AnyUnit) → Suffices periods u old → Suffices periods u new) → IsBenchOf m old → IsBenchOf m new
all_kept m old new keeps served k d inside = keeps m.periods _ (served k d inside)
