-- The unit of a number.
use Rattle.unit_program.proofs.Common.{◌≡◌, ℕ, ◌++◌, Flat, Bid, NamedRenewableUnit, NamedBidUnit, Bool, true, false}
use Rattle.unit_program.proofs.Common.{Some, List, ◌≤◌, length, refl, sym, subst, arith, All, IsTrue, IsFalse}
use Rattle.unit_program.proofs.Common.{slice_get, slice_index_or, Answered, ThermalUnit, NamedThermalUnit, AnyUnit}
use Rattle.unit_program.proofs.Common.{Thermal, PriceLists, Schedule, Market, units, earnings, schedule_of}
use Rattle.unit_program.proofs.Common.{IsThermalFeasible, item_of, map_item, CanAnswer, points_of, IsBenchOver}
use Rattle.std.specs.Prelude.{map}
use Rattle.std.proofs.lemmas.Option.{slice_get-get_or}
use Rattle.std.proofs.lemmas.List.Elements.{All-map, All-append}
use Rattle.uc_model.specs.declared.units.Point.{Point}
use Rattle.uc_model.specs.Runs.{Fits}
use Rattle.unit_program.specs.Answers.{CanBeAnswered, Suffices, IsResponse}
use Rattle.unit_program.specs.Benches.{IsBenchFor, BenchSufficesForFewerPeriods}
use Rattle.unit_program.specs.declared.bench.Bench.{Bench}

-- a thermal unit that isn't without a feasible schedule is answered
pub found : (g : ThermalUnit) (π : PriceLists) (a : Answered) (is_found : Bool) →
    CanBeAnswered (Thermal g) (length π.energy) → (IsTrue is_found → Fits (Thermal g) π (schedule_of a.response)) →
    (IsTrue is_found → a.earned ≡ earnings (Thermal g) π (schedule_of a.response))
    → (IsFalse is_found → (s : Schedule) → IsThermalFeasible g (length π.energy) s → ⊥) → IsResponse (Thermal g) π a
found g π a true some fit earned none = record { fit = fit refl; earned = sym (earned refl) }
found g π a false some fit earned none = absurd (some (none refl))

-- an answer is over the periods of its prices
pub answer_long : (u : AnyUnit) (π : PriceLists) (a : Answered) → IsResponse u π a →
    length (schedule_of a.response).on ≡ length π.energy
answer_long (Thermal g) π a r = r.fit.best.feasible.schedule.on
answer_long (Flat f) π a r = r.fit.best.feasible.schedule.on
answer_long (Bid b) π a r = r.fit.best.feasible.schedule.on

-- a unit of a case isn't without a feasible schedule, over as many periods as the prices have
pub some_at : (m : Market) (n k : ℕ) (u : AnyUnit) → CanAnswer m → n ≡ m.periods → slice_get (units m) k ≡ Some u →
    CanBeAnswered u n
some_at m n k u can horizon is = subst (CanBeAnswered u) (sym horizon) (can k u is)

-- and the bench suffices for it
serves_each : (m : Market) (b : Bench) → IsBenchOver m b → All (λ (u : AnyUnit). Suffices m.periods u b) (units m)
serves_each m b over =
    let P : AnyUnit → Type 0 = λ u. Suffices m.periods u b in
    let ts = map (λ (n : NamedThermalUnit). Thermal n.unit) m.thermal in
    let fs = map (λ (n : NamedRenewableUnit). Flat n.unit) m.flat in
    let bs = map (λ (n : NamedBidUnit). Bid n.unit) m.bids in
    All-append P (ts ++ fs) bs
    (All-append P ts fs (All-map P (λ (n : NamedThermalUnit). Thermal n.unit) m.thermal (λ k d inside. item_of
    (λ (ps : List Point). IsBenchFor m.periods (length ps) b) (points_of m) k (slice_index_or m.thermal k d).unit.points
    over
    (map_item (λ (n : NamedThermalUnit). n.unit.points) m.thermal k (slice_index_or m.thermal k d)
    (slice_get-get_or m.thermal k d inside))))
    (All-map P (λ (n : NamedRenewableUnit). Flat n.unit) m.flat (λ k d inside. tt)))
    (All-map P (λ (n : NamedBidUnit). Bid n.unit) m.bids (λ k d inside. tt))

pub bench_at : (m : Market) (n k : ℕ) (u : AnyUnit) (b : Bench) → IsBenchOver m b → n ≡ m.periods →
    slice_get (units m) k ≡ Some u → Suffices n u b
bench_at m n k u b over horizon is =
    subst (λ (p : ℕ). Suffices p u b) (sym horizon)
    (item_of (λ (x : AnyUnit). Suffices m.periods x b) (units m) k u (serves_each m b over) is)

pub case_bench_kept : (m : Market) (old new : Bench) →
    ((periods points : ℕ) → IsBenchFor periods points old → IsBenchFor periods points new) → IsBenchOver m old →
    IsBenchOver m new
case_bench_kept m old new keeps over k d inside = keeps m.periods _ (over k d inside)

pub serves_all : BenchSufficesForFewerPeriods → (m : Market) (points : ℕ) (b : Bench) →
    All (λ (n : NamedThermalUnit). length n.unit.points ≤ points) m.thermal → IsBenchFor m.periods points b →
    IsBenchOver m b
serves_all less m points b few over =
    All-map (λ (ps : List Point). IsBenchFor m.periods (length ps) b) (λ (n : NamedThermalUnit). n.unit.points)
    m.thermal
    (λ k d inside. less m.periods points m.periods (length (slice_index_or m.thermal k d).unit.points) b (omega arith)
    (few k d inside) over)
