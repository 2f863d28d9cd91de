use Rattle.gap_proof.proofs.Common.{rules, ◌≡◌, ℕ, ◌+◌, ◌*◌, ◌+ℤ◌, List, map, take, length, ap, sym, subst}
use Rattle.gap_proof.proofs.Common.{FitsSigned, arith, ints, to_z-of_z, w128, All, IsWithin, fits_within, total}
use Rattle.gap_proof.proofs.Common.{zip_with, Thermal, NamedThermalUnit, cost_of, IsThermalFeasible}
use Rattle.gap_proof.proofs.Common.{WeighedSchedule, AreMixed, weighed, market_of}
use Rattle.std.specs.Int.{cast_signed}
use Rattle.std.proofs.lemmas.List.{length-map}
use Rattle.plain_lists.proofs.ListLaws.{item_of, map_item, zip_item, length_same}
use Rattle.uc_model.specs.Limits.{IsThermalUnit}
use Rattle.uc_model.specs.PlainUnits.{named_thermal_of}
use Rattle.gap_proof.specs.declared.mixtures.Entry.{Entry}
use Rattle.gap_proof.specs.Mixtures.{entry_of, entries_of, mixture_of, AreEntries}
use Rattle.gap_proof.specs.MixtureSizes.{AreUnitWeights}
use Rattle.gap_proof.proofs.MixtureSumLaws.{zip_more, weights_of}
use Rattle.gap_proof.proofs.mixture_sums.cost_of_mixture.Goals as goal

pub get-requires-in-loop-index : goal.get-requires-in-loop-index
get-requires-in-loop-index c =
    let m = market_of c.args.case.now in
    let x = mixture_of c.args.mixture.now in
    let same = length_same (λ (n : NamedThermalUnit) (es : List WeighedSchedule). AreEntries m.periods x.whole es)
    m.thermal x.entries c.requires.shape.entries in
    let a = length-map c.args.case.now.thermal.items named_thermal_of in
    let b = length-map c.args.mixture.now.thermal.items entries_of in
    let test = c.loop-index-test.true in
    let end = c.len-index-end.ensures in
    omega (arith, same, a, b, test, end)

pub weighted_cost_of_entries-sum-requires-clause-weights : goal.weighted_cost_of_entries-sum-requires-clause-weights
weighted_cost_of_entries-sum-requires-clause-weights c =
    let m = market_of c.args.case.now in
    let x = mixture_of c.args.mixture.now in
    let k = c.loop-index.index in
    let n = named_thermal_of c.get.result.now in
    let es = entries_of c.get-in-loop-index.result.now in
    let at_n = map_item named_thermal_of c.args.case.now.thermal.items k c.get.result.now c.get.ensures.item in
    let at_es = map_item entries_of c.args.mixture.now.thermal.items k c.get-in-loop-index.result.now
    c.get-in-loop-index.ensures.item in
    let read = zip_item (λ (q : NamedThermalUnit) (l : List WeighedSchedule). AreEntries m.periods x.whole l) m.thermal
    x.entries k n es c.requires.shape.entries at_n at_es in
    subst (λ (l : List Entry). AreUnitWeights (map entry_of l)) (sym c.as_slice.ensures)
    (weights_of m.periods x.whole es c.requires.shape.whole.at_most read)

pub weighted_cost_of_entries-sum-requires-clause-feasible : goal.weighted_cost_of_entries-sum-requires-clause-feasible
weighted_cost_of_entries-sum-requires-clause-feasible c =
    let m = market_of c.args.case.now in
    let x = mixture_of c.args.mixture.now in
    let k = c.loop-index.index in
    let n = named_thermal_of c.get.result.now in
    let es = entries_of c.get-in-loop-index.result.now in
    let at_n = map_item named_thermal_of c.args.case.now.thermal.items k c.get.result.now c.get.ensures.item in
    let at_es = map_item entries_of c.args.mixture.now.thermal.items k c.get-in-loop-index.result.now
    c.get-in-loop-index.ensures.item in
    let mixed = zip_item (λ (q : NamedThermalUnit) (l : List WeighedSchedule). AreMixed m.periods x.whole q.unit l)
    m.thermal x.entries k n es c.requires.feasible.mixed at_n at_es in
    let long = (item_of (λ (q : NamedThermalUnit). IsThermalUnit q.unit × (length q.unit.window ≡ m.periods)) m.thermal
    k n c.args.case.now.valid.thermal at_n).1 in
    subst (λ (l : List Entry). All (λ (e : WeighedSchedule). IsThermalFeasible n.unit (length n.unit.window) e.schedule)
    (map entry_of l)) (sym c.as_slice.ensures)
    (subst (λ (t : ℕ). All (λ (e : WeighedSchedule). IsThermalFeasible n.unit t e.schedule) es) (sym long)
    mixed.feasible)

pub overflow_add-sum : goal.overflow_add-sum
overflow_add-sum c =
    let few = c.args.case.now.valid.thermal_count in
    let mapped = length-map c.args.case.now.thermal.items named_thermal_of in
    let test = c.loop-index-test.true in
    let end = c.len-index-end.ensures in
    let f : FitsSigned w128 c.weighted_cost_of_entries-sum.result = search rules in
    let a = c.loop-index.invariant.limit.at_least in
    let b = c.loop-index.invariant.limit.at_most in
    let x = c.weighted_cost_of_entries-sum.ensures.limit.at_least in
    let y = c.weighted_cost_of_entries-sum.ensures.limit.at_most in
    let within : IsWithin 7000000000000000000000000000000000
    (cast_signed w128 c.loop-index.sum-bits +ℤ c.weighted_cost_of_entries-sum.result) =
    record {
      at_least = omega (arith, ints, a, x, few, mapped, test, end);
      at_most =
          omega (arith, ints, b, y, few, mapped, test, end);
    } in
    let fits = fits_within w128 7000000000000000000000000000000000
    (cast_signed w128 c.loop-index.sum-bits +ℤ c.weighted_cost_of_entries-sum.result) within (omega arith) in
    simp to_z-of_z fits

pub loop-index-preserved : goal.loop-index-preserved
loop-index-preserved c =
    let m = market_of c.args.case.now in
    let x = mixture_of c.args.mixture.now in
    let k = c.loop-index.index in
    let n = named_thermal_of c.get.result.now in
    let es = entries_of c.get-in-loop-index.result.now in
    let at_n = map_item named_thermal_of c.args.case.now.thermal.items k c.get.result.now c.get.ensures.item in
    let at_es = map_item entries_of c.args.mixture.now.thermal.items k c.get-in-loop-index.result.now
    c.get-in-loop-index.ensures.item in
    let few = c.args.case.now.valid.thermal_count in
    let mapped = length-map c.args.case.now.thermal.items named_thermal_of in
    let test = c.loop-index-test.true in
    let end = c.len-index-end.ensures in
    let f : FitsSigned w128 c.weighted_cost_of_entries-sum.result = search rules in
    let more = zip_more (λ (q : NamedThermalUnit) (l : List WeighedSchedule). weighed (cost_of (Thermal q.unit)) l)
    m.thermal x.entries k n es at_n at_es in
    let so_far : cast_signed w128 c.loop-index.sum-bits ≡ total
    (zip_with (λ (q : NamedThermalUnit) (l : List WeighedSchedule). weighed (cost_of (Thermal q.unit)) l)
    (take k m.thermal) x.entries) = c.loop-index.invariant.is in
    let value = c.weighted_cost_of_entries-sum.ensures.value in
    let same = ap (λ (l : List Entry). weighed (cost_of (Thermal n.unit)) (map entry_of l)) c.as_slice.ensures in
    let a = c.loop-index.invariant.limit.at_least in
    let b = c.loop-index.invariant.limit.at_most in
    let u = c.weighted_cost_of_entries-sum.ensures.limit.at_least in
    let v = c.weighted_cost_of_entries-sum.ensures.limit.at_most in
    let sum : cast_signed w128 c.loop-index.sum-bits +ℤ c.weighted_cost_of_entries-sum.result ≡ total
    (zip_with (λ (q : NamedThermalUnit) (l : List WeighedSchedule). weighed (cost_of (Thermal q.unit)) l)
    (take (k + 1) m.thermal) x.entries) = omega (arith, ints, more, so_far, value, same) in
    let limit : IsWithin (1700000000000000000000000000000 * (k + 1))
    (cast_signed w128 c.loop-index.sum-bits +ℤ c.weighted_cost_of_entries-sum.result) =
    record { at_least = omega (arith, ints, a, u); at_most = omega (arith, ints, b, v) } in
    let l = limit.at_least in
    let h = limit.at_most in
    let within : IsWithin 7000000000000000000000000000000000
    (cast_signed w128 c.loop-index.sum-bits +ℤ c.weighted_cost_of_entries-sum.result) =
    record {
      at_least = omega (arith, ints, l, few, mapped, test, end);
      at_most =
          omega (arith, ints, h, few, mapped, test, end);
    } in
    let fits = fits_within w128 7000000000000000000000000000000000
    (cast_signed w128 c.loop-index.sum-bits +ℤ c.weighted_cost_of_entries-sum.result) within (omega arith) in
    record { is = simp to_z-of_z sum; limit = simp to_z-of_z limit }
