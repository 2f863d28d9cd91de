use Rattle.gap_proof.proofs.Common.{rules, ◌≡◌, ◌<◌, ◌≤◌, ℕ, ℤ, suc, ◌+◌, ◌*◌, pos, ◌+ℤ◌, List, map, take}
use Rattle.gap_proof.proofs.Common.{ap, sym, subst, ◌∙◌, FitsSigned, arith, ints, to_z-of_z, w128, IsFrom, IsWithin}
use Rattle.gap_proof.proofs.Common.{fits_within, total, zip_with, Thermal, NamedThermalUnit, supply_in, power_in}
use Rattle.gap_proof.proofs.Common.{reserve_in, WeighedSchedule, weighed, market_of}
use Rattle.std.proofs.lemmas.List.{length-map, take_all}
use Rattle.plain_lists.proofs.ListLaws.{map_item, length_same}
use Rattle.uc_model.specs.PlainUnits.{named_thermal_of}
use Rattle.gap_proof.specs.Mixtures.{entry_of, entries_of, mixture_of, AreEntries}
use Rattle.gap_proof.specs.declared.mixtures.Entry.{Entry}
use Rattle.gap_proof.specs.MixtureSizes.{AreUnitWeights, AreBehind}
use Rattle.gap_proof.proofs.MixtureSumLaws.{pair_at, zip_more, weights_of, behind_of}
use Rattle.gap_proof.proofs.mixture_sums.weighted_output_of_mixture.Goals as goal

-- what the first units give, with what one more does
more : (i : ℕ) (x y : ℤ) → i < 4096 → IsFrom (pos 0) (pos (4294967296000000000000 * i)) x →
    IsFrom (pos 0) (pos 4294967296000000000000) y → IsFrom (pos 0) (pos (4294967296000000000000 * (i + 1))) (x +ℤ y)
more i x y lt h g =
    let a = h.at_least in let b = h.at_most in let d = g.at_least in let e = g.at_most in
    record { at_least = omega (arith, ints, a, d); at_most = omega (arith, ints, b, e) }

fits : (i : ℕ) (x : ℤ) → i ≤ 4096 → IsFrom (pos 0) (pos (4294967296000000000000 * i)) x → FitsSigned w128 x
fits i x few h =
    let a = h.at_least in let b = h.at_most in
    fits_within w128 17600000000000000000000000 x
    (record { at_least = omega (arith, ints, a); at_most = omega (arith, ints, b, few) }) (omega arith)

limited : (i : ℕ) (x : ℤ) → i ≤ 4096 → IsFrom (pos 0) (pos (4294967296000000000000 * i)) x →
    IsWithin 17600000000000000000000000 x
limited i x few h = let a = h.at_least in let b = h.at_most in
    record { at_least = omega (arith, ints, a); at_most = omega (arith, ints, b, few) }

pub get-requires : goal.get-requires
get-requires c =
    let m = market_of c.args.case.now in
    let x = mixture_of c.args.mixture.now in
    let same = length_same (λ (n : NamedThermalUnit) (es : List WeighedSchedule). AreEntries m.periods x.whole es)
    m.thermal x.entries c.requires.shape.entries in
    let a = length-map c.args.case.now.thermal.items named_thermal_of in
    let b = length-map c.args.mixture.now.thermal.items entries_of in
    let test = c.loop-unit-test.true in
    let end = c.len-unit-end.ensures in
    omega (arith, same, a, b, test, end)

pub weighted_output_of_entries-more-requires-clause-weights :
    goal.weighted_output_of_entries-more-requires-clause-weights
weighted_output_of_entries-more-requires-clause-weights c =
    let m = market_of c.args.case.now in
    let x = mixture_of c.args.mixture.now in
    let at = map_item entries_of c.args.mixture.now.thermal.items c.loop-unit.unit c.get.result.now
    c.get.ensures.item in
    let pair = pair_at (λ (n : NamedThermalUnit) (es : List WeighedSchedule). AreEntries m.periods x.whole es) m.thermal
    x.entries c.loop-unit.unit (entries_of c.get.result.now) c.requires.shape.entries at in
    subst (λ (l : List Entry). AreUnitWeights (map entry_of l)) (sym c.as_slice.ensures)
    (weights_of m.periods x.whole (entries_of c.get.result.now) c.requires.shape.whole.at_most pair.2)

pub weighted_output_of_entries-more-requires-clause-index : goal.weighted_output_of_entries-more-requires-clause-index
weighted_output_of_entries-more-requires-clause-index c =
    let m = market_of c.args.case.now in
    let x = mixture_of c.args.mixture.now in
    let at = map_item entries_of c.args.mixture.now.thermal.items c.loop-unit.unit c.get.result.now
    c.get.ensures.item in
    let pair = pair_at (λ (n : NamedThermalUnit) (es : List WeighedSchedule). AreEntries m.periods x.whole es) m.thermal
    x.entries c.loop-unit.unit (entries_of c.get.result.now) c.requires.shape.entries at in
    subst (λ (l : List Entry). AreBehind c.args.index (map entry_of l)) (sym c.as_slice.ensures)
    (behind_of m.periods x.whole (entries_of c.get.result.now) c.args.index c.requires.index pair.2)

pub loop-unit-preserved : goal.loop-unit-preserved
loop-unit-preserved c =
    let m = market_of c.args.case.now in
    let x = mixture_of c.args.mixture.now in
    let i = c.loop-unit.unit in
    let k = c.args.index in
    let es = entries_of c.get.result.now in
    let at = map_item entries_of c.args.mixture.now.thermal.items i c.get.result.now c.get.ensures.item in
    let pair = pair_at (λ (n : NamedThermalUnit) (l : List WeighedSchedule). AreEntries m.periods x.whole l) m.thermal
    x.entries i es c.requires.shape.entries at in
    let gp : FitsSigned w128 c.loop-unit.given.power = search rules in
    let gr : FitsSigned w128 c.loop-unit.given.reserve = search rules in
    let mp : FitsSigned w128 c.weighted_output_of_entries-more.result.power = search rules in
    let mr : FitsSigned w128 c.weighted_output_of_entries-more.result.reserve = search rules in
    let powers = zip_more (λ (n : NamedThermalUnit) (l : List WeighedSchedule). weighed
    (λ s. supply_in (Thermal n.unit) s (suc k)) l) m.thermal x.entries i pair.0 es pair.1 at in
    let reserves = zip_more (λ (n : NamedThermalUnit) (l : List WeighedSchedule). weighed (λ s. reserve_in s (suc k)) l)
    m.thermal x.entries i pair.0 es pair.1 at in
    let same_powers = ap (λ (l : List Entry). weighed (λ s. power_in s (suc k)) (map entry_of l)) c.as_slice.ensures in
    let same_reserves = ap (λ (l : List Entry). weighed (λ s. reserve_in s (suc k)) (map entry_of l))
    c.as_slice.ensures in
    let p = c.weighted_output_of_entries-more.ensures.power in
    let r = c.weighted_output_of_entries-more.ensures.reserve in
    let powers_so_far = c.loop-unit.invariant.power in
    let reserves_so_far = c.loop-unit.invariant.reserve in
    let few = c.args.case.now.valid.thermal_count in
    let mapped = length-map c.args.case.now.thermal.items named_thermal_of in
    let test = c.loop-unit-test.true in
    let end = c.len-unit-end.ensures in
    let lt : i < 4096 = omega (arith, few, mapped, test, end) in
    let power_limit = more i c.loop-unit.given.power c.weighted_output_of_entries-more.result.power lt
    c.loop-unit.invariant.power_limit
    c.weighted_output_of_entries-more.ensures.power_limit in
    let reserve_limit = more i c.loop-unit.given.reserve c.weighted_output_of_entries-more.result.reserve lt
    c.loop-unit.invariant.reserve_limit c.weighted_output_of_entries-more.ensures.reserve_limit in
    let power_fits = fits (i + 1) (c.loop-unit.given.power +ℤ c.weighted_output_of_entries-more.result.power)
    (omega (arith, lt))
    power_limit in
    let reserve_fits = fits (i + 1) (c.loop-unit.given.reserve +ℤ c.weighted_output_of_entries-more.result.reserve)
    (omega (arith, lt))
    reserve_limit in
    let power : c.loop-unit.given.power +ℤ c.weighted_output_of_entries-more.result.power ≡ total
    (zip_with (λ (n : NamedThermalUnit) (l : List WeighedSchedule). weighed
    (λ s. supply_in (Thermal n.unit) s (suc k)) l) (take (i + 1) m.thermal) x.entries) =
    omega (arith, ints, powers, same_powers, p, powers_so_far) in
    let reserve : c.loop-unit.given.reserve +ℤ c.weighted_output_of_entries-more.result.reserve ≡ total
    (zip_with (λ (n : NamedThermalUnit) (l : List WeighedSchedule). weighed (λ s. reserve_in s (suc k)) l)
    (take (i + 1) m.thermal) x.entries) = omega (arith, ints, reserves, same_reserves, r, reserves_so_far) in
    record {
      power = simp to_z-of_z power;
      reserve = simp to_z-of_z reserve;
      power_limit = simp to_z-of_z power_limit;
      reserve_limit = simp to_z-of_z reserve_limit;
    }

pub overflow_add-given : goal.overflow_add-given
overflow_add-given c =
    let i = c.loop-unit.unit in
    let gp : FitsSigned w128 c.loop-unit.given.power = search rules in
    let mp : FitsSigned w128 c.weighted_output_of_entries-more.result.power = search rules in
    let few = c.args.case.now.valid.thermal_count in
    let mapped = length-map c.args.case.now.thermal.items named_thermal_of in
    let test = c.loop-unit-test.true in
    let end = c.len-unit-end.ensures in
    let lt : i < 4096 = omega (arith, few, mapped, test, end) in
    let power_limit = more i c.loop-unit.given.power c.weighted_output_of_entries-more.result.power lt
    c.loop-unit.invariant.power_limit
    c.weighted_output_of_entries-more.ensures.power_limit in
    let power_fits = fits (i + 1) (c.loop-unit.given.power +ℤ c.weighted_output_of_entries-more.result.power)
    (omega (arith, lt))
    power_limit in
    simp to_z-of_z power_fits

pub overflow_add-given-in-loop-unit : goal.overflow_add-given-in-loop-unit
overflow_add-given-in-loop-unit c =
    let i = c.loop-unit.unit in
    let gr : FitsSigned w128 c.loop-unit.given.reserve = search rules in
    let mr : FitsSigned w128 c.weighted_output_of_entries-more.result.reserve = search rules in
    let few = c.args.case.now.valid.thermal_count in
    let mapped = length-map c.args.case.now.thermal.items named_thermal_of in
    let test = c.loop-unit-test.true in
    let end = c.len-unit-end.ensures in
    let lt : i < 4096 = omega (arith, few, mapped, test, end) in
    let reserve_limit = more i c.loop-unit.given.reserve c.weighted_output_of_entries-more.result.reserve lt
    c.loop-unit.invariant.reserve_limit c.weighted_output_of_entries-more.ensures.reserve_limit in
    let reserve_fits = fits (i + 1) (c.loop-unit.given.reserve +ℤ c.weighted_output_of_entries-more.result.reserve)
    (omega (arith, lt))
    reserve_limit in
    simp to_z-of_z reserve_fits

-- at the end the first units are all units
all_units : (c : goal.After-loop-unit) →
    take c.loop-unit.unit (market_of c.args.case.now).thermal ≡ (market_of c.args.case.now).thermal
all_units c =
    let mapped = length-map c.args.case.now.thermal.items named_thermal_of in
    let past = c.loop-unit-test.false in
    let end = c.len-unit-end.ensures in
    take_all c.loop-unit.unit (market_of c.args.case.now).thermal (omega (arith, mapped, past, end))

few_units : (c : goal.After-loop-unit) → c.loop-unit.unit ≤ 4096
few_units c =
    let few = c.args.case.now.valid.thermal_count in
    let mapped = length-map c.args.case.now.thermal.items named_thermal_of in
    let within = c.loop-unit.auto.unit-end in
    let end = c.len-unit-end.ensures in
    omega (arith, few, mapped, within, end)

pub returns-clause-power : goal.returns-clause-power
returns-clause-power c =
    c.loop-unit.invariant.power ∙
    ap (λ (ns : List NamedThermalUnit). total
    (zip_with (λ (n : NamedThermalUnit) (l : List WeighedSchedule). weighed
    (λ s. supply_in (Thermal n.unit) s (suc c.args.index)) l) ns (mixture_of c.args.mixture.now).entries))
    (all_units c)

pub returns-clause-reserve : goal.returns-clause-reserve
returns-clause-reserve c =
    c.loop-unit.invariant.reserve ∙
    ap (λ (ns : List NamedThermalUnit). total
    (zip_with (λ (n : NamedThermalUnit) (l : List WeighedSchedule). weighed (λ s. reserve_in s (suc c.args.index))
    l) ns (mixture_of c.args.mixture.now).entries)) (all_units c)

pub returns-clause-power_limit : goal.returns-clause-power_limit
returns-clause-power_limit c =
    limited c.loop-unit.unit c.loop-unit.given.power (few_units c) c.loop-unit.invariant.power_limit

pub returns-clause-reserve_limit : goal.returns-clause-reserve_limit
returns-clause-reserve_limit c =
    limited c.loop-unit.unit c.loop-unit.given.reserve (few_units c) c.loop-unit.invariant.reserve_limit
