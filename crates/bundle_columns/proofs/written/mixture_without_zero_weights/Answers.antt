use Rattle.bundle_columns.proofs.Common.{◌≡◌, ℕ, ℤ, ◌<◌, ◌∷◌, [], ◌++◌, List, length, map, take, sym, ap, ◌∙◌}
use Rattle.bundle_columns.proofs.Common.{subst, arith, market_of, entries_of, mixture_of}
use Rattle.bundle_columns.proofs.Common.{map_item, map_push, length-map, take_all}
use Rattle.bundle_columns.proofs.Common.{AreKept, Some, slice_get, named_thermal_of, WeighedSchedule, IsMixture}
use Rattle.bundle_columns.proofs.Common.{HasMixtureShape, NamedThermalUnit, Market, IsKept, Entry}
use Rattle.bundle_columns.proofs.Common.{rules, w64, FitsSigned, to_z-of_z}
use Rattle.bundle_columns.proofs.Keeping.{some_item, take_item}
use Rattle.bundle_columns.proofs.Pooling.{unit_count, kept_of, entry_count}
use Rattle.bundle_columns.proofs.Telling.{told_bound, told_mixture, told_shape}
use Rattle.bundle_columns.specs.Written.{weighed_of}
use Rattle.gap_proof.specs.MixtureBound.{mixture_bound}
use Rattle.plain_lists.specs.Reserved.{Reserved}
use Rattle.bundle_columns.proofs.written.mixture_without_zero_weights.Goals as goal

-- the entries of a unit, which are kept
kept : (m : Market) (places : ℕ) (whole : ℤ) (items : List (Reserved Entry)) (k : ℕ) (es : Reserved Entry) →
    IsKept m places (record { whole = whole; entries = map entries_of items }) → k < length m.thermal →
    slice_get items k ≡ Some es → (n : NamedThermalUnit) × AreKept m.periods places n.unit (entries_of es)
kept m places whole items k es h lt at =
    let some = some_item m.thermal k lt in
    (some.0, kept_of m places whole items k some.0 es h some.1 at)

pub get-requires : goal.get-requires
get-requires c =
    let m = market_of c.args.case.now in
    let count = unit_count m c.args.places c.args.from.now.weight c.args.from.now.thermal.items c.requires.kept in
    let units = length-map c.args.case.now.thermal.items named_thermal_of in
    let lt : c.loop-number.number < length c.args.case.now.thermal.items = omega arith in
    omega (arith, count, units, lt)

pub entries_with_weight-requires-clause-count : goal.entries_with_weight-requires-clause-count
entries_with_weight-requires-clause-count c =
    let m = market_of c.args.case.now in
    let units = length-map c.args.case.now.thermal.items named_thermal_of in
    let unit = kept m c.args.places c.args.from.now.weight c.args.from.now.thermal.items c.loop-number.number
    c.get.result.now c.requires.kept (omega (arith, units)) c.get.ensures.item in
    let long = entry_count m.periods c.args.places unit.0.unit c.get.result.now unit.1 in
    let few = c.requires.places in
    omega (arith, long, few)

pub entries_with_weight-requires-clause-periods : goal.entries_with_weight-requires-clause-periods
entries_with_weight-requires-clause-periods c =
    let m = market_of c.args.case.now in
    let units = length-map c.args.case.now.thermal.items named_thermal_of in
    let unit = kept m c.args.places c.args.from.now.weight c.args.from.now.thermal.items c.loop-number.number
    c.get.result.now c.requires.kept (omega (arith, units)) c.get.ensures.item in
    let most = c.args.case.now.valid.horizon.at_most in
    λ k d lt. let on = (unit.1.mixed.feasible k d lt).schedule.on in omega (arith, on, most)

pub loop-number-preserved : goal.loop-number-preserved
loop-number-preserved c =
    let all = map entries_of c.args.from.now.thermal.items in
    let k = c.loop-number.number in
    let es = c.in_ok-entries_with_weight.field-0 in
    let room = c.loop-number.invariant.room in
    let spare = c.push.ensures.spare in
    let at = map_item entries_of c.args.from.now.thermal.items k c.get.result.now c.get.ensures.item in
    record {
      so_far = ap (λ l. map entries_of l) c.push.ensures.items ∙ map_push entries_of c.loop-number.thermal.items es ∙
          ap (λ (l : List (List WeighedSchedule)). l ++ entries_of es ∷ []) c.loop-number.invariant.so_far ∙
          ap (λ (e : List WeighedSchedule). map weighed_of (take k all) ++ e ∷ []) c.in_ok-entries_with_weight.ensures ∙
          sym (ap (λ (l : List (List WeighedSchedule)). map weighed_of l) (take_item all k (entries_of
          c.get.result.now) at) ∙
          map_push weighed_of (take k all) (entries_of c.get.result.now));
      room = omega (arith, room, spare);
    }

pub returns-clause-shape : goal.returns-clause-shape
returns-clause-shape c =
    let m = market_of c.args.case.now in
    let x = mixture_of c.args.from.now in
    let units = length-map c.args.case.now.thermal.items named_thermal_of in
    let all = length-map c.args.from.now.thermal.items entries_of in
    let count = unit_count m c.args.places c.args.from.now.weight c.args.from.now.thermal.items c.requires.kept in
    let whole = c.loop-number.invariant.so_far ∙ ap (λ (l : List (List WeighedSchedule)). map weighed_of l)
    (take_all c.loop-number.number x.entries (omega (arith, units, all, count))) in
    let fits : FitsSigned w64 c.args.from.now.weight = search rules in
    let same = to_z-of_z w64 c.args.from.now.weight fits in
    subst (λ (w : ℤ). HasMixtureShape m (record {
      whole = w;
      entries = map entries_of
          c.loop-number.thermal.items;
    })) (sym same)
    (subst (λ (l : List (List WeighedSchedule)). HasMixtureShape m (record { whole = x.whole; entries = l }))
    (sym whole)
    (told_shape m c.args.places x c.requires.kept))

pub returns-clause-mixture : goal.returns-clause-mixture
returns-clause-mixture c =
    let m = market_of c.args.case.now in
    let x = mixture_of c.args.from.now in
    let units = length-map c.args.case.now.thermal.items named_thermal_of in
    let all = length-map c.args.from.now.thermal.items entries_of in
    let count = unit_count m c.args.places c.args.from.now.weight c.args.from.now.thermal.items c.requires.kept in
    let whole = c.loop-number.invariant.so_far ∙ ap (λ (l : List (List WeighedSchedule)). map weighed_of l)
    (take_all c.loop-number.number x.entries (omega (arith, units, all, count))) in
    let fits : FitsSigned w64 c.args.from.now.weight = search rules in
    let same = to_z-of_z w64 c.args.from.now.weight fits in
    subst (λ (w : ℤ). IsMixture m (record { whole = w; entries = map entries_of c.loop-number.thermal.items }))
    (sym same)
    (subst (λ (l : List (List WeighedSchedule)). IsMixture m (record { whole = x.whole; entries = l })) (sym whole)
    (told_mixture m c.args.places x c.requires.kept))

pub returns-clause-bound : goal.returns-clause-bound
returns-clause-bound c = λ π radius.
    let m = market_of c.args.case.now in
    let x = mixture_of c.args.from.now in
    let units = length-map c.args.case.now.thermal.items named_thermal_of in
    let all = length-map c.args.from.now.thermal.items entries_of in
    let count = unit_count m c.args.places c.args.from.now.weight c.args.from.now.thermal.items c.requires.kept in
    let whole = c.loop-number.invariant.so_far ∙ ap (λ (l : List (List WeighedSchedule)). map weighed_of l)
    (take_all c.loop-number.number x.entries (omega (arith, units, all, count))) in
    let fits : FitsSigned w64 c.args.from.now.weight = search rules in
    let same = to_z-of_z w64 c.args.from.now.weight fits in
    subst (λ (w : ℤ). mixture_bound m (record {
      whole = w;
      entries = map entries_of c.loop-number.thermal.items;
    }) π radius
    ≡ mixture_bound m x π radius) (sym same)
    (subst (λ (l : List (List WeighedSchedule)). mixture_bound m (record { whole = x.whole; entries = l }) π radius
    ≡ mixture_bound m x π radius) (sym whole) (told_bound m c.args.places x π radius c.requires.kept))
