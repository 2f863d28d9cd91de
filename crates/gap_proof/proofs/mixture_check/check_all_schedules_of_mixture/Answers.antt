use Rattle.gap_proof.proofs.Common.{◌≡◌, ℕ, suc, ◌+◌, Some, List, ◌∷◌, ◌++◌, map, drop, length, ap, sym, ◌∙◌, subst}
use Rattle.gap_proof.proofs.Common.{arith, slice_get, All, ThermalUnit, NamedThermalUnit, WeighedSchedule, Market}
use Rattle.gap_proof.proofs.Common.{market_of}
use Rattle.std.proofs.lemmas.List.{length-map}
use Rattle.plan_check.proofs.Common.{err_from_is_err_and}
use Rattle.plan_check.proofs.ToldLaws.{first_left}
use Rattle.plain_lists.proofs.ListLaws.{item_of, map_item, zip_item, length_same}
use Rattle.uc_model.specs.Limits.{IsThermalUnit}
use Rattle.uc_model.specs.PlainUnits.{named_thermal_of}
use Rattle.gap_proof.specs.Mixtures.{entry_of, entries_of, mixture_of, IsOver, AreEntries}
use Rattle.gap_proof.specs.declared.mixtures.Entry.{Entry}
use Rattle.gap_proof.specs.MixtureRefused.{EntryRefusal, entry_refusals, all_entries}
use Rattle.gap_proof.proofs.RefusedLaws.{drop_from}
use Rattle.gap_proof.proofs.mixture_check.check_all_schedules_of_mixture.Goals as goal

pub get-requires-in-loop-index : goal.get-requires-in-loop-index
get-requires-in-loop-index c =
    let m = market_of c.args.case.now in
    let x = mixture_of c.args.mixture.now in
    let same = length_same (λ (n : NamedThermalUnit) (es : List WeighedSchedule). AreEntries m.periods x.whole es)
    m.thermal x.entries c.requires.entries in
    let a = length-map c.args.case.now.thermal.items named_thermal_of in
    let b = length-map c.args.mixture.now.thermal.items entries_of in
    let test = c.loop-index-test.true in
    let end = c.len-index-end.ensures in
    omega (arith, same, a, b, test, end)

pub check_unit_schedules_of_mixture-requires : goal.check_unit_schedules_of_mixture-requires
check_unit_schedules_of_mixture-requires c =
    let m = market_of c.args.case.now in
    let x = mixture_of c.args.mixture.now in
    let k = c.loop-index.index in
    let n = named_thermal_of c.get.result.now in
    let es = entries_of c.get-in-loop-index.result.now in
    let at_n = map_item named_thermal_of c.args.case.now.thermal.items k c.get.result.now c.get.ensures.item in
    let at_es = map_item entries_of c.args.mixture.now.thermal.items k c.get-in-loop-index.result.now
    c.get-in-loop-index.ensures.item in
    let read = zip_item (λ (q : NamedThermalUnit) (l : List WeighedSchedule). AreEntries m.periods x.whole l) m.thermal
    x.entries k n es c.requires.entries at_n at_es in
    let long = (item_of (λ (q : NamedThermalUnit). IsThermalUnit q.unit × (length q.unit.window ≡ m.periods)) m.thermal
    k n c.args.case.now.valid.thermal at_n).1 in
    let same : es ≡ map entry_of c.as_slice-entries.result.now = ap (map entry_of) (sym c.as_slice-entries.ensures) in
    record {
      over = subst (λ (l : List WeighedSchedule). All
          (λ (e : WeighedSchedule). IsOver (length n.unit.window) e.schedule) l) same
          (subst (λ (t : ℕ). All (λ (e : WeighedSchedule). IsOver t e.schedule) es) (sym long) read.over);
    }

-- what the units from a place on break is what its own entries break, and then what the others do
split_at : (m : Market) (ess : List (List WeighedSchedule)) (k : ℕ) (n : NamedThermalUnit) (es : List WeighedSchedule) →
    slice_get m.thermal k ≡ Some n → slice_get ess k ≡ Some es →
    all_entries m.periods (k + 1) (drop k m.thermal) (drop k ess) ≡ entry_refusals m.periods (k + 1) n.unit 1
    es ++ all_entries m.periods (suc (k + 1)) (drop (k + 1) m.thermal) (drop (k + 1) ess)
split_at m ess k n es e f =
    ap (λ (l : List NamedThermalUnit). all_entries m.periods (k + 1) l (drop k ess)) (drop_from m.thermal k n e)
    ∙ ap (λ (l : List (List WeighedSchedule)). all_entries m.periods (k + 1) (n ∷ drop (k + 1) m.thermal) l)
    (drop_from ess k es f)

-- the entries as they were checked are those of the mixture, over the horizon
same_checked : (t periods number : ℕ) (g : ThermalUnit) (xs ys : List Entry) → t ≡ periods → xs ≡ ys →
    entry_refusals t number g 1 (map entry_of xs) ≡ entry_refusals periods number g 1 (map entry_of ys)
same_checked t periods number g xs ys e f = ap (λ (j : ℕ). entry_refusals j number g 1 (map entry_of xs)) e ∙
    ap (λ (l : List Entry). entry_refusals periods number g 1 (map entry_of l)) f

pub returns-in_err-check_unit_schedules_of_mixture : goal.returns-in_err-check_unit_schedules_of_mixture
returns-in_err-check_unit_schedules_of_mixture c =
    let m = market_of c.args.case.now in
    let x = mixture_of c.args.mixture.now in
    let k = c.loop-index.index in
    let n = named_thermal_of c.get.result.now in
    let es = entries_of c.get-in-loop-index.result.now in
    let at_n = map_item named_thermal_of c.args.case.now.thermal.items k c.get.result.now c.get.ensures.item in
    let at_es = map_item entries_of c.args.mixture.now.thermal.items k c.get-in-loop-index.result.now
    c.get-in-loop-index.ensures.item in
    let long = (item_of (λ (q : NamedThermalUnit). IsThermalUnit q.unit × (length q.unit.window ≡ m.periods)) m.thermal
    k n c.args.case.now.valid.thermal at_n).1 in
    let same = same_checked (length n.unit.window) m.periods (k + 1) n.unit c.as_slice-entries.result.now
    c.get-in-loop-index.result.now.items long c.as_slice-entries.ensures in
    let here = entry_refusals m.periods (k + 1) n.unit 1 es in
    let p = err_from_is_err_and c.from_residual.result c.from_residual.ensures.1 in
    rw (p.1, p.2)
    (ap (λ (l : List EntryRefusal). slice_get l 0) (c.loop-index.invariant ∙ split_at m x.entries k n es at_n at_es)
    ∙ first_left here (all_entries m.periods (suc (k + 1)) (drop (k + 1) m.thermal) (drop (k + 1) x.entries)) _
    (ap (λ (l : List EntryRefusal). slice_get l 0) (sym same) ∙ c.in_err-check_unit_schedules_of_mixture.ensures))

pub loop-index-preserved : goal.loop-index-preserved
loop-index-preserved c =
    let m = market_of c.args.case.now in
    let x = mixture_of c.args.mixture.now in
    let k = c.loop-index.index in
    let n = named_thermal_of c.get.result.now in
    let es = entries_of c.get-in-loop-index.result.now in
    let at_n = map_item named_thermal_of c.args.case.now.thermal.items k c.get.result.now c.get.ensures.item in
    let at_es = map_item entries_of c.args.mixture.now.thermal.items k c.get-in-loop-index.result.now
    c.get-in-loop-index.ensures.item in
    let long = (item_of (λ (q : NamedThermalUnit). IsThermalUnit q.unit × (length q.unit.window ≡ m.periods)) m.thermal
    k n c.args.case.now.valid.thermal at_n).1 in
    let same = same_checked (length n.unit.window) m.periods (k + 1) n.unit c.as_slice-entries.result.now
    c.get-in-loop-index.result.now.items long c.as_slice-entries.ensures in
    let next : suc (k + 1) ≡ k + 1 + 1 = omega arith in
    let behind = all_entries m.periods (suc (k + 1)) (drop (k + 1) m.thermal) (drop (k + 1) x.entries) in
    c.loop-index.invariant ∙ split_at m x.entries k n es at_n at_es
    ∙ ap (λ (l : List EntryRefusal). l ++ behind) (sym same ∙ c.in_ok-check_unit_schedules_of_mixture.ensures)
    ∙ ap (λ (j : ℕ). all_entries m.periods j (drop (k + 1) m.thermal) (drop (k + 1) x.entries)) next
