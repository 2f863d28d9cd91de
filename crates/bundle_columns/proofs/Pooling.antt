-- The units of a pool.
use Rattle.bundle_columns.proofs.Common.{◌≡◌, ℕ, zero, suc, ◌<◌, ℤ, List, [], ◌∷◌, length, map, sym, ◌∙◌, subst, arith}
use Rattle.bundle_columns.proofs.Common.{Some, slice_get, none_some, map_item, zip_item}
use Rattle.bundle_columns.proofs.Common.{item_of, length-map, Entry, entry_of}
use Rattle.bundle_columns.proofs.Common.{entries_of, Market, NamedThermalUnit, ThermalUnit, AreKept, IsKept}
use Rattle.bundle_columns.proofs.Common.{AnyUnit, Thermal, Schedule, units, same_item, IsFeasible, IsFitAt}
use Rattle.bundle_columns.proofs.Common.{schedule_of}
use Rattle.bundle_columns.proofs.Keeping.{AreKeptOf, some_item}
use Rattle.bundle_columns.proofs.Rescheduling.{IsFit}
use Rattle.plain_lists.proofs.ListLaws.{length_same}
use Rattle.plain_lists.specs.Reserved.{Reserved}
use Rattle.uc_model.specs.PlanLaws.{UnitNumbersGoByKind}

pub place_within : {X : Type 0} (xs : List X) (k : ℕ) (x : X) → slice_get xs k ≡ Some x → k < length xs
place_within [] k x at = absurd (none_some x at)
place_within (y ∷ xs) zero x at = omega arith
place_within (y ∷ xs) (suc k) x at = let lt = place_within xs k x at in omega (arith, lt)

-- as many lists of entries as thermal units
pub unit_count : (m : Market) (places : ℕ) (whole : ℤ) (items : List (Reserved Entry)) →
    IsKept m places (record { whole = whole; entries = map entries_of items }) → length items ≡ length m.thermal
unit_count m places whole items h =
    sym (length-map items entries_of) ∙
    sym (length_same (AreKeptOf m.periods places) m.thermal (map entries_of items) h.kept)

pub kept_of : (m : Market) (places : ℕ) (whole : ℤ) (items : List (Reserved Entry)) (i : ℕ) (n : NamedThermalUnit)
    (es : Reserved Entry) → IsKept m places (record { whole = whole; entries = map entries_of items }) →
    slice_get m.thermal i ≡ Some n → slice_get items i ≡ Some es → AreKept m.periods places n.unit (entries_of es)
kept_of m places whole items i n es h at there =
    zip_item (AreKeptOf m.periods places) m.thermal (map entries_of items) i n (entries_of es) h.kept at
    (map_item entries_of items i es there)

pub entry_count : (periods places : ℕ) (g : ThermalUnit) (es : Reserved Entry) →
    AreKept periods places g (entries_of es) →
    length es.items ≡ places
entry_count periods places g es h = sym (length-map es.items entry_of) ∙ h.count

pub over_at : (periods places : ℕ) (g : ThermalUnit) (es : Reserved Entry) (k : ℕ) (e : Entry) →
    AreKept periods places g (entries_of es) → slice_get es.items k ≡ Some e →
    length (schedule_of e.response).on ≡ periods
over_at periods places g es k e h at =
    (item_of (IsFit periods g) (entries_of es) k (entry_of e) h.mixed.feasible
    (map_item entry_of es.items k e at)).schedule.on

-- what is feasible for the unit of a number is so for the thermal unit of that number
pub fit_at : UnitNumbersGoByKind → (m : Market) (i : ℕ) (u : AnyUnit) (s : Schedule) → i < length m.thermal →
    slice_get (units m) i ≡ Some u → IsFeasible u m.periods s → IsFitAt m i s
fit_at numbered m i u s lt at f =
    let some = some_item m.thermal i lt in
    let there = (numbered m).thermal i some.0 some.1 in
    record {
      unit = some.0;
      is = some.1;
      feasible = subst (λ (v : AnyUnit). IsFeasible v m.periods s)
          (sym (same_item u (Thermal some.0.unit) (sym at ∙ there))) f;
    }
