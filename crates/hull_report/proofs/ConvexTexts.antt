-- The text of a search for convex hull prices, part by part.
use Rattle.hull_report.proofs.Common.{◌≡◌, ℕ, zero, suc, ◌+◌, ◌<◌, ℤ, ◌-ℤ◌, Some, List, [], ◌∷◌}
use Rattle.hull_report.proofs.Common.{◌++◌, map, length, get_or}
use Rattle.hull_report.proofs.Common.{slice_get, sym, ap, ◌∙◌, arith, append_assoc, length-map, get_or-map, flat_map}
use Rattle.hull_report.proofs.Common.{NamedThermalUnit, Market, unit_count, thermal_names, renewable_names, bid_names}
use Rattle.hull_report.proofs.Common.{market_of, named_thermal_of, lines_from, Settled, settled_line, settlement_of}
use Rattle.hull_report.proofs.Common.{thermal_text, renewable_text, bid_text, ShareLine, searched_text}
use Rattle.hull_report.proofs.Common.{weighed_text, mixed_text, mixture_text, bounded_text, convex_text, share_line}
use Rattle.hull_report.proofs.Common.{mixture_line, mixture_lines, convex_of, least_paid, WeighedSchedule, MixtureLists}
use Rattle.hull_report.proofs.Common.{AreEntries, HasMixtureShape, entry_of, entries_of, mixture_of}
use Rattle.plain_lists.proofs.ListLaws.{none_some, same_item, map_item, zip_with_item, length_same, length-zip_with}
use Rattle.plain_lists.specs.Reserved.{Reserved}
use Rattle.gap_proof.specs.declared.mixtures.Entry.{Entry}
use Rattle.gap_proof.specs.declared.mixtures.Mixture.{Mixture}
use Rattle.uc_model.specs.declared.cases.Case.{Case}
use Rattle.uc_model.specs.declared.units.NamedUnit.{NamedUnit}

-- an item stands at an index
pub record IsItem {X : Type 0} (xs : List X) (k : ℕ) (x : X) : Type 0 where
  pub inside : k < length xs
  pub is : x ≡ get_or xs k x

item_is : {X : Type 0} (xs : List X) (k : ℕ) (x : X) → slice_get xs k ≡ Some x → IsItem xs k x
item_is [] k x e = absurd (none_some x e)
item_is (y ∷ ys) zero x e = record { inside = omega arith; is = same_item y x e }
item_is (y ∷ ys) (suc k) x e =
    let rest = item_is ys k x e in
    let inside = rest.inside in
    record { inside = omega (arith, inside); is = rest.is }

-- ---- the entries of a unit

abbrev pub share_lines : List Entry → List ShareLine
share_lines es = map share_line (map entry_of es)

pub length-shares : (es : List Entry) → length (share_lines es) ≡ length es
length-shares es = length-map (map entry_of es) share_line ∙ length-map es entry_of

pub entry_at : (es : List Entry) (k : ℕ) (e : Entry) → k < length es → e ≡ get_or es k e →
    IsItem (share_lines es) k (share_line (entry_of e))
entry_at es k e h is =
    let told = length-shares es in
    let weighed = length-map es entry_of in
    record {
      inside = omega (arith, h, told);
      is = ap (λ (x : Entry). share_line (entry_of x)) is
          ∙ sym (ap share_line (get_or-map entry_of es k e (entry_of e) h))
          ∙ sym (get_or-map share_line (map entry_of es) k (entry_of e) (share_line (entry_of e))
          (omega (arith, h, weighed)));
    }

-- the line before the entries, as it is written
pub mixed_as_told : (name : List ℕ) (es : List Entry) →
    mixed_text name (length es) ≡ mixed_text name (length (share_lines es))
mixed_as_told name es = ap (mixed_text name) (sym (length-shares es))

-- ---- the mixtures of all units

pub mixture_at : (case : Case) (x : Mixture) (k : ℕ) (n : NamedUnit) (l : Reserved Entry) (name : List ℕ)
    (es : List Entry) → slice_get case.thermal.items k ≡ Some n → slice_get x.thermal.items k ≡ Some l →
    name ≡ n.name.items → es ≡ l.items →
    IsItem (mixture_lines (market_of case) (mixture_of x)) k (mixture_line name (map entry_of es))
mixture_at case x k n l name es a b named held =
    let m = market_of case in
    let unit = map_item named_thermal_of case.thermal.items k n a in
    let told = map_item (λ (u : NamedThermalUnit). u.name) m.thermal k (named_thermal_of n) unit in
    let entries = map_item entries_of x.thermal.items k l b in
    item_is (mixture_lines m (mixture_of x)) k (mixture_line name (map entry_of es))
    (zip_with_item mixture_line (thermal_names m) (mixture_of x).entries k n.name.items (entries_of l) told entries
    ∙ (λ i. Some (mixture_line (sym named i) (map entry_of (sym held i)))))

-- there is one for each thermal unit
pub no_more_mixtures : (case : Case) (x : Mixture) → HasMixtureShape (market_of case) (mixture_of x) →
    length (mixture_lines (market_of case) (mixture_of x)) ≡ length case.thermal.items
no_more_mixtures case x shape =
    let m = market_of case in
    let same = length_same (λ (n : NamedThermalUnit) (es : List WeighedSchedule).
    AreEntries m.periods (mixture_of x).whole es) m.thermal (mixture_of x).entries shape.entries in
    let names = length-map m.thermal (λ (u : NamedThermalUnit). u.name) in
    let units = length-map case.thermal.items named_thermal_of in
    length-zip_with mixture_line (thermal_names m) (mixture_of x).entries (names ∙ same) ∙ names ∙ units

-- ---- the whole text

nested : (front a b d behind mixed last : List ℕ) →
    front ++ (a ++ b ++ d) ++ (behind ++ mixed ++ last) ≡ front ++ a ++ b ++ d ++ behind ++ mixed ++ last
nested front a b d behind mixed last = simp append_assoc

pub whole_search : (m : Market) (cost : ℤ) (s : Settled) (x : MixtureLists) (within : ℤ) (rounds made : ℕ) (bound : ℤ) →
    searched_text m.periods (unit_count m) cost within rounds made s.row
    ++ (flat_map thermal_text (lines_from (settled_line s) 0 (thermal_names m)) ++ flat_map renewable_text
    (lines_from (settled_line s) (length m.thermal) (renewable_names m))
    ++ flat_map bid_text (lines_from (settled_line s) (length m.thermal + length m.flat) (bid_names m)))
    ++ (weighed_text s.surplus s.sum (cost -ℤ s.row.value) x.whole ++ flat_map mixture_text (mixture_lines m x)
    ++ bounded_text bound (bound -ℤ s.row.value) (least_paid cost bound))
    ≡ convex_text (convex_of m cost s x within rounds made bound)
unfolding convex_text convex_of settlement_of
whole_search m cost s x within rounds made bound =
    let line = settled_line s in
    nested (searched_text m.periods (unit_count m) cost within rounds made s.row)
    (flat_map thermal_text (lines_from line 0 (thermal_names m)))
    (flat_map renewable_text (lines_from line (length m.thermal) (renewable_names m)))
    (flat_map bid_text (lines_from line (length m.thermal + length m.flat) (bid_names m)))
    (weighed_text s.surplus s.sum (cost -ℤ s.row.value) x.whole)
    (flat_map mixture_text (mixture_lines m x))
    (bounded_text bound (bound -ℤ s.row.value) (least_paid cost bound))
