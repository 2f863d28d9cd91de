-- The texts of all units and bids: number by number, as they are written, and kind by kind.
use Rattle.hull_report.proofs.Common.{◌≡◌, ℕ, zero, suc, ◌+◌, ◌<◌, ◌≤◌, Some, List, [], ◌∷◌, ◌++◌, map, length, get_or}
use Rattle.hull_report.proofs.Common.{slice_get, refl, sym, ap, ◌∙◌, subst, arith, length-map, length-append, flat_map}
use Rattle.hull_report.proofs.Common.{NamedThermalUnit, NamedRenewableUnit, NamedBidUnit, AnyUnit, Thermal, Flat, Bid}
use Rattle.hull_report.proofs.Common.{Market, units, unit_count, unit_names, thermal_names, renewable_names, bid_names}
use Rattle.hull_report.proofs.Common.{lines_from, UnitLine, unit_text, thermal_text, renewable_text, bid_text}
use Rattle.hull_report.proofs.Common.{market_of, named_thermal_of, named_renewable_of, named_bid_of}
use Rattle.hull_report.proofs.Common.{take, Option, Result, IsErr, Gains, FallsShort, Writes, GainsAddUp}
use Rattle.report_form.proofs.TextLaws.{writes_same, gains_at_item, exit_at_item}
use Rattle.std.proofs.lemmas.List.Concat.{flat_map-append}
use Rattle.plain_lists.proofs.ListLaws.{none_some, same_item}
use Rattle.uc_model.specs.declared.cases.Case.{Case}

-- a text stands at an index of some
pub record Stands (texts : List (List ℕ)) (k : ℕ) (text : List ℕ) : Type 0 where
  pub inside : k < length texts
  pub is : text ≡ get_or texts k text

module _ {Line : Type 0} (text : AnyUnit → Line → List ℕ) (line : ℕ → List ℕ → Line) where
  -- the text of each unit's line, whose numbers count on from the first
  abbrev pub texts_from : ℕ → List AnyUnit → List (List ℕ) → List (List ℕ)
  texts_from first [] names = []
  texts_from first (u ∷ us) [] = []
  texts_from first (u ∷ us) (name ∷ names) = text u (line first name) ∷ texts_from (first + 1) us names

  length-texts : (first : ℕ) (us : List AnyUnit) (names : List (List ℕ)) →
      length (texts_from first us names) ≤ length us
  length-texts first [] names = omega arith
  length-texts first (u ∷ us) [] = omega arith
  length-texts first (u ∷ us) (name ∷ names) = let h = length-texts (first + 1) us names in omega (arith, h)

  text_stands : (first : ℕ) (us : List AnyUnit) (names : List (List ℕ)) (k : ℕ) (u : AnyUnit) (name x : List ℕ) →
      slice_get us k ≡ Some u → slice_get names k ≡ Some name → x ≡ text u (line (first + k) name) →
      Stands (texts_from first us names) k x
  text_stands first [] names k u name x a b is = absurd (none_some u a)
  text_stands first (v ∷ us) [] k u name x a b is = absurd (none_some name b)
  text_stands first (v ∷ us) (n ∷ names) zero u name x a b is =
      let unit = same_item v u a in
      let named = same_item n name b in
      let here : first + 0 ≡ first = omega arith in
      record { inside = omega arith; is = is ∙ (λ i. text (unit i) (line (here i) (named i))) }
  text_stands first (v ∷ us) (n ∷ names) (suc k) u name x a b is =
      let here : first + suc k ≡ first + 1 + k = omega arith in
      let rest = text_stands (first + 1) us names k u name x a b (is ∙ ap (λ (j : ℕ). text u (line j name)) here) in
      let inside = rest.inside in
      record { inside = omega (arith, inside); is = rest.is }

  texts_append : (first : ℕ) (us vs : List AnyUnit) (names others : List (List ℕ)) → length us ≡ length names →
      texts_from first (us ++ vs) (names ++ others)
      ≡ texts_from first us names ++ texts_from (first + length us) vs others
  texts_append first [] vs [] others h =
      let here : first ≡ first + 0 = omega arith in ap (λ (j : ℕ). texts_from j vs others) here
  texts_append first [] vs (name ∷ names) others h = absurd (omega (arith, h))
  texts_append first (u ∷ us) vs [] others h = absurd (omega (arith, h))
  texts_append first (u ∷ us) vs (name ∷ names) others h =
      let here : first + 1 + length us ≡ first + length (u ∷ us) = omega arith in
      let own = texts_from (first + 1) us names in
      ap (λ (ts : List (List ℕ)). text u (line first name) ∷ ts)
      (texts_append (first + 1) us vs names others (omega (arith, h))
      ∙ ap (λ (j : ℕ). own ++ texts_from j vs others) here)

  -- the units of one kind, whose lines have one form
  of_kind : {N : Type 0} (unit : N → AnyUnit) (name : N → List ℕ) (form : Line → List ℕ) →
      ((n : N) (l : Line) → text (unit n) l ≡ form l) → (first : ℕ) (ns : List N) →
      flat_map (λ t. t) (texts_from first (map unit ns) (map name ns))
      ≡ flat_map form (lines_from line first (map name ns))
  of_kind unit name form same first [] = refl
  of_kind unit name form same first (n ∷ ns) =
      λ i. same n (line first (name n)) i ++ of_kind unit name form same (first + 1) ns i

  -- all units of a case
  abbrev pub all_texts : Market → List (List ℕ)
  all_texts m = texts_from 0 (units m) (unit_names m)

  pub text_at : (m other : Market) → m ≡ other → (k : ℕ) (u : AnyUnit) (name x : List ℕ) →
      slice_get (units m) k ≡ Some u → slice_get (unit_names m) k ≡ Some name → x ≡ text u (line k name) →
      Stands (all_texts other) k x
  text_at m other same k u name x a b is =
      let here : k ≡ 0 + k = omega arith in
      subst (λ (n : Market). Stands (all_texts n) k x) same
      (text_stands 0 (units m) (unit_names m) k u name x a b (is ∙ ap (λ (j : ℕ). text u (line j name)) here))

  -- the line of a unit, as it is written
  pub line_stands : (m other : Market) → m ≡ other → (k : ℕ) (u : AnyUnit) (name : List ℕ) (l : Line) →
      slice_get (units m) k ≡ Some u → slice_get (unit_names m) k ≡ Some name → l ≡ line k name →
      Stands (all_texts other) k (text u l)
  line_stands m other same k u name l a b is =
      text_at m other same k u name (text u l) a b (λ i. text u (is i))

  module _ (m : Market) where
    abbrev thermals : List AnyUnit
    thermals = map (λ (n : NamedThermalUnit). Thermal n.unit) m.thermal

    abbrev flats : List AnyUnit
    flats = map (λ (n : NamedRenewableUnit). Flat n.unit) m.flat

    abbrev bids : List AnyUnit
    bids = map (λ (n : NamedBidUnit). Bid n.unit) m.bids

    length-thermals : length thermals ≡ length m.thermal
    length-thermals = length-map m.thermal (λ (n : NamedThermalUnit). Thermal n.unit)

    length-producers : length (thermals ++ flats) ≡ length m.thermal + length m.flat
    length-producers = omega (
      arith,
      length-append thermals flats,
      length-thermals,
      length-map m.flat (λ (n : NamedRenewableUnit). Flat n.unit),
    )

    pub no_more_texts : (k : ℕ) → unit_count m ≤ k → length (all_texts m) ≤ k
    no_more_texts k h = omega (
      arith,
      h,
      length-texts 0 (units m) (unit_names m),
      length-append (thermals ++ flats) bids,
      length-producers,
      length-map m.bids (λ (n : NamedBidUnit). Bid n.unit),
    )

    names_of_thermals : length thermals ≡ length (thermal_names m)
    names_of_thermals = length-thermals ∙ sym (length-map m.thermal (λ (n : NamedThermalUnit). n.name))

    names_of_producers : length (thermals ++ flats) ≡ length (thermal_names m ++ renewable_names m)
    names_of_producers = omega (
      arith,
      length-producers,
      length-append (thermal_names m) (renewable_names m),
      length-map m.thermal (λ (n : NamedThermalUnit). n.name),
      length-map m.flat (λ (n : NamedRenewableUnit). n.name),
    )

    -- kind by kind
    by_kind : all_texts m ≡ texts_from 0 thermals (thermal_names m)
        ++ texts_from (length m.thermal) flats (renewable_names m)
        ++ texts_from (length m.thermal + length m.flat) bids (bid_names m)
    by_kind =
        let front = texts_append 0 thermals flats (thermal_names m) (renewable_names m) names_of_thermals in
        let whole = texts_append 0 (thermals ++ flats) bids (thermal_names m ++ renewable_names m) (bid_names m)
        names_of_producers in
        let first : 0 + length thermals ≡ length m.thermal = omega (arith, length-thermals) in
        let last : 0 + length (thermals ++ flats) ≡ length m.thermal + length m.flat =
        omega (arith, length-producers) in
        let own = texts_from 0 thermals (thermal_names m) in
        whole
        ∙ (λ i. (front ∙ ap (λ (j : ℕ). own ++ texts_from j flats (renewable_names m)) first) i
        ++ texts_from (last i) bids (bid_names m))

    pub told_by_kind : (thermal renewable bid : Line → List ℕ) →
        ((n : NamedThermalUnit) (l : Line) → text (Thermal n.unit) l ≡ thermal l) →
        ((n : NamedRenewableUnit) (l : Line) → text (Flat n.unit) l ≡ renewable l) →
        ((n : NamedBidUnit) (l : Line) → text (Bid n.unit) l ≡ bid l) →
        flat_map (λ t. t) (all_texts m) ≡ flat_map thermal (lines_from line 0 (thermal_names m))
        ++ flat_map renewable (lines_from line (length m.thermal) (renewable_names m))
        ++ flat_map bid (lines_from line (length m.thermal + length m.flat) (bid_names m))
    told_by_kind thermal renewable bid t r b =
        let ts = texts_from 0 thermals (thermal_names m) in
        let rs = texts_from (length m.thermal) flats (renewable_names m) in
        let bs = texts_from (length m.thermal + length m.flat) bids (bid_names m) in
        ap (flat_map (λ t. t)) by_kind ∙ flat_map-append (λ t. t) (ts ++ rs) bs
        ∙ ap (λ (xs : List ℕ). xs ++ flat_map (λ t. t) bs) (flat_map-append (λ t. t) ts rs)
        ∙ (λ i. of_kind (λ (n : NamedThermalUnit). Thermal n.unit) (λ (n : NamedThermalUnit). n.name) thermal t
        0 m.thermal i
        ++ of_kind (λ (n : NamedRenewableUnit). Flat n.unit) (λ (n : NamedRenewableUnit). n.name) renewable r
        (length m.thermal) m.flat i
        ++ of_kind (λ (n : NamedBidUnit). Bid n.unit) (λ (n : NamedBidUnit). n.name) bid b
        (length m.thermal + length m.flat) m.bids i)

-- the lines of all units of a report
pub units_told : (line : ℕ → List ℕ → UnitLine) (m : Market) → flat_map (λ t. t) (all_texts unit_text line m)
    ≡ flat_map thermal_text (lines_from line 0 (thermal_names m))
    ++ flat_map renewable_text (lines_from line (length m.thermal) (renewable_names m))
    ++ flat_map bid_text (lines_from line (length m.thermal + length m.flat) (bid_names m))
units_told line m =
    told_by_kind unit_text line m thermal_text renewable_text bid_text (λ n l. refl) (λ n l. refl) (λ n l. refl)

-- one line more, after those before it
module _ {S : Type 0} {held : S → Option (List ℕ)} {faults : S → ℕ} {last : Option ℕ}
    (law : GainsAddUp held faults last)
    (texts : List (List ℕ)) (k : ℕ) (x : List ℕ) (at : Stands texts k x) where
  pub line_gained : {old mid new : S} → Gains held faults mid new x →
      Gains held faults old mid (flat_map (λ t. t) (take k texts)) →
      Gains held faults old new (flat_map (λ t. t) (take (k + 1) texts))
  line_gained q p = gains_at_item law (λ t. t) texts k x at.inside at.is q p

  -- the exit of a `?`
  pub line_cut : {E : Type 0} {old mid new : S} (whole : List ℕ) → flat_map (λ t. t) texts ≡ whole →
      (r : Result (Unit {0}) E) → IsErr r → FallsShort held faults last mid new x →
      Gains held faults old mid (flat_map (λ t. t) (take k texts)) → Writes held faults last old new r whole
  line_cut whole told r e q p = writes_same told (exit_at_item law (λ t. t) texts k x r e at.inside at.is q p)

-- how many units of each kind there are
pub record HasCounts (case : Case) (m : Market) : Type 0 where
  pub thermal : length case.thermal.items ≡ length m.thermal
  pub flat : length case.flat.items ≡ length m.flat
  pub bids : length case.bids.items ≡ length m.bids
  pub thermal_most : length m.thermal ≤ 4096
  pub flat_most : length m.flat ≤ 4096
  pub bid_most : length m.bids ≤ 4096

pub counts_of : (case : Case) (m : Market) → market_of case ≡ m → HasCounts case m
counts_of case m e =
    subst (HasCounts case) e (record {
      thermal = sym (length-map case.thermal.items named_thermal_of);
      flat = sym (length-map case.flat.items named_renewable_of);
      bids = sym (length-map case.bids.items named_bid_of);
      thermal_most = case.valid.thermal_count;
      flat_most = case.valid.flat_count;
      bid_most = case.valid.bid_count;
    })
