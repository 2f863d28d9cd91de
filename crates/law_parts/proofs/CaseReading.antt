-- The names of the units of a case are UTF-8.
use Rattle.law_parts.proofs.ReaderNames.{◌≡◌, ℕ, Bool, true, false, cond, List, [], ◌∷◌, ◌++◌, map, Option, Some, None}
use Rattle.law_parts.proofs.ReaderNames.{Result, Ok, Err, refl, sym, ap, subst, All-from_recursion, AllByRecursion}
use Rattle.law_parts.proofs.ReaderNames.{IsUtf8, bytes_eq}
use Rattle.uc_model.specs.declared.kinds.Kind.{Kind}
use Rattle.uc_model.specs.declared.kinds.Kind.TheVariants as kinds
use Rattle.uc_model.specs.Data.{NamedThermalUnit, NamedRenewableUnit, NamedBidUnit, Market, thermal_names}
use Rattle.uc_model.specs.Data.{renewable_names, bid_names, unit_names}
use Rattle.uc_text.specs.Values.{Value}
use Rattle.uc_text.specs.Pairs.{Pair}
use Rattle.uc_text.specs.ValueParts.{object_in}
use Rattle.uc_text.specs.declared.fault.TextFault.{TextFault}
use Rattle.uc_text.specs.Grammar.{end}
unfoldable use Rattle.uc_case.specs.Cases.{thermal, renewable, bid, units, bids, all_units, keyed_case, case_of}
use Rattle.uc_case.specs.Cases.{whole, AllUnits, horizon, needs}
use Rattle.uc_text.specs.Files.{IsFile, reading_of}
use Rattle.uc_field.specs.Forms.{Read, Keys, keys, key, key_or_none, object, under}
unfoldable use Rattle.uc_text.specs.Inside.{value_under}
use Rattle.uc_field.specs.Sites.{site, field_at, key_of}
use Rattle.uc_case.specs.Tables.{thermal_unit, renewable_unit, bid_unit}
unfoldable use Rattle.uc_text.specs.Words.{each}
use Rattle.uc_text.specs.Words.{need, position}
use Rattle.uc_field.specs.declared.fault.Field.{Field}
use Rattle.uc_field.specs.declared.fault.Field.TheVariants as fields
use Rattle.uc_field.specs.declared.fault.Site.{Site}
use Rattle.law_parts.specs.CaseLaws.{CaseNamesAreUtf8}
use Rattle.law_parts.proofs.Keys.{IsKept, tokens_kept}
use Rattle.law_parts.proofs.Passed.{ok_same, bind_ok, passed, of_value_ok}
use Rattle.law_parts.proofs.Values.{AreNamed, IsNamedPair, value_named, object_named}

need_ok : {A F : Type 0} (f : F) (o : Option A) (x : A) → need f o ≡ Ok x → o ≡ Some x
need_ok f None x e = absurd cc
need_ok f (Some y) x e = cc

-- ---- the value of a key

found_named : (name : List ℕ) (ms : List Pair) (v : Value) → AllByRecursion IsNamedPair ms →
    value_under name ms ≡ Some v → AreNamed v
unfolding value_under
found_named name [] v h e = absurd cc
found_named name (m ∷ ms) v h e = by_name (bytes_eq m.name name) e (found_named name ms v h.1)
  where
    by_name : (t : Bool) → cond t (Some m.value) (value_under name ms) ≡ Some v →
        (value_under name ms ≡ Some v → AreNamed v) → AreNamed v
    by_name true f later = let is : m.value ≡ v = cc in subst AreNamed is h.0.1
    by_name false f later = later f

-- ---- the units of a kind

pushed : {A : Type 0} (name : A → List ℕ) (xs : List A) (x : A) → AllByRecursion IsUtf8 (map name xs) →
    IsUtf8 (name x) → AllByRecursion IsUtf8 (map name (xs ++ x ∷ []))
pushed name [] x h i = (i, tt)
pushed name (y ∷ xs) x h i = (h.0, pushed name xs x h.1 i)

each_named : {A F : Type 0} (name : A → List ℕ) (read : List A → Pair → Result A F) →
    ((front : List A) (m : Pair) (x : A) → read front m ≡ Ok x → name x ≡ m.name)
    → (ms : List Pair) (front all : List A) → AllByRecursion IsNamedPair ms → AllByRecursion IsUtf8 (map name front) →
    each read front ms ≡ Ok all → AllByRecursion IsUtf8 (map name all)
unfolding each
each_named name read same [] front all h kept e =
    subst (λ xs. AllByRecursion IsUtf8 (map name xs)) (ok_same front all e) kept
each_named name read same (m ∷ ms) front all h kept e =
    let r = bind_ok (read front m) (λ x. each read (front ++ x ∷ []) ms) all e in
    each_named name read same ms (front ++ r.0 ∷ []) all h.1
    (pushed name front r.0 kept (subst IsUtf8 (sym (same front m r.0 r.1)) h.0.0)) r.2

units_named : {A : Type 0} (name : A → List ℕ) (field : Field) (kind : Kind) (read : Site → Pair → Read A) →
    ((at : Site) (m : Pair) (x : A) → read at m ≡ Ok x → name x ≡ m.name)
    → (at : Site) (v : Value) (all : List A) → AreNamed v → units field kind read at v ≡ Ok all →
    AllByRecursion IsUtf8 (map name all)
unfolding units
units_named name field kind read same at v all h e =
    let ms = bind_ok (object at v) _ all e in
    let few = (passed _ _ _ all ms.2).1 in
    each_named name (λ before. read (site field kind (position before))) (λ front m x is. same _ m x is) ms.0 [] all
    (object_named v ms.0 h (need_ok _ (object_in v) ms.0 ms.1)) tt few

key_named : {A : Type 0} (o : Keys) (f : Field) (form : Site → Value → Read A) (x : A) →
    AllByRecursion IsNamedPair o.members → key o f form ≡ Ok x →
    (v : Value) × AreNamed v × (form (field_at o.at f) v ≡ Ok x)
key_named o f form x h e =
    let found = bind_ok (under (field_at o.at f) (key_of f) o.members) (λ v. form (field_at o.at f) v) x e in (
      found.0,
      found_named (key_of f) o.members found.0 h (need_ok _ (value_under (key_of f) o.members) found.0 found.1),
      found.2,
    )

thermal_name : (periods : ℕ) (at : Site) (m : Pair) (n : NamedThermalUnit) → thermal periods at m ≡ Ok n →
    n.name ≡ m.name
unfolding thermal
thermal_name periods at m n e =
    let u = bind_ok (thermal_unit periods at m.value) _ n e in
    sym (ap (λ (k : NamedThermalUnit). k.name) (ok_same _ n u.2))

renewable_name : (periods : ℕ) (at : Site) (m : Pair) (n : NamedRenewableUnit) → renewable periods at m ≡ Ok n →
    n.name ≡ m.name
unfolding renewable
renewable_name periods at m n e =
    let u = bind_ok (renewable_unit periods at m.value) _ n e in
    sym (ap (λ (k : NamedRenewableUnit). k.name) (ok_same _ n u.2))

bid_name : (periods : ℕ) (at : Site) (m : Pair) (n : NamedBidUnit) → bid periods at m ≡ Ok n → n.name ≡ m.name
unfolding bid
bid_name periods at m n e =
    let u = bind_ok (bid_unit periods at m.value) _ n e in
    sym (ap (λ (k : NamedBidUnit). k.name) (ok_same _ n u.2))

-- bids may be absent
bids_named : (periods : ℕ) (at : Site) (name : List ℕ) (ms : List Pair) (o : Option Value) (ns : List NamedBidUnit) →
    AllByRecursion IsNamedPair ms → value_under name ms ≡ o → bids periods at o ≡ Ok ns →
    AllByRecursion IsUtf8 (map (λ (n : NamedBidUnit). n.name) ns)
unfolding bids
bids_named periods at name ms None ns h found e =
    subst (λ (ks : List NamedBidUnit). AllByRecursion IsUtf8 (map (λ (n : NamedBidUnit). n.name) ks)) (ok_same [] ns e)
    tt
bids_named periods at name ms (Some v) ns h found e =
    units_named (λ (n : NamedBidUnit). n.name) fields.DemandBids kinds.Bid (bid periods) (bid_name periods) at v ns
    (found_named name ms v h found) e

-- ---- a case

record HasUtf8Names (us : AllUnits) : Type 0 where
  pub thermal : AllByRecursion IsUtf8 (map (λ (n : NamedThermalUnit). n.name) us.thermal)
  pub renewable : AllByRecursion IsUtf8 (map (λ (n : NamedRenewableUnit). n.name) us.flat)
  pub bids : AllByRecursion IsUtf8 (map (λ (n : NamedBidUnit). n.name) us.bids)

all_units_named : (periods : ℕ) (c : Keys) (us : AllUnits) → AllByRecursion IsNamedPair c.members →
    all_units periods c ≡ Ok us → HasUtf8Names us
unfolding all_units
all_units_named periods c us h e =
    let g = bind_ok (key c fields.ThermalGenerators (units fields.ThermalGenerators kinds.Thermal (thermal periods))) _
    us e in
    let f = bind_ok (key c fields.RenewableGenerators
    (units fields.RenewableGenerators kinds.Renewable (renewable periods))) _ us g.2 in
    let b = bind_ok (key_or_none c fields.DemandBids (bids periods)) _ us f.2 in
    let g_at = key_named c fields.ThermalGenerators (units fields.ThermalGenerators kinds.Thermal (thermal periods)) g.0
    h g.1 in
    let f_at = key_named c fields.RenewableGenerators
    (units fields.RenewableGenerators kinds.Renewable (renewable periods)) f.0 h f.1 in
    subst HasUtf8Names (ok_same _ us b.2)
    (record {
      thermal = units_named (λ (n : NamedThermalUnit). n.name) fields.ThermalGenerators kinds.Thermal (thermal periods)
          (thermal_name periods) _ g_at.0 g.0 g_at.1 g_at.2;
      renewable = units_named (λ (n : NamedRenewableUnit). n.name) fields.RenewableGenerators kinds.Renewable
          (renewable periods) (renewable_name periods) _ f_at.0 f.0 f_at.1 f_at.2;
      bids = bids_named periods _ (key_of fields.DemandBids) c.members
          (value_under (key_of fields.DemandBids) c.members) b.0 h refl b.1;
    })

abbrev units_in : Market → AllUnits
units_in m = record { thermal = m.thermal; flat = m.flat; bids = m.bids }

case_named : (v : Value) (m : Market) → AreNamed v → case_of v ≡ Ok m → HasUtf8Names (units_in m)
unfolding case_of keyed_case
case_named v m h e =
    let ms = bind_ok (object whole v) _ m e in
    let c = keys whole ms.0 in
    let periods = bind_ok (horizon c) _ m ms.2 in
    let n = bind_ok (needs periods.0 c) _ m periods.2 in
    let us = bind_ok (all_units periods.0 c) _ m n.2 in
    let some = passed _ _ _ m us.2 in
    subst (λ (k : Market). HasUtf8Names (units_in k)) (ok_same _ m some.1)
    (all_units_named periods.0 c us.0 (object_named v ms.0 h (need_ok _ (object_in v) ms.0 ms.1)) us.1)

all_of : (xs ys : List (List ℕ)) → AllByRecursion IsUtf8 xs → AllByRecursion IsUtf8 ys →
    AllByRecursion IsUtf8 (xs ++ ys)
all_of [] ys h i = i
all_of (x ∷ xs) ys h i = (h.0, all_of xs ys h.1 i)

file_named : (bytes : List ℕ) (found : Result Value TextFault) (m : Market) → IsFile bytes found →
    reading_of case_of found ≡ Ok m → HasUtf8Names (units_in m)
file_named bytes (Err f) m file e = absurd cc
file_named bytes (Ok v) m file e =
    case_named v m (value_named v (end ∷ []) (subst (AllByRecursion IsKept) file.0 (tokens_kept 0 0 bytes)))
    (of_value_ok (case_of v) m e)

pub names_utf8 : CaseNamesAreUtf8
names_utf8 bytes m h =
    let names = file_named bytes h.0 m h.1 h.2 in
    All-from_recursion IsUtf8 (unit_names m)
    (all_of (thermal_names m ++ renewable_names m) (bid_names m)
    (all_of (thermal_names m) (renewable_names m) names.thermal names.renewable) names.bids)
