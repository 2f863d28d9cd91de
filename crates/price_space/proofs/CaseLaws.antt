-- What a case says of the units that prices are made from.
use Rattle.price_space.proofs.Common.{◌≡◌, ℕ, zero, suc, ◌+◌, ◌<◌, ◌≤◌, ℤ, ◌+ℤ◌, List, [], ◌∷◌, map, drop, length}
use Rattle.price_space.proofs.Common.{get_or, refl, ap, sym, subst, ◌∙◌, arith, length-map, at_drop_more}
use Rattle.price_space.proofs.Common.{All-permutation, length_permutation, All, NamedFlat, Priced, NamedThermalUnit}
use Rattle.price_space.proofs.Common.{NamedRenewableUnit, Market, IsOutput, IsThermalUnit, IsRenewableUnit, IsMarket}
use Rattle.price_space.proofs.Common.{thermal_of, named_thermal_of, named_renewable_of, int_at, total, priced_of}
use Rattle.price_space.proofs.Common.{priced_units_of, AreRisingUnits}
use Rattle.uc_model.specs.declared.units.NamedUnit.{NamedUnit}
use Rattle.price_space.proofs.StartLaws.{AreGiving}

pub units_same : (ns : List NamedUnit) → map (λ (n : NamedUnit). priced_of (thermal_of n.unit)) ns ≡ map
    (λ (n : NamedThermalUnit). priced_of n.unit) (map named_thermal_of ns)
units_same [] = refl
units_same (n ∷ ns) = ap (λ (zs : List Priced). priced_of (thermal_of n.unit) ∷ zs) (units_same ns)

outputs : (periods : ℕ) (ns : List NamedThermalUnit) →
    All (λ (n : NamedThermalUnit). IsThermalUnit n.unit × (length n.unit.window ≡ periods)) ns →
    (k : ℕ) (d : Priced) → k < length (map (λ (n : NamedThermalUnit). priced_of n.unit) ns) →
    IsOutput (get_or (map (λ (n : NamedThermalUnit). priced_of n.unit) ns) k d).power
outputs periods [] h k d l = absurd (omega (arith, l))
outputs periods (n ∷ ns) h zero d l = (h 0 n (omega arith)).0.max_power
outputs periods (n ∷ ns) h (suc k) d l =
    outputs periods ns (λ j e i. h (suc j) e (omega (arith, i))) k d (omega (arith, l))

pub giving : (m : Market) → IsMarket m → AreGiving (priced_units_of m)
giving m h k d l = (outputs m.periods m.thermal h.thermal k d l).at_least

pub rising_outputs : (m : Market) (xs : List Priced) → IsMarket m → AreRisingUnits m xs →
    All (λ (u : Priced). IsOutput u.power) xs
rising_outputs m xs h r = All-permutation (λ (u : Priced). IsOutput u.power) (priced_units_of m) xs r.permutation
    (outputs m.periods m.thermal h.thermal)

pub rising_count : (m : Market) (xs : List Priced) → IsMarket m → AreRisingUnits m xs → length xs ≤ 4096
rising_count m xs h r =
    let a = length_permutation (priced_units_of m) xs r.permutation in
    let b = length-map m.thermal (λ (n : NamedThermalUnit). priced_of n.unit) in
    let few = h.thermal_count in
    omega (arith, a, b, few)

flat_at : (xs : List NamedFlat) (i : ℕ) (x : NamedFlat) → i < length xs → x ≡ get_or xs i x →
    get_or (map named_renewable_of xs) i (named_renewable_of x) ≡ named_renewable_of x
flat_at [] i x l e = absurd (omega (arith, l))
flat_at (y ∷ ys) zero x l e = ap named_renewable_of (sym e)
flat_at (y ∷ ys) (suc i) x l e = flat_at ys i x (omega (arith, l)) e

-- a renewable unit's greatest powers are over the horizon
pub flat_horizon : (periods : ℕ) (xs : List NamedFlat) (i : ℕ) (x : NamedFlat) →
    All (λ (n : NamedRenewableUnit). IsRenewableUnit n.unit × (length n.unit.least ≡ periods))
    (map named_renewable_of xs) →
    i < length xs → x ≡ get_or xs i x → length x.flat.most.items ≡ periods
flat_horizon periods xs i x h l e =
    let own = subst (λ (n : NamedRenewableUnit). IsRenewableUnit n.unit × (length n.unit.least ≡ periods))
    (flat_at xs i x l e) (h i (named_renewable_of x) (omega (arith, l, length-map xs named_renewable_of))) in
    sym own.0.lengths ∙ own.1

-- the greatest powers of the renewable units from one on
abbrev pub most_from : ℕ → List NamedFlat → ℤ
most_from k xs = total (map (λ (n : NamedRenewableUnit). int_at n.unit.most k) (map named_renewable_of xs))

pub most_more : (k : ℕ) (xs : List NamedFlat) (i : ℕ) (x : NamedFlat) → i < length xs → x ≡ get_or xs i x →
    most_from k (drop i xs) ≡ int_at x.flat.most.items k +ℤ most_from k (drop (i + 1) xs)
most_more k xs i x l e =
    at_drop_more (most_from k) xs i x l ∙
    ap (λ (y : NamedFlat). int_at y.flat.most.items k +ℤ most_from k (drop (i + 1) xs)) (sym e)
