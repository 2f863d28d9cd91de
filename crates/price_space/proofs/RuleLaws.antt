-- The price that is found is the start price of the rule.
use Rattle.price_space.proofs.Common.{◌≡◌, ℕ, zero, suc, ◌<◌, ◌⊎◌, inl, inr, ⊎_elim, Bool, true, false, cond, ℤ, pos}
use Rattle.price_space.proofs.Common.{◌+ℤ◌, ◌-ℤ◌, ◌≤ℤ◌, int_le, Option, Some, unwrap_or, List, [], ◌∷◌, map, filter}
use Rattle.price_space.proofs.Common.{length, get_or, refl, ap, sym, subst, ◌∙◌, arith, ints, fold-int_min_bounds}
use Rattle.price_space.proofs.Common.{fold-int_min_reached, fold-int_max_bounds, fold-int_max_reached, get_or_default}
use Rattle.price_space.proofs.Common.{nil_from_length, length-map, IsPermutation-sym, IsPermutation-map}
use Rattle.price_space.proofs.Common.{Contains-permutation, sum_by-IsPermutation, length_permutation, int_min, int_max}
use Rattle.price_space.proofs.Common.{All, Contains, fold, reduce, sum_by, IsPermutation, Priced, NamedThermalUnit}
use Rattle.price_space.proofs.Common.{Market, full_load_price, power_up_to, start_price, int_at, total, priced_of}
use Rattle.price_space.proofs.Common.{priced_units_of, renewable_power_of, power_at, IsStartPrice, IsLeastReaching}
use Rattle.price_space.proofs.Common.{IsGreatestShort, IsWithoutUnits}
use Rattle.std.proofs.lemmas.List.Elements.{All-filter, filter_passes}
use Rattle.price_space.proofs.StartLaws.{AreGiving, power_sum, price_of, le_true, le_false, from_true}

abbrev price : Priced → ℤ
price u = u.price

-- ---- in another order

in_other : (xs ys : List Priced) → IsPermutation xs ys → (k : ℕ) (d : Priced) → k < length xs →
    Contains ys (get_or xs k d)
in_other xs ys p k d l = Contains-permutation xs ys (get_or xs k d) p (k, l, get_or_default xs k (get_or xs k d) d l)

least_moved : (xs ys : List Priced) (short s : ℤ) → IsPermutation xs ys → IsLeastReaching ys short s →
    IsLeastReaching xs short s
least_moved xs ys short s p h = record {
  member = Contains-permutation (map price ys) (map price xs) s
      (IsPermutation-map price ys xs (IsPermutation-sym xs ys p)) h.member;
  reaches = let same = sum_by-IsPermutation (power_at s) xs ys p in let r = h.reaches in omega (arith, ints, same, r);
  least = λ k d l enough.
      let w = in_other xs ys p k d l in
      let e = ap price w.2 in
      let same = sum_by-IsPermutation (power_at (get_or xs k d).price) xs ys p in
      let f = ap (λ (z : ℤ). sum_by (power_at z) ys) e in
      let low = h.least w.0 (get_or xs k d) w.1 (omega (arith, ints, same, f, enough)) in
      omega (arith, ints, low, e);
}

greatest_moved : (xs ys : List Priced) (short s : ℤ) → IsPermutation xs ys → IsGreatestShort ys short s →
    IsGreatestShort xs short s
greatest_moved xs ys short s p h = record {
  member = Contains-permutation (map price ys) (map price xs) s
      (IsPermutation-map price ys xs (IsPermutation-sym xs ys p)) h.member;
  none = λ k d l.
      let w = in_other xs ys p k d l in
      let e = ap price w.2 in
      let same = sum_by-IsPermutation (power_at (get_or xs k d).price) xs ys p in
      let f = ap (λ (z : ℤ). sum_by (power_at z) ys) e in
      let few = h.none w.0 (get_or xs k d) w.1 in
      omega (arith, ints, same, f, few);
  greatest = λ k d l.
      let w = in_other xs ys p k d l in
      let e = ap price w.2 in
      let high = h.greatest w.0 (get_or xs k d) w.1 in
      omega (arith, ints, high, e);
}

pub start_moved : (xs ys : List Priced) (short s : ℤ) → IsPermutation xs ys → IsStartPrice ys short s →
    IsStartPrice xs short s
start_moved xs ys short s p h =
    ⊎_elim (λ (a : IsLeastReaching ys short s). inl (least_moved xs ys short s p a))
    (λ (b : IsGreatestShort ys short s ⊎ IsWithoutUnits ys s). inr
    (⊎_elim (λ (g : IsGreatestShort ys short s). inl (greatest_moved xs ys short s p g))
    (λ (w : IsWithoutUnits ys s). inr
    (record {
      none = nil_from_length xs (let e = length_permutation xs ys p in let f = ap length w.none in
          omega (arith, e, f));
      nothing = w.nothing;
    })) b)) h

-- ---- least and greatest of a list

below_first : (y : ℤ) (ys : List ℤ) (r s : ℤ) (i : ℕ) → r ≤ℤ y → All (λ x. r ≤ℤ x) ys → i < length (y ∷ ys) →
    get_or (y ∷ ys) i s ≡ s → r ≤ℤ s
below_first y ys r s zero h all_ l e = omega (arith, ints, h, e)
below_first y ys r s (suc j) h all_ l e = let low = all_ j s (omega (arith, l)) in omega (arith, ints, low, e)

above_first : (y : ℤ) (ys : List ℤ) (r s : ℤ) (i : ℕ) → y ≤ℤ r → All (λ x. x ≤ℤ r) ys → i < length (y ∷ ys) →
    get_or (y ∷ ys) i s ≡ s → s ≤ℤ r
above_first y ys r s zero h all_ l e = omega (arith, ints, h, e)
above_first y ys r s (suc j) h all_ l e = let low = all_ j s (omega (arith, l)) in omega (arith, ints, low, e)

min_is : (ys : List ℤ) (s : ℤ) → Contains ys s → ((k : ℕ) (d : ℤ) → k < length ys → s ≤ℤ get_or ys k d) →
    reduce int_min ys ≡ Some s
min_is [] s m all_ = absurd (let l = m.1 in omega (arith, l))
min_is (y ∷ ys) s m all_ =
    let r = fold int_min y ys in
    let bounds = fold-int_min_bounds y ys r refl in
    let low = below_first y ys r s m.0 bounds.0 bounds.1 m.1 m.2 in
    let high : s ≤ℤ fold int_min y ys = ⊎_elim
    (λ (e : fold int_min y ys ≡ y). let a = all_ 0 y (omega arith) in omega (arith, ints, a, e))
    (λ (w : Contains ys (fold int_min y ys)). let a = all_ (suc w.0) r (let l = w.1 in omega (arith, l)) in
    let e = w.2 in omega (arith, ints, a, e))
    (fold-int_min_reached y ys r refl) in
    ap (λ (z : ℤ). Some z) (omega (arith, ints, low, high))

max_is : (ys : List ℤ) (s : ℤ) → Contains ys s → ((k : ℕ) (d : ℤ) → k < length ys → get_or ys k d ≤ℤ s) →
    reduce int_max ys ≡ Some s
max_is [] s m all_ = absurd (let l = m.1 in omega (arith, l))
max_is (y ∷ ys) s m all_ =
    let r = fold int_max y ys in
    let bounds = fold-int_max_bounds y ys r refl in
    let low = above_first y ys r s m.0 bounds.0 bounds.1 m.1 m.2 in
    let high : fold int_max y ys ≤ℤ s = ⊎_elim
    (λ (e : fold int_max y ys ≡ y). let a = all_ 0 y (omega arith) in omega (arith, ints, a, e))
    (λ (w : Contains ys (fold int_max y ys)). let a = all_ (suc w.0) r (let l = w.1 in omega (arith, l)) in
    let e = w.2 in omega (arith, ints, a, e))
    (fold-int_max_reached y ys r refl) in
    ap (λ (z : ℤ). Some z) (omega (arith, ints, low, high))

-- what a filter keeps
kept : (q : ℤ → Bool) (ys : List ℤ) (i : ℕ) (s : ℤ) → i < length ys → get_or ys i s ≡ s → q s ≡ true →
    Contains (filter q ys) s
kept q [] i s l e t = absurd (omega (arith, l))
kept q (y ∷ ys) zero s l e t =
    let test : q y ≡ true = ap q e ∙ t in
    subst (λ (b : Bool). Contains (cond b (y ∷ filter q ys) (filter q ys)) s) (sym test) (0, omega arith, e)
kept q (y ∷ ys) (suc i) s l e t =
    let rest = kept q ys i s (omega (arith, l)) e t in
    (elim (q y) as (λ b. Contains (cond b (y ∷ filter q ys) (filter q ys)) s) [
      | true ↦ (suc rest.0, let m = rest.1 in omega (arith, m), rest.2)
      | false ↦ rest
    ])

none_kept : (q : ℤ → Bool) (ys : List ℤ) → ((k : ℕ) (d : ℤ) → k < length ys → q (get_or ys k d) ≡ false) →
    filter q ys ≡ []
none_kept q [] h = refl
none_kept q (y ∷ ys) h =
    ap (λ (b : Bool). cond b (y ∷ filter q ys) (filter q ys)) (h 0 y (omega arith)) ∙
    none_kept q ys (λ k d l. h (suc k) d (omega (arith, l)))

-- ---- the rule

prices_same : (ns : List NamedThermalUnit) →
    map (λ (n : NamedThermalUnit). full_load_price n.unit) ns ≡ map price
    (map (λ (n : NamedThermalUnit). priced_of n.unit) ns)
prices_same [] = refl
prices_same (n ∷ ns) = ap (λ (zs : List ℤ). full_load_price n.unit ∷ zs) (prices_same ns)

powers_same : (p : ℤ) (ns : List NamedThermalUnit) →
    total (map (λ (n : NamedThermalUnit). n.unit.max_power)
    (filter (λ (n : NamedThermalUnit). int_le (full_load_price n.unit) p) ns))
    ≡ total (map (λ (u : Priced). u.power)
    (filter (λ (u : Priced). int_le u.price p) (map (λ (n : NamedThermalUnit). priced_of n.unit) ns)))
powers_same p [] = refl
powers_same p (n ∷ ns) =
    let rest = powers_same p ns in
    let left = filter (λ (m : NamedThermalUnit). int_le (full_load_price m.unit) p) ns in
    let right = filter (λ (u : Priced). int_le u.price p) (map (λ (m : NamedThermalUnit). priced_of m.unit) ns) in
    (elim (int_le (full_load_price n.unit) p) as (λ b. total
    (map (λ (m : NamedThermalUnit). m.unit.max_power) (cond b (n ∷ left) left)) ≡ total
    (map (λ (u : Priced). u.power) (cond b (priced_of n.unit ∷ right) right))) [
      | true ↦ ap (λ (z : ℤ). n.unit.max_power +ℤ z) rest
      | false ↦ rest
    ])

power_is : (m : Market) (k : ℕ) (p : ℤ) → AreGiving (priced_units_of m) →
    power_up_to m k p ≡ pos (sum_by (power_at p) (priced_units_of m)) +ℤ renewable_power_of m k
power_is m k p giving = ap (λ (z : ℤ). z +ℤ renewable_power_of m k)
    (powers_same p m.thermal ∙ power_sum p (priced_units_of m) giving)

abbrev enough : Market → ℕ → ℤ → Bool
enough m k p = int_le (int_at m.demand k) (power_up_to m k p)

least_is : (m : Market) (k : ℕ) (s : ℤ) → AreGiving (priced_units_of m) →
    IsLeastReaching (priced_units_of m) (int_at m.demand k -ℤ renewable_power_of m k) s →
    reduce int_min (filter (enough m k) (map price (priced_units_of m))) ≡ Some s
least_is m k s giving h =
    let ys = map price (priced_units_of m) in
    let w = h.member in
    let r = h.reaches in
    let at_s = power_is m k s giving in
    let test : enough m k s ≡ true = le_true (int_at m.demand k) (power_up_to m k s) (omega (arith, ints, r, at_s)) in
    let low : All (λ y. enough m k y ≡ true → s ≤ℤ y) ys = λ i d l.
    (let inside : i < length (priced_units_of m) = omega (arith, l, length-map (priced_units_of m) price) in
    let e = price_of (priced_units_of m) i (record { price = pos 0; power = pos 0 }) d inside in
    subst (λ (y : ℤ). enough m k y ≡ true → s ≤ℤ y) (sym e)
    (λ t.
    let u = get_or (priced_units_of m) i (record { price = pos 0; power = pos 0 }) in
    let up = from_true (int_at m.demand k) (power_up_to m k u.price) t in
    let is = power_is m k u.price giving in
    h.least i (record { price = pos 0; power = pos 0 }) inside (omega (arith, ints, up, is)))) in
    min_is (filter (enough m k) ys) s (kept (enough m k) ys w.0 s w.1 w.2 test)
    (λ i d l. All-filter (enough m k) (λ y. enough m k y ≡ true → s ≤ℤ y) ys low i d l
    (filter_passes (enough m k) ys i d l))

short_is : (m : Market) (k : ℕ) (s : ℤ) → AreGiving (priced_units_of m) →
    IsGreatestShort (priced_units_of m) (int_at m.demand k -ℤ renewable_power_of m k) s →
    filter (enough m k) (map price (priced_units_of m)) ≡ []
short_is m k s giving h =
    none_kept (enough m k) (map price (priced_units_of m)) (λ i d l.
    let none : Priced = record { price = pos 0; power = pos 0 } in
    let inside : i < length (priced_units_of m) = omega (arith, l, length-map (priced_units_of m) price) in
    let e = price_of (priced_units_of m) i (record { price = pos 0; power = pos 0 }) d inside in
    let u = get_or (priced_units_of m) i (record { price = pos 0; power = pos 0 }) in
    let few = h.none i (record { price = pos 0; power = pos 0 }) inside in
    let is = power_is m k u.price giving in
    ap (enough m k) e ∙ le_false (int_at m.demand k) (power_up_to m k u.price) (omega (arith, ints, few, is)))

greatest_is : (xs : List Priced) (short s : ℤ) → IsGreatestShort xs short s → reduce int_max (map price xs) ≡ Some s
greatest_is xs short s h =
    max_is (map price xs) s h.member (λ i d l.
    let inside : i < length xs = omega (arith, l, length-map xs price) in
    let e = price_of xs i (record { price = pos 0; power = pos 0 }) d inside in
    let high = h.greatest i (record { price = pos 0; power = pos 0 }) inside in
    omega (arith, ints, e, high))

-- the start price by these lists
abbrev by_lists : Market → ℕ → List ℤ → ℤ
by_lists m k prices = unwrap_or (reduce int_min (filter (enough m k) prices))
    (unwrap_or (reduce int_max prices) (pos 0))

pub start_is : (m : Market) (k : ℕ) (s : ℤ) → AreGiving (priced_units_of m) →
    IsStartPrice (priced_units_of m) (int_at m.demand k -ℤ renewable_power_of m k) s → start_price m k ≡ s
start_is m k s giving h =
    let same = ap (by_lists m k) (prices_same m.thermal) in
    let other = unwrap_or (reduce int_max (map price (priced_units_of m))) (pos 0) in
    same ∙ ⊎_elim
    (λ (a : IsLeastReaching (priced_units_of m) (int_at m.demand k -ℤ renewable_power_of m k) s). ap
    (λ (o : Option ℤ). unwrap_or o other) (least_is m k s giving a))
    (λ (b : IsGreatestShort (priced_units_of m) (int_at m.demand k -ℤ renewable_power_of m k) s ⊎ IsWithoutUnits
    (priced_units_of m) s).
    ⊎_elim
    (λ (g : IsGreatestShort (priced_units_of m) (int_at m.demand k -ℤ renewable_power_of m k) s).
    ap (λ (ys : List ℤ). unwrap_or (reduce int_min ys) other) (short_is m k s giving g)
    ∙ ap (λ (o : Option ℤ). unwrap_or o (pos 0))
    (greatest_is (priced_units_of m) (int_at m.demand k -ℤ renewable_power_of m k) s g))
    (λ (w : IsWithoutUnits (priced_units_of m) s). ap (λ (xs : List Priced). by_lists m k (map price xs)) w.none ∙
    sym w.nothing) b) h
