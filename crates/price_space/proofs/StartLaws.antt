-- The start price of a period, from the units in the order of their full-load prices.
use Rattle.price_space.proofs.Common.{◌≡◌, ℕ, zero, suc, ◌+◌, ◌-◌, ◌<◌, ◌≤◌, inl, inr, Bool, true, false, cond}
use Rattle.price_space.proofs.Common.{if◌then◌else◌, ℤ, pos, negsuc, ◌≤ℤ◌, ◌<ℤ◌, int_le, unsigned_abs, Option, Some}
use Rattle.price_space.proofs.Common.{slice_get, int_lt, List, [], ◌∷◌, map, filter, take, drop, length, get_or, refl}
use Rattle.price_space.proofs.Common.{ap, sym, subst, ◌∙◌, arith, add-zero, ints, by_lt_z, get_or-drop, length-drop}
use Rattle.price_space.proofs.Common.{length-map, get_or_default, sum_by-cons, sum_by-take-drop, sum_by-take-le}
use Rattle.price_space.proofs.Common.{sum_by-le-sum_by, Contains, sum_by, Priced, total, power_at, IsRising}
use Rattle.price_space.proofs.Common.{IsStartPrice}
use Rattle.std.specs.Option.{option_map_or}
use Rattle.std.specs.Ordering.{is_lt, ordering_then, int_cmp}
use Rattle.std.specs.declared.cmp.Ordering.TheVariants.{Less, Equal, Greater}

-- ---- powers up to a price

abbrev pub power_of : Priced → ℕ
power_of u = unsigned_abs u.power

pub le_true : (a b : ℤ) → a ≤ℤ b → int_le a b ≡ true
le_true a b h = grind (arith, ints)

pub le_false : (a b : ℤ) → b <ℤ a → int_le a b ≡ false
le_false a b h = grind (arith, ints)

pub from_true : (a b : ℤ) → int_le a b ≡ true → a ≤ℤ b
from_true a b h = grind (arith, ints)

pub abs_up_to : (n : ℕ) (z : ℤ) → pos 0 ≤ℤ z → z ≤ℤ pos n → unsigned_abs z ≤ n
abs_up_to n (pos m) low high = omega (arith, ints, high)
abs_up_to n (negsuc m) low high = absurd (omega (arith, ints, low))

power_at_up_to : (p : ℤ) (u : Priced) → u.price ≤ℤ p → power_at p u ≡ power_of u
power_at_up_to p u h = ap (λ (b : Bool). if b then unsigned_abs u.power else 0) (le_true u.price p h)

power_at_above : (p : ℤ) (u : Priced) → p <ℤ u.price → power_at p u ≡ 0
power_at_above p u h = ap (λ (b : Bool). if b then unsigned_abs u.power else 0) (le_false u.price p h)

at_most_power : (p : ℤ) (u : Priced) → power_at p u ≤ power_of u
at_most_power p u = by_lt_z p u.price (λ h. omega (arith, power_at_above p u h))
    (λ h. omega (arith, power_at_up_to p u h))

-- no unit has a power below 0
abbrev pub AreGiving : List Priced → Type 0
AreGiving xs = (k : ℕ) (d : Priced) → k < length xs → pos 0 ≤ℤ (get_or xs k d).power

giving_rest : (x : Priced) (xs : List Priced) → AreGiving (x ∷ xs) → AreGiving xs
giving_rest x xs h = λ k d i. h (suc k) d (omega (arith, i))

-- the powers of the units up to a price sum to that many
pub power_sum : (p : ℤ) (xs : List Priced) → AreGiving xs →
    total (map (λ (u : Priced). u.power) (filter (λ (u : Priced). int_le u.price p) xs)) ≡ pos (sum_by (power_at p) xs)
power_sum p [] h = refl
power_sum p (x ∷ xs) h =
    let rest = power_sum p xs (giving_rest x xs h) in
    let cons = sum_by-cons (power_at p) x xs in
    let low : pos 0 ≤ℤ x.power = h 0 x (omega arith) in
    by_lt_z p x.price
    (λ above.
    let test = le_false x.price p above in
    let e = ap
    (λ (b : Bool). total (map (λ (u : Priced). u.power)
    (cond b (x ∷ filter (λ (u : Priced). int_le u.price p) xs) (filter (λ (u : Priced). int_le u.price p) xs))))
    test in
    let none = power_at_above p x above in
    omega (arith, ints, e, rest, cons, none))
    (λ up_to.
    let test = le_true x.price p up_to in
    let e = ap
    (λ (b : Bool). total (map (λ (u : Priced). u.power)
    (cond b (x ∷ filter (λ (u : Priced). int_le u.price p) xs) (filter (λ (u : Priced). int_le u.price p) xs))))
    test in
    let some = power_at_up_to p x up_to in
    omega (arith, ints, e, rest, cons, some, low))

-- ---- in the order of prices

-- the first units, none of which is above the price
front_sum : (p : ℤ) (n : ℕ) (xs : List Priced) →
    ((k : ℕ) (d : Priced) → k < n → k < length xs → (get_or xs k d).price ≤ℤ p) →
    sum_by power_of (take n xs) ≡ sum_by (power_at p) (take n xs)
front_sum p zero xs h = refl
front_sum p (suc n) [] h = refl
front_sum p (suc n) (x ∷ xs) h =
    let rest = front_sum p n xs (λ k d i j. h (suc k) d (omega (arith, i)) (omega (arith, j))) in
    let a = sum_by-cons power_of x (take n xs) in
    let b = sum_by-cons (power_at p) x (take n xs) in
    let one = power_at_up_to p x (h 0 x (omega arith) (omega arith)) in
    omega (arith, rest, a, b, one)

-- units that are all above the price
none_sum : (p : ℤ) (xs : List Priced) → ((k : ℕ) (d : Priced) → k < length xs → p <ℤ (get_or xs k d).price) →
    sum_by (power_at p) xs ≡ 0
none_sum p [] h = refl
none_sum p (x ∷ xs) h =
    let rest = none_sum p xs (λ k d i. h (suc k) d (omega (arith, i))) in
    let a = sum_by-cons (power_at p) x xs in
    let one = power_at_above p x (h 0 x (omega arith)) in
    omega (arith, rest, a, one)

-- at the price of the unit at i there is at least the power of the first units up to it
pub reached_at : (xs : List Priced) (i : ℕ) (d : Priced) → IsRising xs → i < length xs →
    sum_by power_of (take (i + 1) xs) ≤ sum_by (power_at (get_or xs i d).price) xs
reached_at xs i d up within =
    let p = (get_or xs i d).price in
    let front = front_sum p (i + 1) xs (λ k e j l.
    let same = ap (λ (u : Priced). u.price) (get_or_default xs k e d l) in
    let rise = up k i d (omega (arith, j)) within in
    omega (arith, ints, same, rise)) in
    let part = sum_by-take-le (power_at p) xs (i + 1) in
    omega (arith, front, part)

-- below that price there is at most the power of the first units before it
pub below_at : (xs : List Priced) (i : ℕ) (d : Priced) (p : ℤ) → IsRising xs → i < length xs →
    p <ℤ (get_or xs i d).price → sum_by (power_at p) xs ≤ sum_by power_of (take i xs)
below_at xs i d p up within under =
    let behind = none_sum p (drop i xs) (λ k e j.
    let l : i + k < length xs = omega (arith, j, length-drop i xs) in
    let same = ap (λ (u : Priced). u.price) (get_or-drop i xs k e ∙ get_or_default xs (i + k) e d l) in
    let rise = up i (i + k) d (omega arith) l in
    omega (arith, ints, same, rise, under)) in
    let split = sum_by-take-drop (power_at p) xs i in
    let front = sum_by-le-sum_by (power_at p) power_of (take i xs) (at_most_power p) in
    omega (arith, behind, split, front)

-- at any price there is at most the power of all units
pub below_all : (xs : List Priced) (p : ℤ) → sum_by (power_at p) xs ≤ sum_by power_of xs
below_all xs p = sum_by-le-sum_by (power_at p) power_of xs (at_most_power p)

-- ---- where the price is found

pub price_of : (ys : List Priced) (j : ℕ) (e : Priced) (z : ℤ) → j < length ys →
    get_or (map (λ (u : Priced). u.price) ys) j z ≡ (get_or ys j e).price
price_of [] j e z h = absurd (omega (arith, h))
price_of (y ∷ ys) zero e z h = refl
price_of (y ∷ ys) (suc j) e z h = price_of ys j e z (omega (arith, h))

price_member : (xs : List Priced) (i : ℕ) (d : Priced) → i < length xs →
    Contains (map (λ (u : Priced). u.price) xs) (get_or xs i d).price
price_member xs i d within =
    (i, omega (arith, within, length-map xs (λ (u : Priced). u.price)), price_of xs i d (get_or xs i d).price within)

cheaper_first : (xs : List Priced) (k i : ℕ) (d e : Priced) → IsRising xs → i < length xs → k < length xs →
    (get_or xs k e).price <ℤ (get_or xs i d).price → k < i
cheaper_first xs k i d e up inside kin under =
    let same = ap (λ (u : Priced). u.price) (get_or_default xs k e d kin) in
    let far : i ≤ k → ⊥ = λ l. (let rise = up i k d l kin in omega (arith, ints, same, rise, under)) in
    omega (arith, far)

-- the first units give too little, and with one more they give enough
pub stops_at : (xs : List Priced) (i : ℕ) (d : Priced) (short : ℤ) → IsRising xs → i < length xs →
    (0 < i → pos (sum_by power_of (take i xs)) <ℤ short) →
    short ≤ℤ pos (sum_by power_of (take (i + 1) xs)) → IsStartPrice xs short (get_or xs i d).price
stops_at xs i d short up within before now = inl (record {
  member = price_member xs i d within;
  reaches = let h = reached_at xs i d up within in omega (arith, ints, h, now);
  least = λ k e l enough.
      by_lt_z (get_or xs k e).price (get_or xs i d).price
      (λ under. absurd (
      let most = below_at xs i d (get_or xs k e).price up within under in
      let first = cheaper_first xs k i d e up within l under in
      let few = before (omega (arith, first)) in
      omega (arith, ints, most, few, enough)))
      (λ h. h);
})

item_at : (xs : List Priced) (i : ℕ) (d : Priced) → i < length xs → slice_get xs i ≡ Some (get_or xs i d)
item_at [] i d h = absurd (omega (arith, h))
item_at (x ∷ xs) zero d h = refl
item_at (x ∷ xs) (suc i) d h = item_at xs i d (omega (arith, h))

-- the price of the last unit, and 0 where there is none
abbrev pub last_price_of : List Priced → ℤ
last_price_of xs = option_map_or (λ (u : Priced). u.price) (slice_get xs (length xs - 1)) (pos 0)

-- all units give too little
pub ends_short : (xs : List Priced) (short : ℤ) → IsRising xs → (0 < length xs → pos (sum_by power_of xs) <ℤ short) →
    IsStartPrice xs short (last_price_of xs)
ends_short [] short up few = inr (inr (record { none = refl; nothing = refl }))
ends_short (x ∷ xs) short up few =
    let ys = x ∷ xs in
    let n = length xs in
    let last : length (x ∷ xs) - 1 ≡ length xs = omega arith in
    let is : last_price_of (x ∷ xs) ≡ (get_or (x ∷ xs) (length xs) x).price =
    ap (λ (j : ℕ). option_map_or (λ (u : Priced). u.price) (slice_get (x ∷ xs) j) (pos 0)) last
    ∙ ap (λ (o : Option Priced). option_map_or (λ (u : Priced). u.price) o (pos 0))
    (item_at (x ∷ xs) (length xs) x (omega arith)) in
    subst (λ (s : ℤ). IsStartPrice (x ∷ xs) short s) (sym is) (inr (inl (record {
      member = price_member (x ∷ xs) (length xs) x (omega arith);
      none = λ k d l. let most = below_all (x ∷ xs) (get_or (x ∷ xs) k d).price in let low = few (omega arith) in
          omega (arith, ints, most, low);
      greatest = λ k d l.
          let same = ap (λ (u : Priced). u.price) (get_or_default (x ∷ xs) (length xs) d x (omega arith)) in
          let rise = up k (length xs) d (omega (arith, l)) (omega arith) in
          omega (arith, ints, same, rise);
    })))

-- ---- order

-- where no price is above the next one
steps_up : (xs : List Priced) →
    ((k : ℕ) (d : Priced) → k + 1 < length xs → (get_or xs k d).price ≤ℤ (get_or xs (k + 1) d).price) →
    (n i : ℕ) (d : Priced) → i + n < length xs → (get_or xs i d).price ≤ℤ (get_or xs (i + n) d).price
steps_up xs h zero i d l = let e = ap (λ (j : ℕ). (get_or xs j d).price) (add-zero i) in omega (arith, ints, e)
steps_up xs h (suc n) i d l =
    let before = steps_up xs h n i d (omega (arith, l)) in
    let step = h (i + n) d (omega (arith, l)) in
    let same : i + n + 1 ≡ i + suc n = omega arith in
    let e = ap (λ (j : ℕ). (get_or xs j d).price) same in
    omega (arith, ints, before, step, e)

pub rising_from : (xs : List Priced) →
    ((k : ℕ) (d : Priced) → k + 1 < length xs → (get_or xs k d).price ≤ℤ (get_or xs (k + 1) d).price) → IsRising xs
rising_from xs h i j d le l =
    let same : i + (j - i) ≡ j = omega (arith, le) in
    let far = steps_up xs h (j - i) i d (omega (arith, same, l)) in
    let e = ap (λ (k : ℕ). (get_or xs k d).price) same in
    omega (arith, ints, far, e)

-- the order of the type looks at the price first
pub not_under : (x y : Priced) → is_lt (ordering_then (int_cmp y.price x.price) (int_cmp y.power x.power)) ≡ false →
    x.price ≤ℤ y.price
not_under x y h =
    by_lt_z y.price x.price
    (λ under. absurd (
    let test : int_lt y.price x.price ≡ true = grind (arith, ints) in
    let e = ap
    (λ (b : Bool). is_lt (ordering_then (cond b Less (cond (int_lt x.price y.price) Greater Equal))
    (int_cmp y.power x.power))) test in
    let clash : true ≡ false = sym e ∙ h in
    cc))
    (λ le. le)
