-- The best reserve for given powers.
use Rattle.spell_run.proofs.Common
use Common.{bounded, signed, ◌≡◌, ℤ, pos, ◌+ℤ◌, ◌-ℤ◌, ◌*ℤ◌, ◌≤ℤ◌, true, false, cond, ap, ◌<ℤ◌, int_lt, int_min}
use Common.{by_lt_z, zero-*ℤ, *ℤ-one, mul-sub, mul-mono_of, most_reserve, best_reserve, IsReserve}
use Common.{ReserveEarningsHaveAKink}
use Common.{MostReserveIsBest}

pub positive_is : (a : ℤ) → pos 0 <ℤ a → int_lt (pos 0) a ≡ true
positive_is a h = grind signed

pub not_positive_is : (a : ℤ) → a ≤ℤ pos 0 → int_lt (pos 0) a ≡ false
not_positive_is a h = grind signed

min_less : (cap up q p : ℤ) → most_reserve cap up q p ≡ int_min cap (up +ℤ q) -ℤ p
min_less cap up q p = omega bounded

pub reserve_is_a_kink : ReserveEarningsHaveAKink
reserve_is_a_kink price cap up q p =
    let e = ap (λ z. price *ℤ z) (min_less cap up q p) in
    let f = mul-sub price (int_min cap (up +ℤ q)) p in
    omega signed

-- ---- the best reserve by cases

pub best_where_paid : (price cap up q p : ℤ) → pos 0 <ℤ price → best_reserve price cap up q p ≡ most_reserve cap up q p
best_where_paid price cap up q p h = ap (λ b. cond b (most_reserve cap up q p) (pos 0)) (positive_is price h)

pub best_where_not_paid : (price cap up q p : ℤ) → price ≤ℤ pos 0 → best_reserve price cap up q p ≡ pos 0
best_where_not_paid price cap up q p h = ap (λ b. cond b (most_reserve cap up q p) (pos 0))
    (not_positive_is price h)

-- where some reserve may be kept, so may the best
pub best_may : (price cap up q p : ℤ) → p ≤ℤ cap → (p -ℤ q) ≤ℤ up → IsReserve cap up q p (best_reserve price cap up q p)
best_may price cap up q p h i =
    by_lt_z (pos 0) price
    (λ paid.
    rw (best_where_paid price cap up q p paid) (record {
      least = omega bounded;
      greatest = omega bounded;
      ramp = omega bounded;
    }))
    (λ unpaid.
    rw (best_where_not_paid price cap up q p unpaid)
    (record { least = omega signed; greatest = omega signed; ramp = omega signed }))

-- it earns what the most reserve earns
pub best_earns : (price cap up q p : ℤ) → pos 0 ≤ℤ price →
    price *ℤ best_reserve price cap up q p ≡ price *ℤ most_reserve cap up q p
best_earns price cap up q p h =
    by_lt_z (pos 0) price
    (λ paid. ap (λ r. price *ℤ r) (best_where_paid price cap up q p paid))
    (λ unpaid.
    let z : price ≡ pos 0 = omega signed in
    let none = zero-*ℤ (best_reserve price cap up q p) in
    let most = zero-*ℤ (most_reserve cap up q p) in
    let a = ap (λ x. x *ℤ best_reserve price cap up q p) z in
    let b = ap (λ x. x *ℤ most_reserve cap up q p) z in
    cc)

pub at_most_most : (cap up q p r : ℤ) → IsReserve cap up q p r → r ≤ℤ most_reserve cap up q p
at_most_most cap up q p r h = omega bounded

pub best_is_best : (price cap up q p r : ℤ) → pos 0 ≤ℤ price → IsReserve cap up q p r →
    (price *ℤ r) ≤ℤ (price *ℤ best_reserve price cap up q p)
best_is_best price cap up q p r h may =
    let m = mul-mono_of price r (most_reserve cap up q p) h (at_most_most cap up q p r may) in
    let e = best_earns price cap up q p h in
    omega signed

-- a product with a positive factor tells its other factor
product_tells : (price r s : ℤ) → pos 0 <ℤ price → r ≤ℤ s → price *ℤ r ≡ price *ℤ s → r ≡ s
product_tells price r s h low e =
    by_lt_z r s
    (λ less.
    let one = mul-mono_of price (pos 1) (s -ℤ r) (omega signed) (omega signed) in
    let t = mul-sub price s r in
    let unit = *ℤ-one price in
    absurd (omega signed))
    (λ same. omega signed)

pub reserve_is_best : MostReserveIsBest
reserve_is_best price cap up q p r h may =
    record {
      may = best_may price cap up q p (omega signed) (omega signed);
      best = best_is_best price cap up q p r h may;
      least = λ same.
          by_lt_z (pos 0) price
          (λ paid. (let o = only paid same in omega signed))
          (λ unpaid. (let e = best_where_not_paid price cap up q p unpaid in omega signed));
      only = only;
    }
  where
    only : pos 0 <ℤ price → price *ℤ r ≡ price *ℤ best_reserve price cap up q p → r ≡ best_reserve price cap up q p
    only paid same =
        product_tells price r (best_reserve price cap up q p) paid
        (let e = best_where_paid price cap up q p paid in let m = at_most_most cap up q p r may in omega signed) same
