-- The best reserve for given powers (this project's profile). Each law is the clause of a public
-- function.
use Rattle.std.specs.Prelude.{◌≡◌, ℤ, pos, neg_ℤ, ◌+ℤ◌, ◌-ℤ◌, ◌*ℤ◌, ◌≤ℤ◌, ◌<ℤ◌, int_lt}
use Rattle.std.specs.Prelude.{if◌then◌else◌}
use Rattle.std.specs.Int.{int_min}

-- the most reserve at power p after power q
abbrev pub most_reserve : ℤ → ℤ → ℤ → ℤ → ℤ
most_reserve cap up q p = int_min (cap -ℤ p) ((up +ℤ q) -ℤ p)

-- the most where reserve is paid for, and none where it isn't
abbrev pub best_reserve : ℤ → ℤ → ℤ → ℤ → ℤ → ℤ
best_reserve price cap up q p = if int_lt (pos 0) price then most_reserve cap up q p else pos 0

-- reserve r may be kept at power p after power q
pub record IsReserve (cap up q p r : ℤ) : Type 0 where
  pub least : pos 0 ≤ℤ r
  pub greatest : (p +ℤ r) ≤ℤ cap
  pub ramp : ((p +ℤ r) -ℤ q) ≤ℤ up

-- what the most reserve earns is a line in the power p and a kink in the power q before it
abbrev pub ReserveEarningsHaveAKink : Type 0
ReserveEarningsHaveAKink =
    (price cap up q p : ℤ) →
    price *ℤ most_reserve cap up q p ≡ neg_ℤ (price *ℤ p) +ℤ (price *ℤ int_min cap (up +ℤ q))

-- the best reserve may be kept where any may, no reserve earns more, of those that earn as much it
-- is the least, and where reserve is paid for it is the only one
pub record IsBestReserve (price cap up q p r : ℤ) : Type 0 where
  pub may : IsReserve cap up q p (best_reserve price cap up q p)
  pub best : (price *ℤ r) ≤ℤ (price *ℤ best_reserve price cap up q p)
  pub least : price *ℤ r ≡ price *ℤ best_reserve price cap up q p →
      best_reserve price cap up q p ≤ℤ r
  pub only : pos 0 <ℤ price → price *ℤ r ≡ price *ℤ best_reserve price cap up q p →
      r ≡ best_reserve price cap up q p

abbrev pub MostReserveIsBest : Type 0
MostReserveIsBest =
    (price cap up q p r : ℤ) → pos 0 ≤ℤ price → IsReserve cap up q p r →
    IsBestReserve price cap up q p r
