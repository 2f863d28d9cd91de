-- The price rule, product by product for energy and reserve (this project's profile).
use Rattle.std.specs.Prelude.{ℕ, ◌-◌, ℤ, pos, neg_ℤ, ◌+ℤ◌, ◌*ℤ◌, Bool, false, int_div, List, length}
use Rattle.std.specs.Prelude.{map, slice_get}
use Rattle.std.specs.Option.{option_map_or}
use Rattle.price_space.specs.declared.entries.Product.{Product}
use Rattle.price_space.specs.declared.entries.Product.TheVariants.{Energy, Reserve}
use Rattle.uc_model.specs.Data.{Market}
use Rattle.uc_model.specs.Limits.{price_limit}
use Rattle.uc_model.specs.PriceRule.{Proposal, energy_direction, reserve_direction, is_settled}
use Rattle.plain_lists.specs.Sums.{int_at, clamped}

-- the least price of a product; the greatest is one for both
abbrev pub low_of : Product → ℤ
low_of Energy = neg_ℤ price_limit
low_of Reserve = pos 0

abbrev pub prices_on : Product → Proposal → List ℤ
prices_on Energy r = r.prices.energy
prices_on Reserve r = r.prices.reserve

abbrev pub direction_on : Market → Proposal → Product → ℕ → ℤ
direction_on m r Energy k = energy_direction m r k
direction_on m r Reserve k = reserve_direction m r k

abbrev pub values_of : List Proposal → List ℤ
values_of rows = map (λ (r : Proposal). r.value) rows

-- the price at a place after a step of that gap over that scale, cut toward zero and kept within
-- its limits
unfoldable pub price_after : Market → Proposal → ℤ → ℤ → Product → ℕ → ℤ
price_after m r gap scale product k =
    clamped (low_of product) price_limit (int_at (prices_on product r) k
    +ℤ int_div (gap *ℤ direction_on m r product k) scale)

-- whether the last of these rows is settled
abbrev pub is_last_settled : Market → ℤ → List Proposal → Bool
is_last_settled m cost rows =
    option_map_or (is_settled m cost) (slice_get rows (length rows - 1)) false
