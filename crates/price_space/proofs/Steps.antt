-- The prices after a step are those of the price rule, and within their limits.
use Rattle.price_space.proofs.Common.{◌≡◌, ℕ, ◌-◌, ◌/◌, ◌^◌, ◌≤◌, min, ℤ, pos, ◌+ℤ◌, ◌-ℤ◌, ◌*ℤ◌, ◌≤ℤ◌, int_div, false}
use Rattle.price_space.proofs.Common.{Some, Option, List, map, length, slice_get, ap, sym, subst, ◌∙◌, arith, ints, All}
use Rattle.price_space.proofs.Common.{range_with_len, option_map_or, IsFrom, price_limit, Proposal, squared_length, age}
use Rattle.price_space.proofs.Common.{stepped_prices, next_prices, no_prices, is_settled, int_at, clamped_from, low_of}
use Rattle.price_space.proofs.Common.{prices_on, direction_on, price_after, is_last_settled}
use Rattle.std.proofs.lemmas.Option.{get_or_from_slice_get}
use Rattle.price_space.specs.declared.entries.Product.{Product}
use Rattle.price_space.specs.declared.entries.Product.TheVariants.{Energy, Reserve}
use Rattle.uc_model.specs.Data.{Market, PriceLists}
use Rattle.price_space.specs.Sizes.{IsRowBelow}

low_is_low : (product : Product) → low_of product ≤ℤ price_limit
low_is_low Energy = omega (arith, ints)
low_is_low Reserve = omega (arith, ints)

pub price_limits : (m : Market) (r : Proposal) (gap scale : ℤ) (product : Product) (k : ℕ) →
    IsFrom (low_of product) price_limit (price_after m r gap scale product k)
unfolding price_after
price_limits m r gap scale product k = clamped_from (low_of product) price_limit
    (int_at (prices_on product r) k +ℤ int_div (gap *ℤ direction_on m r product k) scale) (low_is_low product)

-- the scale of the rule
abbrev scale_by_rule : Market → Proposal → ℕ → ℤ
scale_by_rule m r count = squared_length m r *ℤ pos (2 ^ min 20 (count / 10))

side_is : (m : Market) (r : Proposal) (cost gap scale : ℤ) (count : ℕ) (product : Product) (prices : List ℤ) →
    gap ≡ cost -ℤ r.value → scale ≡ scale_by_rule m r count →
    prices ≡ map (price_after m r gap scale product) (range_with_len 0 m.periods) →
    prices ≡ map (price_after m r (cost -ℤ r.value) (scale_by_rule m r count) product) (range_with_len 0 m.periods)
side_is m r cost gap scale count product prices gap_is scale_is is =
    is ∙ ap (λ (g : ℤ). map (price_after m r g scale product) (range_with_len 0 m.periods)) gap_is
    ∙ ap (λ (s : ℤ). map (price_after m r (cost -ℤ r.value) s product) (range_with_len 0 m.periods)) scale_is

rule_is : (m : Market) (r : Proposal) (cost : ℤ) (count : ℕ) (energy reserve : List ℤ) →
    energy ≡ map (price_after m r (cost -ℤ r.value) (scale_by_rule m r count) Energy) (range_with_len 0 m.periods) →
    reserve ≡ map (price_after m r (cost -ℤ r.value) (scale_by_rule m r count) Reserve) (range_with_len 0 m.periods) →
    (let π : PriceLists = record { energy = energy; reserve = reserve } in π ≡ stepped_prices m cost count r)
unfolding price_after
rule_is m r cost count energy reserve e f =
    ap (λ (es : List ℤ). let π : PriceLists = record { energy = es; reserve = reserve } in π) e
    ∙ ap (λ (rs : List ℤ).
    let π : PriceLists =
    record {
      energy = map (price_after m r (cost -ℤ r.value) (scale_by_rule m r count) Energy)
          (range_with_len 0 m.periods);
      reserve = rs;
    } in π) f

pub stepped_is : (m : Market) (rows : List Proposal) (r : Proposal) (cost gap scale : ℤ) (energy reserve : List ℤ) →
    slice_get rows (length rows - 1) ≡ Some r →
    gap ≡ cost -ℤ r.value → scale ≡ scale_by_rule m r (age rows) →
    energy ≡ map (price_after m r gap scale Energy) (range_with_len 0 m.periods) →
    reserve ≡ map (price_after m r gap scale Reserve) (range_with_len 0 m.periods) →
    (let π : PriceLists = record { energy = energy; reserve = reserve } in π ≡ next_prices m cost rows)
stepped_is m rows r cost gap scale energy reserve last gap_is scale_is e f =
    rule_is m r cost (age rows) energy reserve
    (side_is m r cost gap scale (age rows) Energy energy gap_is scale_is e)
    (side_is m r cost gap scale (age rows) Reserve reserve gap_is scale_is f)
    ∙ sym (ap (λ (o : Option Proposal). option_map_or (stepped_prices m cost (age rows)) o no_prices) last)

pub settled_is : (m : Market) (rows : List Proposal) (r : Proposal) (cost : ℤ) →
    slice_get rows (length rows - 1) ≡ Some r → is_last_settled m cost rows ≡ is_settled m cost r
settled_is m rows r cost last = ap (λ (o : Option Proposal). option_map_or (is_settled m cost) o false) last

pub last_below : (m : Market) (rows : List Proposal) (r : Proposal) (cost : ℤ) → All (IsRowBelow m cost) rows →
    1 ≤ length rows → slice_get rows (length rows - 1) ≡ Some r → IsRowBelow m cost r
last_below m rows r cost all_ some last =
    let is = get_or_from_slice_get rows (length rows - 1) r r last in
    subst (IsRowBelow m cost) is (all_ (length rows - 1) r (omega (arith, some)))
