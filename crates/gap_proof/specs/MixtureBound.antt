-- A bound on the dual value of all prices in a box, by a mixture of schedules of each thermal unit.
-- By weak duality a primal point of the convex hulls bounds the dual (Gribik, Hogan and Pope 2007;
-- Dubost, Gonzalez and Lemarechal 2005). What the mixture lacks of demand and of the required
-- reserve is paid for at the worst prices of the box; renewable units and bids answer these. The
-- box and the whole weights are this project's profile. Places of the horizon count from 0.
use Rattle.std.specs.Prelude.{ℕ, zero, suc, ◌+◌, ℤ, pos, ◌+ℤ◌, ◌-ℤ◌, ◌*ℤ◌, List, map}
use Rattle.std.specs.Prelude.{unsigned_abs}
use Rattle.std.specs.Int.{int_max}
use Rattle.gap_proof.specs.CertifiedBound.{low_end, high_end}
use Rattle.uc_model.specs.declared.units.Block.{Block}
use Rattle.uc_model.specs.Data.{AnyUnit, Thermal, RenewableUnit, NamedThermalUnit}
use Rattle.uc_model.specs.Data.{NamedRenewableUnit, NamedBidUnit, PriceLists, Schedule, Market}
use Rattle.uc_model.specs.Earnings.{cost_of, supply_in}
use Rattle.uc_model.specs.Schedules.{reserve_in, blocks_at}
use Rattle.plain_lists.specs.Sums.{int_at, total, sum_below, floor_div, zip_with}
use Rattle.gap_proof.specs.Mixtures.{WeighedSchedule, MixtureLists}

-- ---- sums over the mixture

-- the sum of a number over entries, each as often as its weight says
abbrev pub weighed : (Schedule → ℤ) → List WeighedSchedule → ℤ
weighed f entries = total (map (λ (e : WeighedSchedule). e.weight *ℤ f e.schedule) entries)

-- the same over all thermal units
abbrev pub weighed_over : (AnyUnit → Schedule → ℤ) → Market → MixtureLists → ℤ
weighed_over f m x =
    total (zip_with (λ (n : NamedThermalUnit) (entries : List WeighedSchedule).
    weighed (f (Thermal n.unit)) entries) m.thermal x.entries)

-- what the mixture costs
abbrev pub mixture_cost : Market → MixtureLists → ℤ
mixture_cost m x = weighed_over cost_of m x

-- what it lacks of demand at place k, the whole times
abbrev pub lack : Market → MixtureLists → ℕ → ℤ
lack m x k = (x.whole *ℤ int_at m.demand k) -ℤ weighed_over (λ u s. supply_in u s (suc k)) m x

-- and of the required reserve
abbrev pub short : Market → MixtureLists → ℕ → ℤ
short m x k = (x.whole *ℤ int_at m.reserves k) -ℤ weighed_over (λ u s. reserve_in s (suc k)) m x

-- ---- renewable units and bids

-- what a renewable unit earns at best at place k at an energy price: by its least or greatest power
abbrev pub best_sold : RenewableUnit → ℕ → ℤ → ℤ
best_sold r k price = int_max (price *ℤ int_at r.least k) (price *ℤ int_at r.most k)

-- what blocks earn their buyer at best: those that are worth more than they cost
abbrev pub best_bought : List Block → ℤ → ℤ
best_bought blocks price =
    total (map (λ (b : Block). b.width *ℤ int_max (pos 0) (b.price -ℤ price)) blocks)

-- what renewable units and bids earn together
abbrev pub flat : Market → ℕ → ℤ → ℤ
flat m k price =
    total (map (λ (n : NamedRenewableUnit). best_sold n.unit k price) m.flat)
    +ℤ total (map (λ (n : NamedBidUnit). best_bought (blocks_at n.unit k) price) m.bids)

-- ---- the worst prices of the box

-- the greatest of f 0, f 1, .. and f n
abbrev pub greatest : ℕ → (ℕ → ℤ) → ℤ
greatest zero f = f zero
greatest (suc n) f = int_max (greatest n f) (f (suc n))

-- what an energy price adds at place k, where so much is lacking for so many times the flat answers
abbrev pub added : Market → ℤ → ℤ → ℕ → ℤ → ℤ
added m whole lacking k price = (price *ℤ lacking) -ℤ (whole *ℤ flat m k price)

-- the most that any whole energy price of the interval adds
abbrev pub most_energy : Market → MixtureLists → PriceLists → ℤ → ℕ → ℤ
most_energy m x centre radius k =
    let low = low_end m centre radius k in
    greatest (unsigned_abs (high_end m centre radius k -ℤ low))
    (λ i. added m x.whole (lack m x k) k (low +ℤ pos i))

-- the most that a reserve price of the interval adds, which is at one of its ends
abbrev pub most_reserve : Market → MixtureLists → PriceLists → ℤ → ℕ → ℤ
most_reserve m x centre radius k =
    int_max (short m x k *ℤ low_end m centre radius (m.periods + k))
    (short m x k *ℤ high_end m centre radius (m.periods + k))

-- what the mixture costs, with the most that prices of the box add, for one of the whole
unfoldable pub mixture_bound : Market → MixtureLists → PriceLists → ℤ → ℤ
mixture_bound m x centre radius =
    floor_div (mixture_cost m x +ℤ sum_below m.periods (λ k. most_energy m x centre radius k +ℤ
    most_reserve m x centre radius k)) (unsigned_abs x.whole)
