-- What renewable units and bids earn at best, period by period, is at most what their best schedules earn.
use Rattle.law_parts.proofs.Common.{◌≡◌, ℕ, ◌<◌, Bool, true, false, if◌then◌else◌, ℤ, pos, negsuc, neg_ℤ, ◌*ℤ◌}
use Rattle.law_parts.proofs.Common.{◌≤ℤ◌, int_le, List, [], ◌∷◌, map, length, unsigned_abs, refl, sym, ap}
use Rattle.law_parts.proofs.Common.{subst, ◌∙◌, arith, ints, clamps, by_lt_z}
use Rattle.law_parts.proofs.Common.{length-map-range_with_len, get_or-map-range_with_len, int_max, All, AllZip}
use Rattle.law_parts.proofs.Common.{range_with_len, slice_index, head_of, tail_of, sum_below-same}
use Rattle.law_parts.proofs.Common.{sum_below-add, sum_below-zero, Block, AnyUnit, Flat, Bid, RenewableUnit, BidUnit}
use Rattle.law_parts.proofs.Common.{NamedRenewableUnit, NamedBidUnit, PriceLists, Schedule, IsTop, IsFrom, IsBlockList}
use Rattle.law_parts.proofs.Common.{IsRenewableUnit, IsBidUnit, price_limit, blocks_at, int_at, total, sum_below}
use Rattle.law_parts.proofs.Common.{best_sold, best_bought}
use Rattle.flat_answer.specs.Choices.{IsBetween, IsWithinBlocks, IsLeastChoice, sold_at, bought_at}
use Rattle.flat_answer.proofs.Blocks.{wanted, in_bounds, wanted_is_choice}
use Rattle.flat_answer.proofs.Forms.{flat_can, flat_earns, flat_by_place, bid_can, bid_earns, bid_by_place}
use Rattle.flat_answer.proofs.Places.{IsAlwaysOn, IsByPlace}
use Rattle.gap_proof.proofs.Bought.{gain_is}

-- ---- a schedule by its powers

abbrev picked : ℕ → (ℕ → ℕ) → Schedule
picked n pick =
    record {
      on = map (λ (k : ℕ). true) (range_with_len 0 n);
      power = map pick (range_with_len 0 n);
      reserve = map (λ (k : ℕ). 0) (range_with_len 0 n);
    }

picked_on : (n : ℕ) (can : ℕ → ℕ → Type 0) (pick : ℕ → ℕ) → ((k : ℕ) → k < n → can k (pick k)) →
    IsAlwaysOn n can (picked n pick)
picked_on n can pick h = record {
  shape = record {
    on = length-map-range_with_len (λ (k : ℕ). true) 0 n;
    power = length-map-range_with_len pick 0 n;
    reserve = length-map-range_with_len (λ (k : ℕ). 0) 0 n;
    off = λ k lt off. let on = get_or-map-range_with_len (λ (j : ℕ). true) 0 n k k false lt (omega arith) in
        absurd (cc);
  };
  on = λ k lt. get_or-map-range_with_len (λ (j : ℕ). true) 0 n k k false lt (omega arith);
  reserve = λ k lt. get_or-map-range_with_len (λ (j : ℕ). 0) 0 n k k 0 lt (omega arith);
  allowed = λ k lt. subst (can k) (sym (get_or-map-range_with_len pick 0 n k k 0 lt (omega arith))) (h k lt);
}

-- what any allowed powers earn is at most what the best schedules earn
picked_earns : (u : AnyUnit) (π : PriceLists) (can : ℕ → ℕ → Type 0) (earns : ℕ → ℕ → ℤ) (pick : ℕ → ℕ) (earned : ℤ) →
    IsByPlace u π can earns →
    ((k : ℕ) → k < length π.energy → can k (pick k)) → IsTop u π earned →
    sum_below (length π.energy) (λ k. earns k (pick k)) ≤ℤ earned
picked_earns u π can earns pick earned by h top =
    let n = length π.energy in
    let on = picked_on n can pick h in
    let sum = by.sum (picked n pick) on in
    let same = sum_below-same n (λ k. earns k (slice_index (map pick (range_with_len 0 n)) k)) (λ k. earns k (pick k))
    (λ k lt. ap (earns k) (get_or-map-range_with_len pick 0 n k k 0 lt (omega arith))) in
    let most = top.best.greatest (picked n pick) (by.each (picked n pick) on) in
    let is = top.earns in
    omega (arith, ints, sum, same, most, is)

positive : (z : ℤ) → pos 0 ≤ℤ z → pos (unsigned_abs z) ≡ z
positive (pos n) h = refl
positive (negsuc n) h = absurd (omega (arith, ints, h))

-- ---- renewable units

-- the least or the greatest power, whichever earns more
abbrev better : ℤ → ℤ → ℤ → ℤ
better price least most = if int_le (price *ℤ least) (price *ℤ most) then most else least

one_or_other : (b : Bool) (least most : ℤ) → least ≤ℤ most → IsFrom least most (if b then most else least)
one_or_other true least most h = record { at_least = h; at_most = omega (arith, ints) }
one_or_other false least most h = record { at_least = omega (arith, ints); at_most = h }

better_earns : (price least most : ℤ) → price *ℤ better price least most ≡ int_max (price *ℤ least) (price *ℤ most)
better_earns price least most =
    by_lt_z (price *ℤ most) (price *ℤ least)
    (λ less.
    let e : int_le (price *ℤ least) (price *ℤ most) ≡ false = grind (arith, ints) in
    let m : price *ℤ least ≡ int_max (price *ℤ least) (price *ℤ most) = omega (arith, ints, clamps, less) in
    ap (λ (b : Bool). price *ℤ (if b then most else least)) e ∙ m)
    (λ low.
    let e : int_le (price *ℤ least) (price *ℤ most) ≡ true = grind (arith, ints) in
    let m : price *ℤ most ≡ int_max (price *ℤ least) (price *ℤ most) = omega (arith, ints, clamps, low) in
    ap (λ (b : Bool). price *ℤ (if b then most else least)) e ∙ m)

record IsPick (price least most : ℤ) : Type 0 where
  allowed : IsBetween least most (unsigned_abs (better price least most))
  earns : sold_at price (unsigned_abs (better price least most)) ≡ int_max (price *ℤ least) (price *ℤ most)

pick_is : (price least most : ℤ) → pos 0 ≤ℤ least → least ≤ℤ most → IsPick price least most
pick_is price least most low range =
    let between = one_or_other (int_le (price *ℤ least) (price *ℤ most)) least most range in
    let a = between.at_least in
    let b = between.at_most in
    let is = positive (better price least most) (omega (arith, ints, low, a)) in
    record {
      allowed = (omega (arith, ints, a, is), omega (arith, ints, b, is));
      earns = ap (λ (z : ℤ). price *ℤ z) is ∙ better_earns price least most;
    }

renewable_top : (r : RenewableUnit) (π : PriceLists) (earned : ℤ) → IsRenewableUnit r →
    length r.least ≡ length π.energy → IsTop (Flat r) π earned →
    sum_below (length π.energy) (λ k. best_sold r k (int_at π.energy k)) ≤ℤ earned
renewable_top r π earned h long top =
    let n = length π.energy in
    let pick : ℕ → ℕ = λ k. unsigned_abs (better (int_at π.energy k) (int_at r.least k) (int_at r.most k)) in
    let is : (k : ℕ) → k < length π.energy → IsPick (int_at π.energy k) (int_at r.least k) (int_at r.most k) =
    λ k lt. pick_is (int_at π.energy k) (int_at r.least k) (int_at r.most k)
    (h.least k (pos 0) (omega (arith, lt, long))).at_least (h.range k (omega (arith, lt, long))) in
    let most = picked_earns (Flat r) π (flat_can r) (flat_earns π) pick earned (flat_by_place r π)
    (λ k lt. (is k lt).allowed) top in
    let same = sum_below-same n (λ k. flat_earns π k (pick k)) (λ k. best_sold r k (int_at π.energy k))
    (λ k lt. (is k lt).earns) in
    omega (arith, ints, most, same)

pub renewables_top : (π : PriceLists) (ns : List NamedRenewableUnit) (tops : List ℤ) →
    All (λ (n : NamedRenewableUnit). IsRenewableUnit n.unit × (length n.unit.least ≡ length π.energy)) ns →
    AllZip (λ (u : AnyUnit) (e : ℤ). IsTop u π e) (map (λ (n : NamedRenewableUnit). Flat n.unit) ns) tops →
    sum_below (length π.energy)
    (λ k. total (map (λ (n : NamedRenewableUnit). best_sold n.unit k (int_at π.energy k)) ns)) ≤ℤ total tops
renewables_top π [] [] h t = let e = sum_below-zero (length π.energy) in omega (arith, ints, e)
renewables_top π [] (e ∷ es) h t = absurd t
renewables_top π (n ∷ ns) [] h t = absurd t
renewables_top π (n ∷ ns) (e ∷ es) h t =
    let IsSized : NamedRenewableUnit → Type 0 = λ (q : NamedRenewableUnit). IsRenewableUnit q.unit ×
    (length q.unit.least ≡ length π.energy) in
    let here = head_of IsSized n ns h in
    let one = renewable_top n.unit π e here.0 here.1 t.0 in
    let rest = renewables_top π ns es (tail_of IsSized n ns h) t.1 in
    let sums = sum_below-add (length π.energy) (λ k. best_sold n.unit k (int_at π.energy k))
    (λ k. total (map (λ (q : NamedRenewableUnit). best_sold q.unit k (int_at π.energy k)) ns)) in
    omega (arith, ints, one, rest, sums)

-- ---- bids

bid_pick : (p : ℤ) (bs : List Block) → IsBlockList bs → neg_ℤ price_limit ≤ℤ p →
    IsLeastChoice (IsWithinBlocks bs) (bought_at bs p) (unsigned_abs (wanted p bs)) (best_bought bs p)
bid_pick p bs h low =
    let bounds = in_bounds p bs (record { each = h.blocks }) low in
    wanted_is_choice bs p (unsigned_abs (wanted p bs)) (best_bought bs p) h low (positive (wanted p bs) bounds.low)
    (sym (gain_is p bs))

-- prices that aren't below the least one
abbrev pub AreFromLeast : PriceLists → Type 0
AreFromLeast π = (k : ℕ) → k < length π.energy → neg_ℤ price_limit ≤ℤ int_at π.energy k

bid_top : (b : BidUnit) (π : PriceLists) (earned : ℤ) → IsBidUnit b → length b.blocks ≡ length π.energy →
    AreFromLeast π → IsTop (Bid b) π earned →
    sum_below (length π.energy) (λ k. best_bought (blocks_at b k) (int_at π.energy k)) ≤ℤ earned
bid_top b π earned h long low top =
    let n = length π.energy in
    let pick : ℕ → ℕ = λ k. unsigned_abs (wanted (int_at π.energy k) (blocks_at b k)) in
    let is : (k : ℕ) → k < length π.energy →
    IsLeastChoice (bid_can b k) (bid_earns b π k) (pick k) (best_bought (blocks_at b k) (int_at π.energy k)) =
    λ k lt. bid_pick (int_at π.energy k) (blocks_at b k) (h.blocks k [] (omega (arith, lt, long))) (low k lt) in
    let most = picked_earns (Bid b) π (bid_can b) (bid_earns b π) pick earned (bid_by_place b π)
    (λ k lt. (is k lt).best.allowed) top in
    let same = sum_below-same n (λ k. bid_earns b π k (pick k)) (λ k. best_bought (blocks_at b k) (int_at π.energy k))
    (λ k lt. sym (is k lt).is) in
    omega (arith, ints, most, same)

pub bids_top : (π : PriceLists) (ns : List NamedBidUnit) (tops : List ℤ) →
    All (λ (n : NamedBidUnit). IsBidUnit n.unit × (length n.unit.blocks ≡ length π.energy)) ns → AreFromLeast π →
    AllZip (λ (u : AnyUnit) (e : ℤ). IsTop u π e) (map (λ (n : NamedBidUnit). Bid n.unit) ns) tops →
    sum_below (length π.energy)
    (λ k. total (map (λ (n : NamedBidUnit). best_bought (blocks_at n.unit k) (int_at π.energy k)) ns)) ≤ℤ total tops
bids_top π [] [] h low t = let e = sum_below-zero (length π.energy) in omega (arith, ints, e)
bids_top π [] (e ∷ es) h low t = absurd t
bids_top π (n ∷ ns) [] h low t = absurd t
bids_top π (n ∷ ns) (e ∷ es) h low t =
    let IsSized : NamedBidUnit → Type 0 = λ (q : NamedBidUnit). IsBidUnit q.unit ×
    (length q.unit.blocks ≡ length π.energy) in
    let here = head_of IsSized n ns h in
    let one = bid_top n.unit π e here.0 here.1 low t.0 in
    let rest = bids_top π ns es (tail_of IsSized n ns h) low t.1 in
    let sums = sum_below-add (length π.energy) (λ k. best_bought (blocks_at n.unit k) (int_at π.energy k))
    (λ k. total (map (λ (q : NamedBidUnit). best_bought (blocks_at q.unit k) (int_at π.energy k)) ns)) in
    omega (arith, ints, one, rest, sums)
