-- Renewable units and bids earn place by place.
use Rattle.flat_answer.proofs.Common.{◌≡◌, ℕ, zero, suc, ℤ, pos, neg_ℤ, ◌+ℤ◌, ◌-ℤ◌, ◌*ℤ◌, Some, List, [], ◌∷◌, map}
use Rattle.flat_answer.proofs.Common.{length, slice_get, slice_index, slice_index_or, ap, ◌∙◌, arith, ints, *ℤ-zero}
use Rattle.flat_answer.proofs.Common.{Block, RenewableUnit, BidUnit, Flat, Bid, PriceLists, worth_of, blocks_at, int_at}
use Rattle.flat_answer.proofs.Common.{sum_below, mul-sub, sum_below-same, sum_below-sub, sum_below-zero, IsBetween}
use Rattle.flat_answer.proofs.Common.{sold_at, IsWithinBlocks, bought_at}
use Rattle.plain_lists.specs.Reserved.{Reserved, items_in}
use Rattle.flat_answer.proofs.Places.{IsByPlace}

abbrev pub flat_can : RenewableUnit → ℕ → ℕ → Type 0
flat_can r k = IsBetween (int_at r.least k) (int_at r.most k)

abbrev pub flat_earns : PriceLists → ℕ → ℕ → ℤ
flat_earns π k = sold_at (int_at π.energy k)

-- nothing is paid where there is no reserve
no_reserve : (price : ℤ) (r : ℕ) → r ≡ 0 → price *ℤ pos r ≡ pos 0
no_reserve price r e = ap (λ (z : ℕ). price *ℤ pos z) e ∙ *ℤ-zero price

pub flat_by_place : (r : RenewableUnit) (π : PriceLists) → IsByPlace (Flat r) π (flat_can r) (flat_earns π)
flat_by_place r π = record {
  only = λ s h. record {
    shape = h.schedule;
    on = h.on;
    reserve = h.reserve;
    allowed =
        λ k i. (h.least k i, h.most k i);
  };
  each = λ s h. record {
    schedule = h.shape;
    on = h.on;
    reserve = h.reserve;
    least = λ k i. (h.allowed k i).0;
    most =
        λ k i. (h.allowed k i).1;
  };
  sum = λ s h.
      let pay : ℕ → ℤ = λ k. (int_at π.energy k *ℤ pos (slice_index s.power k))
      +ℤ (int_at π.reserve k *ℤ pos (slice_index s.reserve k)) in
      let over = ap (λ (m : ℕ). sum_below m pay) h.shape.on in
      let same = sum_below-same (length π.energy) pay (λ k. flat_earns π k (slice_index s.power k))
      (λ k i. let e = no_reserve (int_at π.reserve k) (slice_index s.reserve k) (h.reserve k i) in
      omega (arith, ints, e)) in
      omega (arith, ints, over, same);
}

abbrev pub bid_can : BidUnit → ℕ → ℕ → Type 0
bid_can b k = IsWithinBlocks (blocks_at b k)

abbrev pub bid_earns : BidUnit → PriceLists → ℕ → ℕ → ℤ
bid_earns b π k = bought_at (blocks_at b k) (int_at π.energy k)

pub bid_by_place : (b : BidUnit) (π : PriceLists) → IsByPlace (Bid b) π (bid_can b) (bid_earns b π)
bid_by_place b π = record {
  only = λ s h. record { shape = h.schedule; on = h.on; reserve = h.reserve; allowed = h.most };
  each = λ s h. record { schedule = h.shape; on = h.on; reserve = h.reserve; most = h.allowed };
  sum = λ s h.
      let n = length π.energy in
      let pay : ℕ → ℤ = λ k. (int_at π.energy k *ℤ neg_ℤ (pos (slice_index s.power k)))
      +ℤ (int_at π.reserve k *ℤ pos (slice_index s.reserve k)) in
      let worth : ℕ → ℤ = λ k. worth_of (blocks_at b k) (pos (slice_index s.power k)) in
      let paid : ℕ → ℤ = λ k. int_at π.energy k *ℤ pos (slice_index s.power k) in
      let over = ap (λ (m : ℕ). sum_below m pay) h.shape.on in
      let wide = ap (λ (m : ℕ). sum_below m worth) h.shape.on in
      let same = sum_below-same n pay (λ k. pos 0 -ℤ paid k)
      (λ k i.
      let e = no_reserve (int_at π.reserve k) (slice_index s.reserve k) (h.reserve k i) in
      let turn : neg_ℤ (pos (slice_index s.power k)) ≡ pos 0 -ℤ pos (slice_index s.power k) = omega (arith, ints) in
      let f = ap (λ (z : ℤ). int_at π.energy k *ℤ z) turn ∙
      mul-sub (int_at π.energy k) (pos 0) (pos (slice_index s.power k)) in
      let g = *ℤ-zero (int_at π.energy k) in
      omega (arith, ints, e, f, g)) in
      let taken = sum_below-sub n (λ k. pos 0) paid in
      let none = sum_below-zero n in
      let apart = sum_below-sub n worth paid in
      omega (arith, ints, over, wide, same, taken, none, apart);
}

-- the blocks of a period, as the program keeps them
pub blocks_read : (xs : List (Reserved Block)) (k : ℕ) (x : Reserved Block) → slice_get xs k ≡ Some x →
    slice_index_or (map items_in xs) k [] ≡ x.items
blocks_read [] k x e = cc
blocks_read (y ∷ ys) zero x e = let same : y ≡ x = cc in ap items_in same
blocks_read (y ∷ ys) (suc k) x e = blocks_read ys k x e
