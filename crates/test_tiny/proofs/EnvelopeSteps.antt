-- The least line as a fold over the points.
use Rattle.test_tiny.proofs.Common.{◌≡◌, ℕ, suc, ◌+◌, ◌^◌, ◌≤◌, ℤ, pos, neg_ℤ, ◌+ℤ◌, ◌-ℤ◌, ◌≤ℤ◌, Bool, true, false}
use Rattle.test_tiny.proofs.Common.{cond, List, [], ◌∷◌, map, length, refl, sym, ap, ◌∙◌, arith, two-pow-succ, ints}
use Rattle.test_tiny.proofs.Common.{clamps, fold, int_min, slice_index_or, if◌then◌else◌, Point, line_at, least_line}
use Rattle.test_tiny.proofs.Common.{rises_after, best_price, envelope}

fold-map : (k x start : ℤ) (ps : List Point) →
    fold int_min start (map (line_at k x) ps) ≡ fold (λ a p. int_min a (line_at k x p)) start ps
fold-map k x start [] = refl
fold-map k x start (p ∷ ps) = fold-map k x (int_min start (line_at k x p)) ps

twice : (a : ℤ) → int_min a a ≡ a
twice a = omega (arith, ints, clamps)

-- the least line begins with the first point's, once more
pub least_line-fold : (ps : List Point) (x k : ℤ) (d : Point) → 1 ≤ length ps →
    fold (λ a p. int_min a (line_at k x p)) (line_at k x (slice_index_or ps 0 d)) ps ≡ least_line ps x k
least_line-fold [] x k d h = absurd (omega (arith, h))
least_line-fold (p ∷ ps) x k d h =
    ap (λ (z : ℤ). fold (λ a q. int_min a (line_at k x q)) z ps) (twice (line_at k x p)) ∙
    sym (fold-map k x (line_at k x p) ps)

-- half of a power of two
pub halves : (m n : ℕ) → suc m ≡ n → 2 ^ m + 2 ^ m ≡ 2 ^ n
halves m n h = let t = two-pow-succ m in let f = ap (λ (k : ℕ). 2 ^ k) h in omega (arith, t, f)

-- the price from which to look on stays within the interval
pub half_within : (b : Bool) (low : ℤ) (m n : ℕ) → suc m ≡ n → neg_ℤ (pos 70368744177664) ≤ℤ low →
    (low +ℤ pos (2 ^ n)) ≤ℤ pos 70368744177664 →
    (neg_ℤ (pos 70368744177664) ≤ℤ cond b (low +ℤ pos (2 ^ m)) low) ×
    ((cond b (low +ℤ pos (2 ^ m)) low +ℤ pos (2 ^ m)) ≤ℤ pos 70368744177664)
half_within true low m n e h i = let t = halves m n e in (omega (arith, ints, h), omega (arith, ints, i, t))
half_within false low m n e h i = let t = halves m n e in (omega (arith, ints, h), omega (arith, ints, i, t))

-- one halving
pub best_price-step : (m n : ℕ) (ps : List Point) (x low : ℤ) → suc m ≡ n →
    best_price m ps x (if rises_after ps x ((low +ℤ pos (2 ^ m)) -ℤ pos 1) then low +ℤ pos (2 ^ m) else low)
    ≡ best_price n ps x low
best_price-step m n ps x low e = ap (λ (k : ℕ). best_price k ps x low) e

-- the envelope is the least line at the price that is found
pub envelope-found : (ps : List Point) (x low price v : ℤ) (n : ℕ) → n ≡ 46 → low ≡ neg_ℤ (pos (2 ^ 45)) →
    price ≡ best_price n ps x low → v ≡ least_line ps x price → v ≡ envelope ps x
unfolding envelope
envelope-found ps x low price v n is_n is_low is_price is_v =
    is_v ∙ ap (least_line ps x) (is_price ∙ ap (λ (m : ℕ). best_price m ps x low) is_n ∙ ap (best_price 46 ps x) is_low)
