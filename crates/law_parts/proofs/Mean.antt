-- A weighted mean of planes is nowhere below the dual, and its greatest height over a box bounds it there.
use Rattle.law_parts.proofs.Common.{◌≡◌, ℕ, zero, suc, ◌*◌, ◌/◌, ◌<◌, ◌≤◌, ℤ, pos, negsuc, neg_ℤ, ◌+ℤ◌, ◌-ℤ◌, ◌*ℤ◌}
use Rattle.law_parts.proofs.Common.{◌≤ℤ◌, ◌<ℤ◌, unsigned_abs, List, [], ◌∷◌, length, refl, sym, ap, ◌∙◌, arith, ints}
use Rattle.law_parts.proofs.Common.{clamps, All-head, All-tail, *ℤ_comm, *ℤ-zero, zero-*ℤ, pos-*ℤ-pos, *ℤ-negsuc}
use Rattle.law_parts.proofs.Common.{pred_ℤ-*ℤ, ℤ_ind, div-lt_iff_lt-mul, mul_comm, int_max, All, PriceLists}
use Rattle.law_parts.proofs.Common.{Market, IsFrom, Proposal, total, sum_below, floor_div, IsDualValue, mul-add}
use Rattle.law_parts.proofs.Common.{mul-sub, mul-mono_of, sum_below-le, sum_below-same, sum_below-add, sum_below-zero}
use Rattle.law_parts.proofs.Common.{price_at, slope_at, height_of, weighted, low_end, high_end, most_over}
use Rattle.law_parts.proofs.Common.{certified_bound, IsAnswered, AreWeights, IsInBox}
use Rattle.gap_proof.proofs.Bounds.{add-mul, one_mul}
use Rattle.std.proofs.lemmas.Nat.{le-div}
use Rattle.law_parts.proofs.Subgradients.{plane_above}

less_one_mul : (b : ℤ) → neg_ℤ (pos 1) *ℤ b ≡ neg_ℤ b
less_one_mul b = let e = pred_ℤ-*ℤ (pos 0) b in let f = zero-*ℤ b in omega (arith, ints, e, f)

neg-mul : (b c : ℤ) → neg_ℤ b *ℤ c ≡ neg_ℤ (b *ℤ c)
neg-mul b c =
    let turn : neg_ℤ b ≡ pos 0 -ℤ b = omega (arith, ints) in
    let e = *ℤ_comm (neg_ℤ b) c ∙ ap (λ (z : ℤ). c *ℤ z) turn ∙ mul-sub c (pos 0) b in
    let f = *ℤ-zero c in
    let g = *ℤ_comm b c in
    omega (arith, ints, e, f, g)

pub mul_assoc : (a b c : ℤ) → (a *ℤ b) *ℤ c ≡ a *ℤ (b *ℤ c)
mul_assoc a b c =
    ℤ_ind (λ z. (z *ℤ b) *ℤ c ≡ z *ℤ (b *ℤ c))
    (ap (λ (z : ℤ). z *ℤ c) (zero-*ℤ b) ∙ zero-*ℤ c ∙ sym (zero-*ℤ (b *ℤ c)))
    (λ n h. ap (λ (z : ℤ). z *ℤ c) (add-mul (pos n) (pos 1) b) ∙ add-mul (pos n *ℤ b) (pos 1 *ℤ b) c
    ∙ ap (λ (z : ℤ). z +ℤ ((pos 1 *ℤ b) *ℤ c)) h ∙ ap (λ (z : ℤ). (pos n *ℤ (b *ℤ c)) +ℤ (z *ℤ c)) (one_mul b)
    ∙ ap (λ (z : ℤ). (pos n *ℤ (b *ℤ c)) +ℤ z) (sym (one_mul (b *ℤ c))) ∙ sym (add-mul (pos n) (pos 1) (b *ℤ c)))
    (λ n h. ap (λ (z : ℤ). z *ℤ c) (add-mul (neg_ℤ (pos n)) (neg_ℤ (pos 1)) b) ∙
    add-mul (neg_ℤ (pos n) *ℤ b) (neg_ℤ (pos 1) *ℤ b) c
    ∙ ap (λ (z : ℤ). z +ℤ ((neg_ℤ (pos 1) *ℤ b) *ℤ c)) h
    ∙ ap (λ (z : ℤ). (neg_ℤ (pos n) *ℤ (b *ℤ c)) +ℤ (z *ℤ c)) (less_one_mul b)
    ∙ ap (λ (z : ℤ). (neg_ℤ (pos n) *ℤ (b *ℤ c)) +ℤ z) (neg-mul b c)
    ∙ ap (λ (z : ℤ). (neg_ℤ (pos n) *ℤ (b *ℤ c)) +ℤ z) (sym (less_one_mul (b *ℤ c))) ∙
    sym (add-mul (neg_ℤ (pos n)) (neg_ℤ (pos 1)) (b *ℤ c)))
    a

-- so many times a sum
pub sum_below-times : (w : ℤ) (n : ℕ) (f : ℕ → ℤ) → w *ℤ sum_below n f ≡ sum_below n (λ k. w *ℤ f k)
sum_below-times w zero f = *ℤ-zero w
sum_below-times w (suc n) f =
    let e = mul-add w (sum_below n f) (f n) in
    omega (arith, ints, e, sum_below-times w n f)

-- ---- the mean of planes

-- numbers that are at most each plane are at most the mean of the planes
mean_above : (n : ℕ) (height : Proposal → ℤ) (slope : Proposal → ℕ → ℤ) (x : ℕ → ℤ) (v : ℤ) (ws : List ℤ)
    (rows : List Proposal) → length ws ≡ length rows →
    All (λ (w : ℤ). pos 0 ≤ℤ w) ws →
    All (λ (r : Proposal). v ≤ℤ (height r +ℤ sum_below n (λ j. slope r j *ℤ x j))) rows →
    (total ws *ℤ v) ≤ℤ (weighted height ws rows +ℤ sum_below n
    (λ j. weighted (λ (r : Proposal). slope r j) ws rows *ℤ x j))
mean_above n height slope x v [] [] e low above =
    let a = zero-*ℤ v in
    let b = sum_below-same n (λ j. pos 0 *ℤ x j) (λ j. pos 0) (λ j h. zero-*ℤ (x j)) in
    omega (arith, ints, a, b, sum_below-zero n)
mean_above n height slope x v [] (r ∷ rows) e low above = absurd (omega (arith, e))
mean_above n height slope x v (w ∷ ws) [] e low above = absurd (omega (arith, e))
mean_above n height slope x v (w ∷ ws) (r ∷ rows) e low above =
    let rest = mean_above n height slope x v ws rows (omega (arith, e)) (All-tail (λ (y : ℤ). pos 0 ≤ℤ y) w ws low)
    (All-tail (λ (q : Proposal). v ≤ℤ (height q +ℤ sum_below n (λ j. slope q j *ℤ x j))) r rows above) in
    let one = All-head (λ (q : Proposal). v ≤ℤ (height q +ℤ sum_below n (λ j. slope q j *ℤ x j))) r rows above in
    let positive = All-head (λ (y : ℤ). pos 0 ≤ℤ y) w ws low in
    let times = mul-mono_of w v (height r +ℤ sum_below n (λ j. slope r j *ℤ x j)) positive one in
    let apart = mul-add w (height r) (sum_below n (λ j. slope r j *ℤ x j)) in
    let inside = sum_below-times w n (λ j. slope r j *ℤ x j) in
    let left = add-mul w (total ws) v in
    let joined =
    sum_below-same n (λ j. weighted (λ (q : Proposal). slope q j) (w ∷ ws) (r ∷ rows) *ℤ x j)
    (λ j. (w *ℤ (slope r j *ℤ x j)) +ℤ (weighted (λ (q : Proposal). slope q j) ws rows *ℤ x j))
    (λ j h. add-mul (w *ℤ slope r j) (weighted (λ (q : Proposal). slope q j) ws rows) (x j) ∙
    ap (λ (z : ℤ). z +ℤ (weighted (λ (q : Proposal). slope q j) ws rows *ℤ x j)) (mul_assoc w (slope r j) (x j))) in
    let split = sum_below-add n (λ j. w *ℤ (slope r j *ℤ x j))
    (λ j. weighted (λ (q : Proposal). slope q j) ws rows *ℤ x j) in
    omega (arith, ints, rest, times, apart, inside, left, joined, split)

-- ---- the greatest height over a box

-- a multiple of a number in an interval is at most that of one of its ends
pub at_an_end : (g a b x : ℤ) → IsFrom a b x → (g *ℤ x) ≤ℤ int_max (g *ℤ a) (g *ℤ b)
at_an_end (pos n) a b x h =
    let most = h.at_most in
    let up = mul-mono_of (pos n) x b (omega (arith, ints)) most in
    omega (arith, ints, clamps, up)
at_an_end (negsuc n) a b x h =
    let least = h.at_least in
    let up = mul-mono_of (pos (suc n)) a x (omega (arith, ints)) least in
    let p = *ℤ_comm (negsuc n) a in let q = *ℤ-negsuc a n in let r = *ℤ_comm a (pos (suc n)) in
    let s = *ℤ_comm (negsuc n) x in let t = *ℤ-negsuc x n in let u = *ℤ_comm x (pos (suc n)) in
    let down : (negsuc n *ℤ x) ≤ℤ (negsuc n *ℤ a) = omega (arith, ints, up, p, q, r, s, t, u) in
    omega (arith, ints, clamps, down)

-- ---- the quotient

-- the least whole number above is above the quotient that is rounded down
pub at_most_quotient : (v a : ℤ) (n : ℕ) → 0 < n → (pos n *ℤ v) ≤ℤ a → v ≤ℤ floor_div a n
at_most_quotient (pos v) (pos a) n low h =
    let e = pos-*ℤ-pos n v in
    let le : n * v ≤ a = omega (arith, ints, e, h) in
    let turned : v * n ≤ a = omega (arith, le, mul_comm n v) in
    omega (arith, ints, le-div v a n low turned)
at_most_quotient (negsuc v) (pos a) n low h = omega (arith, ints)
at_most_quotient (pos v) (negsuc a) n low h = let e = pos-*ℤ-pos n v in absurd (omega (arith, ints, e, h))
at_most_quotient (negsuc v) (negsuc a) n low h =
    let e = *ℤ-negsuc (pos n) v in
    let f = pos-*ℤ-pos n (suc v) in
    let le : a < n * suc v = omega (arith, ints, e, f, h) in
    let turned : a < suc v * n = omega (arith, le, mul_comm n (suc v)) in
    let q : a / n < suc v = (div-lt_iff_lt-mul {k = n} {x = a} {y = suc v} low).1 turned in
    omega (arith, ints, q)

pub positive_is : (z : ℤ) → pos 0 <ℤ z → pos (unsigned_abs z) ≡ z
positive_is (pos n) h = refl
positive_is (negsuc n) h = absurd (omega (arith, ints, h))

pub positive_low : (z : ℤ) → pos 0 <ℤ z → 0 < unsigned_abs z
positive_low (pos n) h = omega (arith, ints, h)
positive_low (negsuc n) h = absurd (omega (arith, ints, h))

-- the bound holds: no prices in the box have a dual value above it
pub bound_above : (m : Market) (rows : List Proposal) (weights : List ℤ) (centre : PriceLists) (radius : ℤ)
    (π : PriceLists) (value : ℤ) →
    All (IsAnswered m) rows → AreWeights rows weights → IsInBox m centre radius π → IsDualValue m π value →
    value ≤ℤ certified_bound m rows weights centre radius
unfolding certified_bound
bound_above m rows weights centre radius π value answered are box dual =
    let n = 2 * m.periods in
    let slopes : ℕ → ℤ = λ j. weighted (λ (r : Proposal). slope_at m r j) weights rows in
    let above : All (λ (r : Proposal).
    value ≤ℤ (height_of m r +ℤ sum_below (2 * m.periods) (λ j. slope_at m r j *ℤ price_at m π j))) rows =
    λ k d lt. plane_above m _ π value (answered k d lt) box.horizon dual in
    let mean = mean_above n (height_of m) (slope_at m) (price_at m π) value weights rows are.count are.from_zero
    above in
    let most = sum_below-le n (λ j. slopes j *ℤ price_at m π j)
    (λ j. int_max (slopes j *ℤ low_end m centre radius j) (slopes j *ℤ high_end m centre radius j))
    (λ j lt. at_an_end (slopes j) (low_end m centre radius j) (high_end m centre radius j) (price_at m π j)
    (box.inside j lt)) in
    let some = are.some in
    let sum : pos (unsigned_abs (total weights)) ≡ total weights = positive_is (total weights) some in
    at_most_quotient value (weighted (height_of m) weights rows +ℤ most_over m centre radius slopes)
    (unsigned_abs (total weights)) (positive_low (total weights) some)
    (let e = ap (λ (z : ℤ). z *ℤ value) sum in omega (arith, ints, mean, most, e))
