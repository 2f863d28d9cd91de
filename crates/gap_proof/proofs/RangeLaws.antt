-- The bound by a range of rows is the bound by those rows alone, each once.
use Rattle.gap_proof.proofs.Common.{◌≡◌, ℕ, zero, suc, ◌+◌, ◌-◌, ◌*◌, ◌<◌, ◌≤◌, Bool, true, false, ◌&&◌, nat_le}
use Rattle.gap_proof.proofs.Common.{if◌then◌else◌, Some, ℤ, pos, ◌+ℤ◌, ◌*ℤ◌, List, [], ◌∷◌, map, drop, replicate}
use Rattle.gap_proof.proofs.Common.{length, unsigned_abs, refl, sym, ap, ◌∙◌, arith, length-drop, nat_tests, ints}
use Rattle.gap_proof.proofs.Common.{length-map-range_with_len, length-replicate, none-some, *ℤ_comm, zero-*ℤ, int_max}
use Rattle.gap_proof.proofs.Common.{range_with_len, slice_get, PriceLists, Market, Proposal, total, floor_div}
use Rattle.gap_proof.proofs.Common.{sum_below-same, range_bound, slope_at, height_of, weighted, low_end, high_end}
use Rattle.gap_proof.proofs.Common.{most_over, certified_bound}
use Rattle.gap_proof.proofs.Bounds.{one_mul}

-- ---- bounds of equal sums

total_weighted : (ws : List ℤ) (rows : List Proposal) → length ws ≡ length rows →
    total ws ≡ weighted (λ (r : Proposal). pos 1) ws rows
total_weighted [] [] e = refl
total_weighted [] (r ∷ rows) e = absurd (omega (arith, e))
total_weighted (w ∷ ws) [] e = absurd (omega (arith, e))
total_weighted (w ∷ ws) (r ∷ rows) e =
    let one = *ℤ_comm w (pos 1) ∙ one_mul w in
    omega (arith, ints, one, total_weighted ws rows (omega (arith, e)))

same_bound : (m : Market) (ws vs : List ℤ) (rows others : List Proposal) (centre : PriceLists) (radius : ℤ) →
    length ws ≡ length rows → length vs ≡ length others →
    ((f : Proposal → ℤ) → weighted f ws rows ≡ weighted f vs others) →
    certified_bound m rows ws centre radius ≡ certified_bound m others vs centre radius
unfolding certified_bound
same_bound m ws vs rows others centre radius len lens same =
    let most : most_over m centre radius (λ j. weighted (λ (r : Proposal). slope_at m r j) ws rows) ≡ most_over m centre
    radius (λ j. weighted (λ (r : Proposal). slope_at m r j) vs others) =
    sum_below-same (2 * m.periods) _ _
    (λ j lt. ap (λ (z : ℤ). int_max (z *ℤ low_end m centre radius j) (z *ℤ high_end m centre radius j))
    (same (λ (r : Proposal). slope_at m r j))) in
    let sums : total ws ≡ total vs = total_weighted ws rows len ∙ same (λ (r : Proposal). pos 1) ∙
    sym (total_weighted vs others lens) in
    ap (λ (z : ℤ). floor_div (z +ℤ most_over m centre radius (λ j. weighted (λ (r : Proposal). slope_at m r j) ws rows))
    (unsigned_abs (total ws))) (same (height_of m))
    ∙ ap (λ (z : ℤ). floor_div (weighted (height_of m) vs others +ℤ z) (unsigned_abs (total ws))) most
    ∙ ap (λ (z : ℤ). floor_div (weighted (height_of m) vs others +ℤ most_over m centre radius
    (λ j. weighted (λ (r : Proposal). slope_at m r j) vs others)) (unsigned_abs z)) sums

-- ---- the weights of a range

abbrev pub weight_in : ℕ → ℕ → ℕ → ℤ
weight_in first last i = if nat_le first i && nat_le i last then pos 1 else pos 0

-- the weights of n rows from number b on
abbrev pub weights_from : ℕ → ℕ → ℕ → ℕ → List ℤ
weights_from b n first last = map (weight_in first last) (range_with_len b n)

le_true : (a b : ℕ) → a ≤ b → nat_le a b ≡ true
le_true a b h = grind (arith, nat_tests)

le_false : (a b : ℕ) → b < a → nat_le a b ≡ false
le_false a b h = grind (arith, nat_tests)

and_false : (b : Bool) → (b && false) ≡ false
and_false true = refl
and_false false = refl

pub inside : (first last i : ℕ) → first ≤ i → i ≤ last → weight_in first last i ≡ pos 1
inside first last i low high =
    ap (λ (b : Bool). if b && nat_le i last then pos 1 else pos 0) (le_true first i low) ∙
    ap (λ (b : Bool). if b then pos 1 else pos 0) (le_true i last high)

before : (first last i : ℕ) → i < first → weight_in first last i ≡ pos 0
before first last i low = ap (λ (b : Bool). if b && nat_le i last then pos 1 else pos 0) (le_false first i low)

behind : (first last i : ℕ) → last < i → weight_in first last i ≡ pos 0
behind first last i high =
    ap (λ (b : Bool). if nat_le first i && b then pos 1 else pos 0) (le_false i last high)
    ∙ ap (λ (b : Bool). if b then pos 1 else pos 0) (and_false (nat_le first i))

-- a row of weight 0 adds nothing
skipped : (f : Proposal → ℤ) (w : ℤ) (ws : List ℤ) (r : Proposal) (rows : List Proposal) → w ≡ pos 0 →
    weighted f (w ∷ ws) (r ∷ rows) ≡ weighted f ws rows
skipped f w ws r rows e =
    let none = ap (λ (z : ℤ). z *ℤ f r) e ∙ zero-*ℤ (f r) in
    omega (arith, ints, none)

-- all rows from the first of the range on
all_once : (b n first last : ℕ) → first ≤ b → b + n ≤ last + 1 → weights_from b n first last ≡ replicate n (pos 1)
all_once b zero first last low high = refl
all_once b (suc n) first last low high =
    ap (λ (z : ℤ). z ∷ weights_from (b + 1) n first last) (inside first last b low (omega (arith, high)))
    ∙ ap (λ (ws : List ℤ). pos 1 ∷ ws) (all_once (b + 1) n first last (omega (arith, low)) (omega (arith, high)))

back_sums : (f : Proposal → ℤ) (rows : List Proposal) (b k n first last : ℕ) → first ≡ b + k → n + k ≡ length rows →
    b + length rows ≡ last + 1 →
    weighted f (weights_from b (length rows) first last) rows ≡ weighted f (replicate n (pos 1)) (drop k rows)
back_sums f rows b zero n first last e len end =
    let count : length rows ≡ n = omega (arith, len) in
    ap (λ (ws : List ℤ). weighted f ws rows)
    (all_once b (length rows) first last (omega (arith, e)) (omega (arith, end)) ∙
    ap (λ (i : ℕ). replicate i (pos 1)) count)
back_sums f [] b (suc k) n first last e len end = absurd (omega (arith, len))
back_sums f (r ∷ rows) b (suc k) n first last e len end =
    skipped f (weight_in first last b) (weights_from (b + 1) (length rows) first last) r rows
    (before first last b (omega (arith, e)))
    ∙ back_sums f rows (b + 1) k n first last (omega (arith, e)) (omega (arith, len)) (omega (arith, end))

-- no row behind the range
none_behind : (f : Proposal → ℤ) (rows : List Proposal) (b first last : ℕ) → last < b →
    weighted f (weights_from b (length rows) first last) rows ≡ pos 0
none_behind f [] b first last h = refl
none_behind f (r ∷ rows) b first last h =
    skipped f (weight_in first last b) (weights_from (b + 1) (length rows) first last) r rows (behind first last b h)
    ∙ none_behind f rows (b + 1) first last (omega (arith, h))

pub same_item : {X : Type 0} → (x y : X) → Some x ≡ Some y → x ≡ y
same_item x y e = cc

one_sum : (f : Proposal → ℤ) (rows : List Proposal) (b k c : ℕ) (r : Proposal) → c ≡ b + k → slice_get rows k ≡ Some r →
    weighted f (weights_from b (length rows) c c) rows ≡ weighted f (pos 1 ∷ []) (r ∷ [])
one_sum f [] b k c r e at = absurd (none-some r at)
one_sum f (x ∷ rows) b zero c r e at =
    let here = ap (λ (z : ℤ). z *ℤ f x) (inside c c b (omega (arith, e)) (omega (arith, e))) in
    let is = ap (λ (y : Proposal). pos 1 *ℤ f y) (same_item x r at) in
    let rest = none_behind f rows (b + 1) c c (omega (arith, e)) in
    omega (arith, ints, here, is, rest)
one_sum f (x ∷ rows) b (suc k) c r e at =
    skipped f (weight_in c c b) (weights_from (b + 1) (length rows) c c) x rows (before c c b (omega (arith, e)))
    ∙ one_sum f rows (b + 1) k c r (omega (arith, e)) at

-- ---- the bounds

-- by the rows behind the first k, each once
pub back_bound : (m : Market) (rows : List Proposal) (centre : PriceLists) (radius : ℤ) (k n last : ℕ) →
    n + k ≡ length rows → last ≡ length rows →
    certified_bound m (drop k rows) (replicate n (pos 1)) centre radius ≡ range_bound m rows centre radius
    (record { first = k + 1; last = last })
back_bound m rows centre radius k n last len end =
    let left : length (drop k rows) ≡ n = omega (arith, length-drop k rows, len) in
    sym (same_bound m (weights_from 1 (length rows) (k + 1) last) (replicate n (pos 1)) rows (drop k rows) centre radius
    (length-map-range_with_len (weight_in (k + 1) last) 1 (length rows)) (length-replicate n (pos 1) ∙ sym left)
    (λ f. back_sums f rows 1 k n (k + 1) last (omega arith) len (omega (arith, end))))

-- the bound by the rows from each number to the last
unfoldable pub back_bounds : Market → List Proposal → PriceLists → ℤ → ℕ → ℕ → ℤ
back_bounds m rows centre radius last j = range_bound m rows centre radius (record { first = j; last = last })

pub back_is : (m : Market) (rows : List Proposal) (centre : PriceLists) (radius : ℤ) (k n last : ℕ) →
    n + k ≡ length rows → last ≡ length rows →
    certified_bound m (drop k rows) (replicate n (pos 1)) centre radius ≡ back_bounds m rows centre radius last (k + 1)
unfolding back_bounds
back_is m rows centre radius k n last len end = back_bound m rows centre radius k n last len end

-- by one row
pub one_bound : (m : Market) (rows : List Proposal) (centre : PriceLists) (radius : ℤ) (c : ℕ) (r : Proposal) → 1 ≤ c →
    slice_get rows (c - 1) ≡ Some r →
    certified_bound m (r ∷ []) (pos 1 ∷ []) centre radius ≡ range_bound m rows centre radius
    (record { first = c; last = c })
one_bound m rows centre radius c r low at =
    sym (same_bound m (weights_from 1 (length rows) c c) (pos 1 ∷ []) rows (r ∷ []) centre radius
    (length-map-range_with_len (weight_in c c) 1 (length rows)) refl
    (λ f. one_sum f rows 1 (c - 1) c r (omega (arith, low)) at))
