-- Sums over lists, item by item, and how large they are.
use Rattle.gap_proof.proofs.Common.{◌≡◌, ℕ, zero, suc, ◌+◌, ◌*◌, ◌<◌, ℤ, pos, neg_ℤ, ◌+ℤ◌, ◌-ℤ◌, ◌*ℤ◌, ◌≤ℤ◌, Some}
use Rattle.gap_proof.proofs.Common.{List, [], ◌∷◌, map, take, refl, sym, ap, subst, ◌∙◌, arith, ints, *ℤ_comm}
use Rattle.gap_proof.proofs.Common.{*ℤ-zero, slice_get, slice_get-get_or, length, get_or, All, AllZip, head_of}
use Rattle.gap_proof.proofs.Common.{tail_of, mul-add, mul-mono_of}
use Rattle.gap_proof.proofs.Common.{mul-sub, IsFrom, IsWithin, total, zip_with, WeighedSchedule}
use Rattle.std.proofs.Math.IntN.{pos-*ℤ-pos}
use Rattle.gap_proof.specs.Mixtures.{AreEntries, entry_of, most_whole}
use Rattle.gap_proof.specs.declared.mixtures.Entry.{Entry}
use Rattle.gap_proof.specs.MixtureSizes.{AreUnitWeights, AreBehind}
use Rattle.plain_lists.proofs.ListLaws.{none_some, same_item, map_item}

-- ---- one item more

pub total_more : {X : Type 0} → (f : X → ℤ) (xs : List X) (i : ℕ) (x : X) → slice_get xs i ≡ Some x →
    total (map f (take (i + 1) xs)) ≡ total (map f (take i xs)) +ℤ f x
total_more f [] i x e = absurd (none_some x e)
total_more f (y ∷ ys) zero x e = let a = ap f (same_item y x e) in omega (arith, ints, a)
total_more f (y ∷ ys) (suc i) x e =
    let next : suc i + 1 ≡ suc (i + 1) = omega arith in
    let n = ap (λ (j : ℕ). total (map f (take j (y ∷ ys)))) next in
    omega (arith, ints, n, total_more f ys i x e)

pub zip_more : {X Y : Type 0} → (f : X → Y → ℤ) (xs : List X) (ys : List Y) (i : ℕ) (x : X) (y : Y) →
    slice_get xs i ≡ Some x → slice_get ys i ≡ Some y →
    total (zip_with f (take (i + 1) xs) ys) ≡ total (zip_with f (take i xs) ys) +ℤ f x y
zip_more f [] ys i x y e g = absurd (none_some x e)
zip_more f (a ∷ xs) [] i x y e g = absurd (none_some y g)
zip_more f (a ∷ xs) (b ∷ ys) zero x y e g =
    let p = ap (λ v. f v b) (same_item a x e) in
    let q = ap (f x) (same_item b y g) in
    omega (arith, ints, p, q)
zip_more f (a ∷ xs) (b ∷ ys) (suc i) x y e g =
    let next : suc i + 1 ≡ suc (i + 1) = omega arith in
    let n = ap (λ (j : ℕ). total (zip_with f (take j (a ∷ xs)) (b ∷ ys))) next in
    omega (arith, ints, n, zip_more f xs ys i x y e g)

-- an entry as a weighed schedule
pub entry_at : (xs : List Entry) (i : ℕ) (x : Entry) → i < length xs → x ≡ get_or xs i x →
    slice_get (map entry_of xs) i ≡ Some (entry_of x)
entry_at xs i x lt is = map_item entry_of xs i x (slice_get-get_or xs i x lt ∙ ap Some (sym is))

-- beside an item of the second list stands one of the first
pub pair_at : {X Y : Type 0} → (R : X → Y → Type 0) (xs : List X) (ys : List Y) (i : ℕ) (y : Y) → AllZip R xs ys →
    slice_get ys i ≡ Some y → (x : X) × (slice_get xs i ≡ Some x) × R x y
pair_at R [] [] i y z e = absurd (none_some y e)
pair_at R [] (b ∷ ys) i y z e = absurd z
pair_at R (a ∷ xs) [] i y z e = absurd z
pair_at R (a ∷ xs) (b ∷ ys) zero y z e = (a, refl, subst (R a) (sym (same_item b y e)) z.0)
pair_at R (a ∷ xs) (b ∷ ys) (suc i) y z e = pair_at R xs ys i y z.1 e

-- ---- weights

-- what is read of the entries of a unit says how large their weights are, and how long their schedules
pub weights_of : (periods : ℕ) (whole : ℤ) (es : List WeighedSchedule) → whole ≤ℤ most_whole →
    AreEntries periods whole es → AreUnitWeights es
weights_of periods whole es low h =
    let is = h.shares.whole_is in
    record { from_zero = h.shares.from_zero; whole = omega (arith, ints, is, low) }

pub behind_of : (periods : ℕ) (whole : ℤ) (es : List WeighedSchedule) (index : ℕ) → index < periods →
    AreEntries periods whole es → AreBehind index es
behind_of periods whole es index lt h = λ k d low. let long = (h.over k d low).on in omega (arith, lt, long)

abbrev pub weight_of : WeighedSchedule → ℤ
weight_of e = e.weight

abbrev pub IsLow : WeighedSchedule → Type 0
IsLow e = pos 0 ≤ℤ e.weight

weights_low : (es : List WeighedSchedule) → All IsLow es → pos 0 ≤ℤ total (map weight_of es)
weights_low [] h = omega (arith, ints)
weights_low (e ∷ es) h =
    let one = head_of IsLow e es h in
    let rest = weights_low es (tail_of IsLow e es h) in
    omega (arith, ints, one, rest)

-- the first weights sum to no more than all
pub first_weights : (i : ℕ) (es : List WeighedSchedule) → All IsLow es →
    IsFrom (pos 0) (total (map weight_of es)) (total (map weight_of (take i es)))
first_weights zero es h = let a = weights_low es h in
    record { at_least = omega (arith, ints); at_most = omega (arith, ints, a) }
first_weights (suc i) [] h = record { at_least = omega (arith, ints); at_most = omega (arith, ints) }
first_weights (suc i) (e ∷ es) h =
    let one = head_of IsLow e es h in
    let rest = first_weights i es (tail_of IsLow e es h) in
    let a = rest.at_least in
    let b = rest.at_most in
    record { at_least = omega (arith, ints, one, a); at_most = omega (arith, ints, b) }

-- a weight is no more than all
pub one_weight : (i : ℕ) (es : List WeighedSchedule) (e : WeighedSchedule) → All IsLow es → slice_get es i ≡ Some e →
    IsFrom (pos 0) (total (map weight_of es)) e.weight
one_weight i [] e h at = absurd (none_some e at)
one_weight zero (q ∷ es) e h at =
    let same = ap weight_of (same_item q e at) in
    let one = head_of IsLow q es h in
    let rest = weights_low es (tail_of IsLow q es h) in
    record { at_least = omega (arith, ints, same, one); at_most = omega (arith, ints, same, rest) }
one_weight (suc i) (q ∷ es) e h at =
    let one = head_of IsLow q es h in
    let rest = one_weight i es e (tail_of IsLow q es h) at in
    let a = rest.at_least in
    let b = rest.at_most in
    record { at_least = a; at_most = omega (arith, ints, one, b) }

-- ---- products

-- so many times a number that isn't negative
pub times_power : (w p : ℤ) (most : ℕ) → pos 0 ≤ℤ w → IsFrom (pos 0) (pos most) p →
    IsFrom (pos 0) (pos most *ℤ w) (w *ℤ p)
times_power w p most low h =
    let a = mul-mono_of w (pos 0) p low h.at_least in
    let b = mul-mono_of w p (pos most) low h.at_most in
    let c = *ℤ-zero w in
    let d = *ℤ_comm w (pos most) in
    record { at_least = omega (arith, ints, a, c); at_most = omega (arith, ints, b, d) }

w_neg : (w : ℤ) (most : ℕ) → w *ℤ neg_ℤ (pos most) ≡ pos 0 -ℤ (w *ℤ pos most)
w_neg w most =
    let turn : neg_ℤ (pos most) ≡ pos 0 -ℤ pos most = omega (arith, ints) in
    let e = ap (λ (z : ℤ). w *ℤ z) turn ∙ mul-sub w (pos 0) (pos most) in
    let none = *ℤ-zero w in
    omega (arith, ints, e, none)

-- and one of any sign
pub times_cost : (w p : ℤ) (most : ℕ) → pos 0 ≤ℤ w → IsWithin most p →
    IsFrom (pos 0 -ℤ (pos most *ℤ w)) (pos most *ℤ w) (w *ℤ p)
times_cost w p most low h =
    let a = mul-mono_of w (neg_ℤ (pos most)) p low h.at_least in
    let b = mul-mono_of w p (pos most) low h.at_most in
    let c = *ℤ_comm w (pos most) in
    let d = w_neg w most in
    record { at_least = omega (arith, ints, a, c, d); at_most = omega (arith, ints, b, c) }

-- a share of the greatest whole, so many times
pub most_of_whole : (most : ℕ) (w : ℤ) → IsFrom (pos 0) (pos 1000000000000) w →
    IsFrom (pos 0) (pos (most * 1000000000000)) (pos most *ℤ w)
most_of_whole most w h =
    let a = mul-mono_of (pos most) (pos 0) w (omega (arith, ints)) h.at_least in
    let b = mul-mono_of (pos most) w (pos 1000000000000) (omega (arith, ints)) h.at_most in
    let c = *ℤ-zero (pos most) in
    let d = pos-*ℤ-pos most 1000000000000 in
    record { at_least = omega (arith, ints, a, c); at_most = omega (arith, ints, b, d) }

-- a share of the weights, so many times
pub share_limit : (most i : ℕ) (es : List WeighedSchedule) → AreUnitWeights es →
    IsFrom (pos 0) (pos (most * 1000000000000)) (pos most *ℤ total (map weight_of (take i es)))
share_limit most i es h =
    let first = first_weights i es h.from_zero in
    let a = first.at_least in
    let b = first.at_most in
    let whole = h.whole in
    most_of_whole most (total (map weight_of (take i es)))
    (record { at_least = a; at_most = omega (arith, ints, b, whole) })

-- ---- what entries cost

-- the first entries cost no more than their weights say, in magnitude
abbrev pub IsShare : ℕ → ℕ → List WeighedSchedule → ℤ → Type 0
IsShare most i es sum = IsFrom (pos 0 -ℤ (pos most *ℤ total (map weight_of (take i es))))
    (pos most *ℤ total (map weight_of (take i es))) sum

pub share_more : (most i : ℕ) (es : List WeighedSchedule) (e : WeighedSchedule) (sum p : ℤ) → AreUnitWeights es →
    slice_get es i ≡ Some e → IsWithin most p → IsShare most i es sum → IsShare most (i + 1) es (sum +ℤ (e.weight *ℤ p))
share_more most i es e sum p h at size so_far =
    let one = one_weight i es e h.from_zero at in
    let step = times_cost e.weight p most one.at_least size in
    let weights = total_more weight_of es i e at in
    let scaled = ap (λ (z : ℤ). pos most *ℤ z) weights in
    let apart = mul-add (pos most) (total (map weight_of (take i es))) e.weight in
    let a = so_far.at_least in
    let b = so_far.at_most in
    let c = step.at_least in
    let d = step.at_most in
    record { at_least = omega (arith, ints, a, c, scaled, apart); at_most = omega (arith, ints, b, d, scaled, apart) }

pub share_within : (most i : ℕ) (es : List WeighedSchedule) (sum : ℤ) → AreUnitWeights es → IsShare most i es sum →
    IsWithin (most * 1000000000000) sum
share_within most i es sum h so_far =
    let share = share_limit most i es h in
    let a = so_far.at_least in
    let b = so_far.at_most in
    let c = share.at_most in
    record { at_least = omega (arith, ints, a, c); at_most = omega (arith, ints, b, c) }
