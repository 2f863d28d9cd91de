-- Weights that move from one entry to another.
use Rattle.bundle_columns.proofs.Common.{◌≡◌, ℕ, zero, suc, ◌<◌, ℤ, pos, ◌+ℤ◌, ◌-ℤ◌, ◌≤ℤ◌, List, [], ◌∷◌, length, map}
use Rattle.bundle_columns.proofs.Common.{refl, sym, ap, ◌∙◌, subst, arith, ints, Some}
use Rattle.bundle_columns.proofs.Common.{slice_get, slice_set, All, head_of}
use Rattle.bundle_columns.proofs.Common.{tail_of, all_cons, none_some, same_item, total, IsFrom, Entry, entry_of}
use Rattle.bundle_columns.proofs.Common.{ThermalUnit, IsThermalFeasible, WeighedSchedule, AreShares, most_whole}
use Rattle.bundle_columns.proofs.Common.{AreKept, weight_at, reweighed, StaysKept}

abbrev pub weight_of : WeighedSchedule → ℤ
weight_of e = e.weight

abbrev pub IsLow : WeighedSchedule → Type 0
IsLow e = pos 0 ≤ℤ e.weight

-- ---- what the program keeps

pub weight_is : (es : List Entry) (k : ℕ) (e : Entry) → slice_get es k ≡ Some e →
    e.weight ≡ weight_at (map entry_of es) k
weight_is [] k e at = absurd (none_some e at)
weight_is (x ∷ es) zero e at = ap (λ (z : Entry). z.weight) (same_item x e at)
weight_is (x ∷ es) (suc k) e at = weight_is es k e at

pub set_is : (es : List Entry) (k : ℕ) (e : Entry) (w : ℤ) → slice_get es k ≡ Some e →
    map entry_of (slice_set es k (record { weight = w; response = e.response })) ≡ reweighed (map entry_of es) k w
set_is [] k e w at = absurd (none_some e at)
set_is (x ∷ es) zero e w at =
    ap (λ (z : Entry). record { weight = w; schedule = (entry_of z).schedule } ∷ map entry_of es) (same_item x e at)
set_is (x ∷ es) (suc k) e w at = ap (λ l. entry_of x ∷ l) (set_is es k e w at)

-- ---- one weight

pub same_count : (es : List WeighedSchedule) (k : ℕ) (w : ℤ) → length (reweighed es k w) ≡ length es
same_count [] k w = refl
same_count (e ∷ es) zero w = refl
same_count (e ∷ es) (suc k) w = ap suc (same_count es k w)

pub sum_reweighed : (es : List WeighedSchedule) (k : ℕ) (w : ℤ) → k < length es →
    total (map weight_of (reweighed es k w)) +ℤ weight_at es k ≡ total (map weight_of es) +ℤ w
sum_reweighed [] k w lt = absurd (omega (arith, lt))
sum_reweighed (e ∷ es) zero w lt = omega (arith, ints)
sum_reweighed (e ∷ es) (suc k) w lt =
    let rest = sum_reweighed es k w (omega (arith, lt)) in
    omega (arith, ints, rest)

pub low_reweighed : (es : List WeighedSchedule) (k : ℕ) (w : ℤ) → pos 0 ≤ℤ w → All IsLow es →
    All IsLow (reweighed es k w)
low_reweighed [] k w low h = h
low_reweighed (e ∷ es) zero w low h =
    all_cons IsLow (record e { weight = w }) es low (tail_of IsLow e es h)
low_reweighed (e ∷ es) (suc k) w low h =
    all_cons IsLow e (reweighed es k w) (head_of IsLow e es h) (low_reweighed es k w low (tail_of IsLow e es h))

abbrev IsFit : ℕ → ThermalUnit → WeighedSchedule → Type 0
IsFit periods g e = IsThermalFeasible g periods e.schedule

pub fit_reweighed : (periods : ℕ) (g : ThermalUnit) (es : List WeighedSchedule) (k : ℕ) (w : ℤ) →
    All (IsFit periods g) es → All (IsFit periods g) (reweighed es k w)
fit_reweighed periods g [] k w h = h
fit_reweighed periods g (e ∷ es) zero w h =
    all_cons (IsFit periods g) (record e { weight = w }) es (head_of (IsFit periods g) e es h)
    (tail_of (IsFit periods g) e es h)
fit_reweighed periods g (e ∷ es) (suc k) w h =
    all_cons (IsFit periods g) e (reweighed es k w) (head_of (IsFit periods g) e es h)
    (fit_reweighed periods g es k w (tail_of (IsFit periods g) e es h))

weights_low : (es : List WeighedSchedule) → All IsLow es → pos 0 ≤ℤ total (map weight_of es)
weights_low [] h = omega (arith, ints)
weights_low (e ∷ es) h =
    let one = head_of IsLow e es h in
    let rest = weights_low es (tail_of IsLow e es h) in
    omega (arith, ints, one, rest)

-- a weight is no more than all
pub one_weight : (es : List WeighedSchedule) (k : ℕ) → All IsLow es →
    IsFrom (pos 0) (total (map weight_of es)) (weight_at es k)
one_weight [] k h = record { at_least = omega (arith, ints); at_most = omega (arith, ints) }
one_weight (e ∷ es) zero h =
    let one = head_of IsLow e es h in
    let rest = weights_low es (tail_of IsLow e es h) in
    record { at_least = one; at_most = omega (arith, ints, rest) }
one_weight (e ∷ es) (suc k) h =
    let one = head_of IsLow e es h in
    let rest = one_weight es k (tail_of IsLow e es h) in
    let a = rest.at_least in
    let b = rest.at_most in
    record { at_least = a; at_most = omega (arith, ints, one, b) }

-- ---- so much of one weight moved to another

abbrev pub moved : List WeighedSchedule → ℕ → ℤ → List WeighedSchedule
moved es from amount = reweighed es from (weight_at es from -ℤ amount)

given_low : (es : List WeighedSchedule) (from : ℕ) (amount : ℤ) → All IsLow es →
    IsFrom (pos 0) (weight_at es from) amount → All IsLow (moved es from amount)
given_low es from amount h a =
    let most = a.at_most in
    low_reweighed es from (weight_at es from -ℤ amount) (omega (arith, ints, most)) h

-- the weights before and after
pub giver_within : (es : List WeighedSchedule) (from : ℕ) → AreShares most_whole es →
    IsFrom (pos 0) most_whole (weight_at es from)
giver_within es from h =
    let one = one_weight es from h.from_zero in
    let whole = h.whole_is in
    let least = one.at_least in
    let most = one.at_most in
    record { at_least = least; at_most = omega (arith, ints, most, whole) }

pub taker_within : (es : List WeighedSchedule) (from to : ℕ) (amount : ℤ) → from < length es → AreShares most_whole es →
    IsFrom (pos 0) (weight_at es from) amount → IsFrom (pos 0) most_whole (weight_at (moved es from amount) to)
taker_within es from to amount lt h a =
    let one = one_weight (moved es from amount) to (given_low es from amount h.from_zero a) in
    let sum = sum_reweighed es from (weight_at es from -ℤ amount) lt in
    let whole = h.whole_is in
    let low = a.at_least in
    let least = one.at_least in
    let most = one.at_most in
    record { at_least = least; at_most = omega (arith, ints, sum, whole, most, low) }

pub moved_shares : (es : List WeighedSchedule) (from to : ℕ) (amount : ℤ) → from < length es → to < length es →
    AreShares most_whole es → IsFrom (pos 0) (weight_at es from) amount →
    AreShares most_whole (reweighed (moved es from amount) to (weight_at (moved es from amount) to +ℤ amount))
moved_shares es from to amount lt less h a =
    let ms = moved es from amount in
    let count = same_count es from (weight_at es from -ℤ amount) in
    let given = sum_reweighed es from (weight_at es from -ℤ amount) lt in
    let taken = sum_reweighed ms to (weight_at ms to +ℤ amount) (omega (arith, less, count)) in
    let whole = h.whole_is in
    let least = (taker_within es from to amount lt h a).at_least in
    let some = a.at_least in
    record {
      from_zero = low_reweighed ms to (weight_at ms to +ℤ amount) (omega (arith, ints, least, some)) (given_low
          es from amount h.from_zero a);
      whole_is = omega (arith, ints, given, taken, whole);
    }

pub moved_stays : (es after : List WeighedSchedule) (from to : ℕ) (amount : ℤ) → from < length es → to < length es →
    AreShares most_whole es → IsFrom (pos 0) (weight_at es from) amount →
    after ≡ reweighed (moved es from amount) to (weight_at (moved es from amount) to +ℤ amount) → StaysKept es after
moved_stays es after from to amount lt less h a is = λ periods places g kept.
    let ms = moved es from amount in
    subst (AreKept periods places g) (sym is) (record {
      count = same_count ms to (weight_at ms to +ℤ amount) ∙ same_count es from (weight_at es from -ℤ amount) ∙
          kept.count;
      mixed = record {
        shares = moved_shares es from to amount lt less h a;
        feasible = fit_reweighed periods g ms to (weight_at ms to +ℤ amount)
            (fit_reweighed periods g es from (weight_at es from -ℤ amount) kept.mixed.feasible);
      };
    })

pub stays_on : (before between after : List WeighedSchedule) → StaysKept before between → StaysKept between after →
    StaysKept before after
stays_on before between after h i = λ periods places g kept. i periods places g (h periods places g kept)

pub stays_same : (es : List WeighedSchedule) → StaysKept es es
stays_same es = λ periods places g kept. kept
