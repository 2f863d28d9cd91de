-- The entries that have some weight.
use Rattle.bundle_columns.proofs.Common.{◌≡◌, ℕ, suc, ◌+◌, ◌<◌, ℤ, pos, ◌+ℤ◌, ◌-ℤ◌, ◌*ℤ◌, ◌≤ℤ◌, List, [], ◌∷◌, ◌++◌}
use Rattle.bundle_columns.proofs.Common.{map, take, refl, sym, ap, ◌∙◌, subst, arith, ints}
use Rattle.bundle_columns.proofs.Common.{Some, slice_get, All, AllZip}
use Rattle.bundle_columns.proofs.Common.{head_of, tail_of, all_cons, total, AnyUnit, Thermal, ThermalUnit, Schedule}
use Rattle.bundle_columns.proofs.Common.{NamedThermalUnit, Market, PriceLists, MixtureLists, WeighedSchedule}
use Rattle.bundle_columns.proofs.Common.{AreMixed, IsMixture, AreEntries, HasMixtureShape, most_whole, AreKept, IsKept}
use Rattle.bundle_columns.proofs.Weighing.{weight_of, IsLow}
use Rattle.bundle_columns.proofs.Keeping.{AreKeptOf, take_item}
use Rattle.bundle_columns.specs.Written.{weighed_of}
use Rattle.std.proofs.Common.{unsigned_abs, int_lt, true, false, if◌then◌else◌}
use Rattle.std.specs.Int.{int_max}
use Rattle.plain_lists.proofs.IntLaws.{sum_below-same}
use Rattle.plain_lists.proofs.ListLaws.{true_or_false}
use Rattle.std.proofs.Math.IntN.{zero-*ℤ}
use Rattle.bundle_columns.proofs.Common.{inl, inr, IsThermalFeasible}
use Rattle.uc_model.specs.Earnings.{cost_of, supply_in}
use Rattle.uc_model.specs.Schedules.{reserve_in}
use Rattle.std.proofs.lemmas.Int.{by_lt_z}
use Rattle.plain_lists.specs.Sums.{floor_div, zip_with, int_at}
use Rattle.gap_proof.specs.CertifiedBound.{low_end, high_end}
use Rattle.gap_proof.specs.MixtureBound.{weighed, weighed_over, greatest, added, most_energy, most_reserve}
unfoldable use Rattle.gap_proof.specs.MixtureBound.{mixture_bound}

pub weighed_append : (xs ys : List WeighedSchedule) → weighed_of (xs ++ ys) ≡ weighed_of xs ++ weighed_of ys
weighed_append [] ys = refl
weighed_append (x ∷ xs) ys =
    elim (int_lt (pos 0) x.weight) as (λ b. (if b then (x ∷ weighed_of (xs ++ ys)) else weighed_of (xs ++ ys))
    ≡ (if b then (x ∷ weighed_of xs) else weighed_of xs) ++ weighed_of ys) [
      | true ↦ ap (λ l. x ∷ l) (weighed_append xs ys)
      | false ↦ weighed_append xs ys
    ]

pub weighed_more : (es : List WeighedSchedule) (k : ℕ) (e : WeighedSchedule) → slice_get es k ≡ Some e →
    weighed_of (take (k + 1) es) ≡ weighed_of (take k es) ++ weighed_of (e ∷ [])
weighed_more es k e at = ap weighed_of (take_item es k e at) ∙ weighed_append (take k es) (e ∷ [])

-- ---- sums over the entries that have some weight

not_above : (w : ℤ) → int_lt (pos 0) w ≡ false → w ≤ℤ pos 0
not_above w test = grind (arith, ints, by_lt_z)

nothing : (e : WeighedSchedule) (x : ℤ) → IsLow e → e.weight ≤ℤ pos 0 → e.weight *ℤ x ≡ pos 0
nothing e x low high =
    let none : e.weight ≡ pos 0 = omega (arith, ints, low, high) in
    ap (λ (w : ℤ). w *ℤ x) none ∙ zero-*ℤ x

pub same_weighed : (f : Schedule → ℤ) (es : List WeighedSchedule) → All IsLow es →
    weighed f (weighed_of es) ≡ weighed f es
same_weighed f [] h = refl
same_weighed f (e ∷ es) h =
    let rest = same_weighed f es (tail_of IsLow e es h) in
    let low = head_of IsLow e es h in
    elim (true_or_false (int_lt (pos 0) e.weight)) [
      | inl above ↦ subst (λ b. weighed f (if b then (e ∷ weighed_of es) else weighed_of es) ≡ weighed f (e ∷
          es)) (sym above)
          (ap (λ (s : ℤ). (e.weight *ℤ f e.schedule) +ℤ s) rest)
      | inr below ↦ subst (λ b. weighed f (if b then (e ∷ weighed_of es) else weighed_of es) ≡ weighed f (e ∷
          es)) (sym below)
          (let zero_is = nothing e (f e.schedule) low (not_above e.weight below) in
          omega (arith, ints, rest, zero_is))
    ]

pub same_total : (es : List WeighedSchedule) → All IsLow es → total (map weight_of (weighed_of es)) ≡ total
    (map weight_of es)
same_total [] h = refl
same_total (e ∷ es) h =
    let rest = same_total es (tail_of IsLow e es h) in
    let low = head_of IsLow e es h in
    elim (true_or_false (int_lt (pos 0) e.weight)) [
      | inl above ↦ subst (λ b. total (map weight_of (if b then (e ∷ weighed_of es) else weighed_of es))
          ≡ total (map weight_of (e ∷ es))) (sym above) (ap (λ (s : ℤ). e.weight +ℤ s) rest)
      | inr below ↦ subst (λ b. total (map weight_of (if b then (e ∷ weighed_of es) else weighed_of es))
          ≡ total (map weight_of (e ∷ es))) (sym below)
          (let high = not_above e.weight below in omega (arith, ints, rest, low, high))
    ]

-- what holds of all holds of those
pub some_of : (P : WeighedSchedule → Type 0) (es : List WeighedSchedule) → All P es → All P (weighed_of es)
some_of P [] h = h
some_of P (e ∷ es) h =
    let rest = some_of P es (tail_of P e es h) in
    elim (int_lt (pos 0) e.weight) as (λ b. All P (if b then (e ∷ weighed_of es) else weighed_of es)) [
      | true ↦ all_cons P e (weighed_of es) (head_of P e es h) rest
      | false ↦ rest
    ]

pub told_mixed : (periods places : ℕ) (g : ThermalUnit) (es : List WeighedSchedule) → AreKept periods places g es →
    AreMixed periods most_whole g (weighed_of es)
told_mixed periods places g es h = record {
  shares = record {
    from_zero = some_of IsLow es h.mixed.shares.from_zero;
    whole_is = same_total es h.mixed.shares.from_zero ∙ h.mixed.shares.whole_is;
  };
  feasible = some_of (λ (e : WeighedSchedule). IsThermalFeasible g periods e.schedule) es h.mixed.feasible;
}

-- ---- all units

zip_map : {X Y : Type 0} (R S : X → Y → Type 0) (f : Y → Y) → ((x : X) (y : Y) → R x y → S x (f y)) → (xs : List X)
    (ys : List Y) → AllZip R xs ys → AllZip S xs (map f ys)
zip_map R S f so [] [] h = tt
zip_map R S f so [] (y ∷ ys) h = absurd h
zip_map R S f so (x ∷ xs) [] h = absurd h
zip_map R S f so (x ∷ xs) (y ∷ ys) h = (so x y h.0, zip_map R S f so xs ys h.1)

abbrev pub told : MixtureLists → MixtureLists
told x = record { whole = x.whole; entries = map weighed_of x.entries }

sums_same : (f : AnyUnit → Schedule → ℤ) (periods places : ℕ) (ns : List NamedThermalUnit)
    (ess : List (List WeighedSchedule)) → AllZip (AreKeptOf periods places) ns ess →
    total (zip_with (λ (n : NamedThermalUnit) (es : List WeighedSchedule). weighed (f (Thermal n.unit)) es) ns
    (map weighed_of ess))
    ≡ total (zip_with (λ (n : NamedThermalUnit) (es : List WeighedSchedule). weighed (f (Thermal n.unit)) es) ns ess)
sums_same f periods places [] [] h = refl
sums_same f periods places [] (es ∷ ess) h = absurd h
sums_same f periods places (n ∷ ns) [] h = absurd h
sums_same f periods places (n ∷ ns) (es ∷ ess) h =
    let one = same_weighed (f (Thermal n.unit)) es h.0.mixed.shares.from_zero in
    let rest = sums_same f periods places ns ess h.1 in
    omega (arith, ints, one, rest)

pub told_same : (m : Market) (places : ℕ) (x : MixtureLists) (f : AnyUnit → Schedule → ℤ) → IsKept m places x →
    weighed_over f m (told x) ≡ weighed_over f m x
told_same m places x f h = sums_same f m.periods places m.thermal x.entries h.kept

pub told_bound : (m : Market) (places : ℕ) (x : MixtureLists) (π : PriceLists) (radius : ℤ) → IsKept m places x →
    mixture_bound m (told x) π radius ≡ mixture_bound m x π radius
unfolding mixture_bound
told_bound m places x π radius h =
    let f : MixtureLists → ℕ → ℤ = λ y k. most_energy m y π radius k +ℤ most_reserve m y π radius k in
    let same : (k : ℕ) → k < m.periods → f (told x) k ≡ f x k = λ k lt.
    let power = told_same m places x (λ u s. supply_in u s (suc k)) h in
    let reserve = told_same m places x (λ u s. reserve_in s (suc k)) h in
    λ j. greatest (unsigned_abs (high_end m π radius k -ℤ low_end m π radius k)) (λ i. added m x.whole
    ((x.whole *ℤ int_at m.demand k) -ℤ power j) k (low_end m π radius k +ℤ pos i)) +ℤ
    int_max (((x.whole *ℤ int_at m.reserves k) -ℤ reserve j) *ℤ low_end m π radius (m.periods + k))
    (((x.whole *ℤ int_at m.reserves k) -ℤ reserve j) *ℤ high_end m π radius (m.periods + k)) in
    let cost = told_same m places x cost_of h in
    let sums = sum_below-same m.periods (f (told x)) (f x) same in
    λ j. floor_div (cost j +ℤ sums j) (unsigned_abs x.whole)

pub told_mixture : (m : Market) (places : ℕ) (x : MixtureLists) → IsKept m places x → IsMixture m (told x)
told_mixture m places x h =
    let S : ℤ → NamedThermalUnit → List WeighedSchedule → Type 0 = λ w n es. AreMixed m.periods w n.unit es in
    let whole = h.whole in
    record {
      some = omega (arith, ints, whole);
      mixed = subst (λ (w : ℤ). AllZip (S w) m.thermal (map weighed_of x.entries)) (sym whole)
          (zip_map (AreKeptOf m.periods places) (S most_whole) weighed_of (λ n es k. told_mixed m.periods
          places n.unit es k)
          m.thermal x.entries h.kept);
    }

entries_told : (periods places : ℕ) (n : NamedThermalUnit) (es : List WeighedSchedule) →
    AreKept periods places n.unit es →
    AreEntries periods most_whole (weighed_of es)
entries_told periods places n es h =
    let mixed = told_mixed periods places n.unit es h in
    record {
      shares = mixed.shares;
      over = λ k d lt. let f = (mixed.feasible k d lt).schedule in
          record { on = f.on; power = f.power; reserve = f.reserve };
    }

pub told_shape : (m : Market) (places : ℕ) (x : MixtureLists) → IsKept m places x → HasMixtureShape m (told x)
told_shape m places x h =
    let S : ℤ → NamedThermalUnit → List WeighedSchedule → Type 0 = λ w n es. AreEntries m.periods w es in
    let whole = h.whole in
    record {
      whole = record { at_least = omega (arith, ints, whole); at_most = omega (arith, ints, whole) };
      entries = subst (λ (w : ℤ). AllZip (S w) m.thermal (map weighed_of x.entries)) (sym whole)
          (zip_map (AreKeptOf m.periods places) (S most_whole) weighed_of (entries_told m.periods places) m.thermal
          x.entries h.kept);
    }
