-- The mixtures that are kept: they are mixtures, and have the shape of one.
use Rattle.bundle_columns.proofs.Common.{◌≡◌, ℕ, zero, suc, ◌+◌, ◌<◌, ℤ, pos, ◌≤ℤ◌, List, [], ◌∷◌, ◌++◌, length}
use Rattle.bundle_columns.proofs.Common.{map, take, refl, sym, ap, ◌∙◌, subst, arith, ints}
use Rattle.bundle_columns.proofs.Common.{Some, All, AllZip, slice_get}
use Rattle.bundle_columns.proofs.Common.{head_of, tail_of, all_nil, all_cons, none_some, same_item, total-push, total}
use Rattle.bundle_columns.proofs.Common.{map_push, all_zipped_more, AnyUnit, ThermalUnit, NamedThermalUnit}
use Rattle.bundle_columns.proofs.Common.{Schedule, Market, IsFeasible, IsThermalFeasible, WeighedSchedule}
use Rattle.bundle_columns.proofs.Common.{MixtureLists, AreMixed, IsMixture, AreEntries, HasMixtureShape}
use Rattle.bundle_columns.proofs.Common.{most_whole, AreOfOne, AreKept, IsKept}
use Rattle.bundle_columns.proofs.Common.{entry_of, schedule_of}
use Rattle.gap_proof.specs.declared.mixtures.Entry.{Entry}
use Rattle.plan_check.proofs.UnitsApart.{any_thermal}

-- ---- entries of one schedule

abbrev IsLow : WeighedSchedule → Type 0
IsLow e = pos 0 ≤ℤ e.weight

abbrev weight_of : WeighedSchedule → ℤ
weight_of e = e.weight

all_push : {X : Type 0} (P : X → Type 0) (xs : List X) (x : X) → All P xs → P x → All P (xs ++ x ∷ [])
all_push P [] x h p = all_cons P x [] p (all_nil P)
all_push P (y ∷ ys) x h p = all_cons P y (ys ++ x ∷ []) (head_of P y ys h) (all_push P ys x (tail_of P y ys h) p)

pub length_more : {X : Type 0} (xs : List X) (x : X) → length (xs ++ x ∷ []) ≡ length xs + 1
length_more [] x = refl
length_more (y ∷ ys) x = let more = length_more ys x in omega (arith, more)

-- the first entry, with the whole weight
pub one_entry : (s : Schedule) (e : WeighedSchedule) → e.schedule ≡ s → e.weight ≡ most_whole → AreOfOne 1 s (e ∷ [])
one_entry s e same whole = record {
  count = refl;
  shares = record {
    from_zero = all_cons IsLow e [] (omega (arith, ints, whole)) (all_nil IsLow);
    whole_is = omega (arith, ints, whole);
  };
  same = all_cons (λ (x : WeighedSchedule). x.schedule ≡ s) e [] same (all_nil (λ (x : WeighedSchedule).
      x.schedule ≡ s));
}

-- one more without weight
pub one_more : (count : ℕ) (s : Schedule) (es : List WeighedSchedule) (e : WeighedSchedule) → AreOfOne count s es →
    e.schedule ≡ s → e.weight ≡ pos 0 → AreOfOne (count + 1) s (es ++ e ∷ [])
one_more count s es e h same none =
    let long = h.count in
    let sum = h.shares.whole_is in
    let pushed = ap total (map_push weight_of es e) ∙ total-push (map weight_of es) e.weight in
    record {
      count = length_more es e ∙ ap (λ n. n + 1) long;
      shares = record {
        from_zero = all_push IsLow es e h.shares.from_zero (omega (arith, ints, none));
        whole_is = omega (arith, ints, sum, none, pushed);
      };
      same = all_push (λ (x : WeighedSchedule). x.schedule ≡ s) es e h.same same;
    }

pub entries_pushed : (count : ℕ) (s : Schedule) (old new : List Entry) (e : Entry) →
    AreOfOne count s (map entry_of old) →
    new ≡ old ++ e ∷ [] → schedule_of e.response ≡ s → e.weight ≡ pos 0 → AreOfOne (count + 1) s (map entry_of new)
entries_pushed count s old new e h is same none =
    subst (λ (l : List WeighedSchedule). AreOfOne (count + 1) s l)
    (sym (ap (λ (l : List Entry). map entry_of l) is ∙ map_push entry_of old e))
    (one_more count s (map entry_of old) (entry_of e) h same none)

-- entries of a feasible schedule are kept
pub kept_of_one : (periods places : ℕ) (g : ThermalUnit) (s : Schedule) (es : List WeighedSchedule) →
    IsThermalFeasible g periods s → AreOfOne places s es → AreKept periods places g es
kept_of_one periods places g s es f h = record {
  count = h.count;
  mixed = record {
    shares = h.shares;
    feasible = λ k d lt. subst (λ (x : Schedule). IsThermalFeasible g periods x) (sym (h.same k d lt)) f;
  };
}

-- ---- all units

abbrev pub AreKeptOf : ℕ → ℕ → NamedThermalUnit → List WeighedSchedule → Type 0
AreKeptOf periods places n es = AreKept periods places n.unit es

pub take_item : {A : Type 0} (us : List A) (k : ℕ) (u : A) → slice_get us k ≡ Some u →
    take (k + 1) us ≡ take k us ++ u ∷ []
take_item [] k u e = absurd (none_some u e)
take_item (x ∷ us) zero u e = ap (λ z. z ∷ []) (sym (same_item x u e))
take_item (x ∷ us) (suc k) u e =
    let n : suc k + 1 ≡ suc (k + 1) = omega arith in
    ap (λ (i : ℕ). take i (x ∷ us)) n ∙ ap (λ l. x ∷ l) (take_item us k u e)

pub some_item : {X : Type 0} (xs : List X) (k : ℕ) → k < length xs → (x : X) × (slice_get xs k ≡ Some x)
some_item [] k lt = absurd (omega (arith, lt))
some_item (x ∷ xs) zero lt = (x, refl)
some_item (x ∷ xs) (suc k) lt = some_item xs k (omega (arith, lt))

pub kept_more : (periods places : ℕ) (ns : List NamedThermalUnit) (k : ℕ) (n : NamedThermalUnit)
    (ess more : List (List WeighedSchedule)) (es : List WeighedSchedule) → slice_get ns k ≡ Some n →
    AllZip (AreKeptOf periods places) (take k ns) ess → AreKept periods places n.unit es → more ≡ ess ++ es ∷ [] →
    AllZip (AreKeptOf periods places) (take (k + 1) ns) more
kept_more periods places ns k n ess more es at h kept is =
    let R = AreKeptOf periods places in
    subst (λ (l : List (List WeighedSchedule)). AllZip R (take (k + 1) ns) l) (sym is)
    (subst (λ (l : List NamedThermalUnit). AllZip R l (ess ++ es ∷ [])) (sym (take_item ns k n at))
    (all_zipped_more R (take k ns) ess n es h kept))

-- the plan's schedule of a thermal unit is feasible for it
pub feasible_at : (n : ℕ) (ts : List NamedThermalUnit) (rest : List AnyUnit) (plan : List Schedule) (k : ℕ)
    (t : NamedThermalUnit) (s : Schedule) → AllZip (λ u s. IsFeasible u n s) (map any_thermal ts ++ rest) plan →
    slice_get ts k ≡ Some t → slice_get plan k ≡ Some s → IsThermalFeasible t.unit n s
feasible_at n [] rest plan k t s h e g = absurd (none_some t e)
feasible_at n (x ∷ ts) rest [] k t s h e g = absurd h
feasible_at n (x ∷ ts) rest (y ∷ ss) zero t s h e g =
    subst (λ (z : NamedThermalUnit). IsThermalFeasible z.unit n s) (sym (same_item x t e))
    (subst (λ (z : Schedule). IsThermalFeasible x.unit n z) (sym (same_item y s g)) h.0)
feasible_at n (x ∷ ts) rest (y ∷ ss) (suc k) t s h e g = feasible_at n ts rest ss k t s h.1 e g

-- ---- what is kept is a mixture

over_of : (periods places : ℕ) (n : NamedThermalUnit) (es : List WeighedSchedule) → AreKept periods places n.unit es →
    AreEntries periods most_whole es
over_of periods places n es h = record {
  shares = h.mixed.shares;
  over = λ k d lt. let f = (h.mixed.feasible k d lt).schedule in
      record { on = f.on; power = f.power; reserve = f.reserve };
}

all_zip_by : {A B : Type 0} (R S : A → B → Type 0) → ((a : A) (b : B) → R a b → S a b) → (xs : List A) (ys : List B) →
    AllZip R xs ys → AllZip S xs ys
all_zip_by R S so [] [] h = tt
all_zip_by R S so [] (y ∷ ys) h = absurd h
all_zip_by R S so (x ∷ xs) [] h = absurd h
all_zip_by R S so (x ∷ xs) (y ∷ ys) h = (so x y h.0, all_zip_by R S so xs ys h.1)

pub kept_shape : (m : Market) (places : ℕ) (x : MixtureLists) → IsKept m places x → HasMixtureShape m x
kept_shape m places x h =
    let S : ℤ → NamedThermalUnit → List WeighedSchedule → Type 0 = λ w n es. AreEntries m.periods w es in
    let whole = h.whole in
    record {
      whole = record { at_least = omega (arith, ints, whole); at_most = omega (arith, ints, whole) };
      entries = subst (λ (w : ℤ). AllZip (S w) m.thermal x.entries) (sym whole)
          (all_zip_by (AreKeptOf m.periods places) (S most_whole) (over_of m.periods places) m.thermal
          x.entries h.kept);
    }

pub kept_mixture : (m : Market) (places : ℕ) (x : MixtureLists) → IsKept m places x → IsMixture m x
kept_mixture m places x h =
    let S : ℤ → NamedThermalUnit → List WeighedSchedule → Type 0 = λ w n es. AreMixed m.periods w n.unit es in
    let whole = h.whole in
    record {
      some = omega (arith, ints, whole);
      mixed = subst (λ (w : ℤ). AllZip (S w) m.thermal x.entries) (sym whole)
          (all_zip_by (AreKeptOf m.periods places) (S most_whole) (λ n es k. k.mixed) m.thermal x.entries h.kept);
    }
