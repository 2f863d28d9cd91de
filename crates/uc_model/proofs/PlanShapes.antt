-- Units by their numbers, and the lists of a feasible plan.
use Rattle.uc_model.proofs.Common.{◌≡◌, ℕ, suc, ◌+◌, ◌<◌, false, IsTrue, List, [], ◌∷◌, ◌++◌, map, length, drop, sym}
use Rattle.uc_model.proofs.Common.{ap, ◌∙◌, subst, arith, length-append, append_assoc, length-map, get_or_default}
use Rattle.uc_model.proofs.Common.{All-append, All-map, All, AllZip, slice_get, Some, slice_index_or, AnyUnit, Thermal}
use Rattle.uc_model.proofs.Common.{Flat, Bid, NamedThermalUnit, NamedRenewableUnit, NamedBidUnit, Schedule, Market}
use Rattle.uc_model.proofs.Common.{units, unit_count, IsFeasible, thermal_names, renewable_names, bid_names, unit_names}
use Rattle.uc_model.proofs.Common.{horizon_of, IsMarket, IsThermalUnit, IsBidUnit}
use Rattle.uc_model.specs.PlanLaws.{UnitNumbersGoByKind, FeasiblePlansHaveShape}
use Rattle.uc_model.specs.Limits.{IsRenewableUnit}
use Rattle.plain_lists.proofs.ListLaws.{item_of, map_item, front_item, back_item, length_same, all_nil, all_cons}

module _ (m : Market) where
  abbrev thermal : List AnyUnit
  thermal = map (λ (n : NamedThermalUnit). Thermal n.unit) m.thermal

  abbrev flat : List AnyUnit
  flat = map (λ (n : NamedRenewableUnit). Flat n.unit) m.flat

  abbrev bids : List AnyUnit
  bids = map (λ (n : NamedBidUnit). Bid n.unit) m.bids

  thermal_length : length thermal ≡ length m.thermal
  thermal_length = length-map m.thermal (λ (n : NamedThermalUnit). Thermal n.unit)

  producers_length : length (thermal ++ flat) ≡ length m.thermal + length m.flat
  producers_length = omega (
    arith,
    length-append thermal flat,
    thermal_length,
    length-map m.flat (λ (n : NamedRenewableUnit). Flat n.unit),
  )

  pub length-units : length (units m) ≡ unit_count m
  length-units = omega (
    arith,
    length-append (thermal ++ flat) bids,
    producers_length,
    length-map m.bids (λ (n : NamedBidUnit). Bid n.unit),
  )

pub units_numbered : UnitNumbersGoByKind
units_numbered m = record {
  count = length-units m;
  thermal = λ i n e. front_item (thermal m ++ flat m) (bids m) i (Thermal n.unit)
      (front_item (thermal m) (flat m) i (Thermal n.unit)
      (map_item (λ (x : NamedThermalUnit). Thermal x.unit) m.thermal i n e));
  flat = λ i n e. front_item (thermal m ++ flat m) (bids m) (length m.thermal + i) (Flat n.unit)
      (ap (λ (j : ℕ). slice_get (thermal m ++ flat m) (j + i)) (sym (thermal_length m)) ∙
      back_item (thermal m) (flat m) i ∙ map_item (λ (x : NamedRenewableUnit). Flat x.unit) m.flat i n e);
  bids = λ i n e. ap (λ (j : ℕ). slice_get (units m) (j + i)) (sym (producers_length m)) ∙
      back_item (thermal m ++ flat m) (bids m) i ∙ map_item (λ (x : NamedBidUnit). Bid x.unit) m.bids i n e;
}

-- ---- the unit of a number, over the periods of its case, and its name

-- what is told of a number
pub record IsAt (m : Market) (number : ℕ) (u : AnyUnit) (called : List ℕ) : Type 0 where
  pub unit : slice_get (units m) number ≡ Some u
  pub horizon : horizon_of u ≡ m.periods
  pub name : slice_get (unit_names m) number ≡ Some called

module _ (m : Market) (whole : IsMarket m) where
  abbrev producer_names : List (List ℕ)
  producer_names = thermal_names m ++ renewable_names m

  length-thermal_names : length (thermal_names m) ≡ length m.thermal
  length-thermal_names = length-map m.thermal (λ (n : NamedThermalUnit). n.name)

  length-producer_names : length producer_names ≡ length m.thermal + length m.flat
  length-producer_names = omega (
    arith,
    length-append (thermal_names m) (renewable_names m),
    length-thermal_names,
    length-map m.flat (λ (n : NamedRenewableUnit). n.name),
  )

  pub thermal_is_at : (i : ℕ) (n : NamedThermalUnit) → slice_get m.thermal i ≡ Some n →
      IsAt m i (Thermal n.unit) n.name
  thermal_is_at i n e = record {
    unit = (units_numbered m).thermal i n e;
    horizon = (item_of (λ (x : NamedThermalUnit). IsThermalUnit x.unit × (length x.unit.window ≡ m.periods))
        m.thermal i n whole.thermal e).1;
    name = front_item producer_names (bid_names m) i n.name
        (front_item (thermal_names m) (renewable_names m) i n.name
        (map_item (λ (x : NamedThermalUnit). x.name) m.thermal i n e));
  }

  pub renewable_is_at : (i number : ℕ) (n : NamedRenewableUnit) → length m.thermal + i ≡ number →
      slice_get m.flat i ≡ Some n → IsAt m number (Flat n.unit) n.name
  renewable_is_at i number n place e = subst (λ (k : ℕ). IsAt m k (Flat n.unit) n.name) place (record {
    unit = (units_numbered m).flat i n e;
    horizon = (item_of (λ (x : NamedRenewableUnit). IsRenewableUnit x.unit × (length x.unit.least ≡ m.periods))
        m.flat i n whole.flat e).1;
    name = front_item producer_names (bid_names m) (length m.thermal + i) n.name
        (ap (λ (j : ℕ). slice_get producer_names (j + i)) (sym length-thermal_names)
        ∙ back_item (thermal_names m) (renewable_names m) i
        ∙ map_item (λ (x : NamedRenewableUnit). x.name) m.flat i n e);
  })

  pub bid_is_at : (i number : ℕ) (n : NamedBidUnit) → (length m.thermal + length m.flat) + i ≡ number →
      slice_get m.bids i ≡ Some n → IsAt m number (Bid n.unit) n.name
  bid_is_at i number n place e = subst (λ (k : ℕ). IsAt m k (Bid n.unit) n.name) place (record {
    unit = (units_numbered m).bids i n e;
    horizon = (item_of (λ (x : NamedBidUnit). IsBidUnit x.unit × (length x.unit.blocks ≡ m.periods))
        m.bids i n whole.bids e).1;
    name = ap (λ (j : ℕ). slice_get (unit_names m) (j + i)) (sym length-producer_names)
        ∙ back_item producer_names (bid_names m) i
        ∙ map_item (λ (x : NamedBidUnit). x.name) m.bids i n e;
  })

-- ---- the shape of a feasible plan

abbrev HasLengths : ℕ → Schedule → Type 0
HasLengths n s = (length s.on ≡ n) × (length s.power ≡ n) × (length s.reserve ≡ n)

pub lengths_of : (u : AnyUnit) (s : Schedule) (n : ℕ) → IsFeasible u n s → HasLengths n s
lengths_of (Thermal g) s n h = (h.schedule.on, h.schedule.power, h.schedule.reserve)
lengths_of (Flat r) s n h = (h.schedule.on, h.schedule.power, h.schedule.reserve)
lengths_of (Bid b) s n h = (h.schedule.on, h.schedule.power, h.schedule.reserve)

all_lengths : (n : ℕ) (us : List AnyUnit) (ss : List Schedule) → AllZip (λ u s. IsFeasible u n s) us ss →
    All (HasLengths n) ss
all_lengths n [] [] z = all_nil (HasLengths n)
all_lengths n [] (s ∷ ss) z = absurd z
all_lengths n (u ∷ us) [] z = absurd z
all_lengths n (u ∷ us) (s ∷ ss) z = all_cons (HasLengths n) s ss (lengths_of u s n z.0) (all_lengths n us ss z.1)

abbrev IsSteady : Schedule → Type 0
IsSteady s = All IsTrue s.on × All (λ r. r ≡ 0) s.reserve

-- always on and without reserve where it is feasible
abbrev KeepsSteady : ℕ → AnyUnit → Type 0
KeepsSteady n u = (s : Schedule) → IsFeasible u n s → IsSteady s

steady : (n : ℕ) (s : Schedule) → length s.on ≡ n → length s.reserve ≡ n →
    ((k : ℕ) → k < n → IsTrue (slice_index_or s.on k false)) → ((k : ℕ) → k < n → slice_index_or s.reserve k 0 ≡ 0) →
    IsSteady s
steady n s on reserve each none = (
  λ k d lt. subst IsTrue (get_or_default s.on k false d lt) (each k (omega (arith, on, lt))),
  λ k d lt. sym (get_or_default s.reserve k 0 d lt) ∙ none k (omega (arith, reserve, lt)),
)

flat_steady : (n : ℕ) (x : NamedRenewableUnit) → KeepsSteady n (Flat x.unit)
flat_steady n x s h = steady n s h.schedule.on h.schedule.reserve h.on h.reserve

bid_steady : (n : ℕ) (x : NamedBidUnit) → KeepsSteady n (Bid x.unit)
bid_steady n x s h = steady n s h.schedule.on h.schedule.reserve h.on h.reserve

all_steady : (n : ℕ) (us : List AnyUnit) (ss : List Schedule) → All (KeepsSteady n) us →
    AllZip (λ u s. IsFeasible u n s) us ss → All IsSteady ss
all_steady n [] [] each z = all_nil IsSteady
all_steady n [] (s ∷ ss) each z = absurd z
all_steady n (u ∷ us) [] each z = absurd z
all_steady n (u ∷ us) (s ∷ ss) each z = all_cons IsSteady s ss (each 0 u (omega arith) s z.0)
    (all_steady n us ss (λ k d lt. each (suc k) d (omega (arith, lt))) z.1)

-- what holds behind the first units holds of the schedules behind as many
zip_behind : {X Y : Type 0} → (R : X → Y → Type 0) (xs us : List X) (ys : List Y) → AllZip R (xs ++ us) ys →
    AllZip R us (drop (length xs) ys)
zip_behind R [] us ys z = z
zip_behind R (x ∷ xs) us [] z = absurd z
zip_behind R (x ∷ xs) us (y ∷ ys) z = zip_behind R xs us ys z.1

pub plan_shape : FeasiblePlansHaveShape
plan_shape m plan h =
    let n = m.periods in
    let each : All (KeepsSteady n) (flat m ++ bids m) =
    All-append (KeepsSteady n) (flat m) (bids m)
    (All-map (KeepsSteady n) (λ (x : NamedRenewableUnit). Flat x.unit) m.flat
    (λ k d lt. flat_steady n (slice_index_or m.flat k d)))
    (All-map (KeepsSteady n) (λ (x : NamedBidUnit). Bid x.unit) m.bids
    (λ k d lt. bid_steady n (slice_index_or m.bids k d))) in
    let whole = subst (λ us. AllZip (λ u s. IsFeasible u n s) us plan) (append_assoc (thermal m) (flat m) (bids m))
    h.feasible in
    let behind = zip_behind (λ u s. IsFeasible u n s) (thermal m) (flat m ++ bids m) plan whole in
    let rest = all_steady n (flat m ++ bids m) (drop (length (thermal m)) plan) each behind in
    record {
      count = sym (length_same (λ u s. IsFeasible u n s) (units m) plan h.feasible) ∙ length-units m;
      lengths = all_lengths n (units m) plan h.feasible;
      always_on = subst (λ (k : ℕ). All IsSteady (drop k plan)) (thermal_length m) rest;
    }
