-- The first refusal over lists of rules and of units.
use Rattle.plan_check.proofs.Common.{◌≡◌, ℕ, zero, suc, ◌+◌, ◌<◌, ◌⊎◌, inl, inr, Some, List, [], ◌∷◌, ◌++◌, length}
use Rattle.plan_check.proofs.Common.{take, drop, get_or, refl, sym, ap, ◌∙◌, arith, append_assoc, append-nil, take_more}
use Rattle.plan_check.proofs.Common.{drop_more, take-append-drop, slice_get, flat_map, RenewableRange, BidRange}
use Rattle.plan_check.proofs.Common.{MustRun, Initial, MinUp, MinDown, Range, StartCap, StopCap, RampUp, RampDown}
use Rattle.plan_check.proofs.Common.{Window, ThermalUnit, Schedule, NamedThermalUnit, NamedRenewableUnit, NamedBidUnit}
use Rattle.plan_check.proofs.Common.{Refusal, told, renewable_broken, bid_broken, thermal_refusals, all_thermal}
use Rattle.plan_check.proofs.Common.{all_renewable, all_bids, none_some, same_item, rule_refusals}
use Rattle.std.proofs.lemmas.Grind.{flat_map-append}
use Rattle.uc_model.specs.declared.kinds.Kind.TheVariants as kinds
use Rattle.plan_check.proofs.ToldLaws.{append_nil, first_left, first_right}

-- ---- over a list of rules

module _ {X : Type 0} (f : X → List Refusal) (xs : List X) (i : ℕ) (d : X) (lt : i < length xs)
    (before : flat_map f (take i xs) ≡ []) where
  pub flat_map_on : f (get_or xs i d) ≡ [] → flat_map f (take (i + 1) xs) ≡ []
  flat_map_on here =
      let item = get_or xs i d in
      ap (flat_map f) (take_more xs i d lt) ∙ flat_map-append f (take i xs) (item ∷ [])
      ∙ append_nil (flat_map f (take i xs)) (flat_map f (item ∷ [])) before (append_nil (f item) [] here refl)

  pub flat_map_first : (r : Refusal) → slice_get (f (get_or xs i d)) 0 ≡ Some r → slice_get (flat_map f xs) 0 ≡ Some r
  flat_map_first r here =
      let item = get_or xs i d in
      let rest = drop (i + 1) xs in
      let whole : take i xs ++ (item ∷ rest) ≡ xs =
      ap (λ ys. take i xs ++ ys) (sym (drop_more xs i d lt)) ∙ take-append-drop i xs in
      ap (λ ys. slice_get (flat_map f ys) 0) (sym whole) ∙
      ap (λ ys. slice_get ys 0) (flat_map-append f (take i xs) (item ∷ rest))
      ∙ first_right (flat_map f (take i xs)) (flat_map f (item ∷ rest)) r before
      (first_left (f item) (flat_map f rest) r here)

-- the thermal rules one after another
pub thermal_rules : (periods unit : ℕ) (g : ThermalUnit) (s : Schedule) →
    thermal_refusals periods unit g s ≡ flat_map (rule_refusals periods unit g s)
    (MustRun ∷ Initial ∷ MinUp ∷ MinDown ∷ Range ∷ StartCap ∷ StopCap ∷ RampUp ∷ RampDown ∷ Window ∷ [])
thermal_rules periods unit g s = simp (append_assoc, append-nil)

-- ---- over units with their schedules

before_or_at : (j i : ℕ) → j < i + 1 → (j < i) ⊎ (j ≡ i)
before_or_at j i lt = grind arith

module _ {N : Type 0} (refusals_of : N → Schedule → ℕ → List Refusal) where
  -- what is told of the units that have a schedule, where units count from first
  abbrev pub over_units : ℕ → List N → List Schedule → List Refusal
  over_units first [] ss = []
  over_units first (n ∷ ns) [] = []
  over_units first (n ∷ ns) (s ∷ ss) = refusals_of n s first ++ over_units (suc first) ns ss

  -- the units before a place have nothing told
  abbrev pub NoneBefore : ℕ → ℕ → List N → List Schedule → Type 0
  NoneBefore first i ns ss = (j : ℕ) (n : N) (s : Schedule) → j < i → slice_get ns j ≡ Some n →
      slice_get ss j ≡ Some s → refusals_of n s (first + j) ≡ []

  here : (first : ℕ) → first ≡ first + 0
  here first = omega arith

  next : (first j : ℕ) → first + suc j ≡ suc first + j
  next first j = omega arith

  tail_none : (first i : ℕ) (n : N) (ns : List N) (s : Schedule) (ss : List Schedule) →
      NoneBefore first (suc i) (n ∷ ns) (s ∷ ss) → NoneBefore (suc first) i ns ss
  tail_none first i n ns s ss before = λ j m t lt e f. ap (refusals_of m t) (sym (next first j)) ∙
      before (suc j) m t (omega (arith, lt)) e f

  pub over_units_none : (first : ℕ) (ns : List N) (ss : List Schedule) → NoneBefore first (length ns) ns ss →
      over_units first ns ss ≡ []
  over_units_none first [] ss before = refl
  over_units_none first (n ∷ ns) [] before = refl
  over_units_none first (n ∷ ns) (s ∷ ss) before =
      append_nil (refusals_of n s first) (over_units (suc first) ns ss)
      (ap (refusals_of n s) (here first) ∙ before 0 n s (omega arith) refl refl)
      (over_units_none (suc first) ns ss (tail_none first (length ns) n ns s ss before))

  pub over_units_first : (first i : ℕ) (ns : List N) (ss : List Schedule) (n : N) (s : Schedule) (r : Refusal) →
      slice_get ns i ≡ Some n → slice_get ss i ≡ Some s → NoneBefore first i ns ss →
      slice_get (refusals_of n s (first + i)) 0 ≡ Some r → slice_get (over_units first ns ss) 0 ≡ Some r
  over_units_first first i [] ss n s r e f before told = absurd (none_some n e)
  over_units_first first i (m ∷ ns) [] n s r e f before told = absurd (none_some s f)
  over_units_first first zero (m ∷ ns) (t ∷ ss) n s r e f before told =
      first_left (refusals_of m t first) (over_units (suc first) ns ss) r
      (ap (λ x. slice_get (refusals_of m t x) 0) (here first) ∙
      ap (λ x. slice_get (refusals_of x t (first + 0)) 0) (sym (same_item m n e)) ∙
      ap (λ x. slice_get (refusals_of n x (first + 0)) 0) (sym (same_item t s f)) ∙ told)
  over_units_first first (suc i) (m ∷ ns) (t ∷ ss) n s r e f before told =
      first_right (refusals_of m t first) (over_units (suc first) ns ss) r
      (ap (refusals_of m t) (here first) ∙ before 0 m t (omega arith) refl refl)
      (over_units_first (suc first) i ns ss n s r e f (tail_none first i m ns t ss before)
      (ap (λ x. slice_get (refusals_of n s x) 0) (sym (next first i)) ∙ told))

  -- one more unit
  pub NoneBefore-more : (first i : ℕ) (ns : List N) (ss : List Schedule) (n : N) (s : Schedule) →
      slice_get ns i ≡ Some n → slice_get ss i ≡ Some s → NoneBefore first i ns ss → refusals_of n s (first + i) ≡ [] →
      NoneBefore first (i + 1) ns ss
  NoneBefore-more first i ns ss n s e f before none = λ j m t lt g h.
      elim (before_or_at j i lt) [
        | inl inner ↦ before j m t inner g h
        | inr at ↦
            let m_is : m ≡ n = same_item n m (sym e ∙ ap (slice_get ns) (sym at) ∙ g) in
            let t_is : t ≡ s = same_item s t (sym f ∙ ap (slice_get ss) (sym at) ∙ h) in
            ap (λ x. refusals_of x t (first + j)) m_is ∙ ap (λ x. refusals_of n x (first + j)) t_is ∙
            ap (λ x. refusals_of n s (first + x)) at ∙ none
      ]

pub all_thermal_is : (periods first : ℕ) (ns : List NamedThermalUnit) (ss : List Schedule) →
    all_thermal periods first ns ss ≡ over_units (λ n s unit. thermal_refusals periods unit n.unit s) first ns ss
all_thermal_is periods first [] ss = refl
all_thermal_is periods first (n ∷ ns) [] = refl
all_thermal_is periods first (n ∷ ns) (s ∷ ss) =
    ap (λ xs. thermal_refusals periods first n.unit s ++ xs) (all_thermal_is periods (suc first) ns ss)

pub all_renewable_is : (periods first : ℕ) (ns : List NamedRenewableUnit) (ss : List Schedule) →
    all_renewable periods first ns ss ≡ over_units
    (λ n s unit. told RenewableRange kinds.Renewable unit periods 1 (renewable_broken n.unit s)) first ns ss
all_renewable_is periods first [] ss = refl
all_renewable_is periods first (n ∷ ns) [] = refl
all_renewable_is periods first (n ∷ ns) (s ∷ ss) =
    ap (λ xs. told RenewableRange kinds.Renewable first periods 1 (renewable_broken n.unit s) ++ xs)
    (all_renewable_is periods (suc first) ns ss)

pub all_bids_is : (periods first : ℕ) (ns : List NamedBidUnit) (ss : List Schedule) →
    all_bids periods first ns ss ≡ over_units (λ n s unit. told BidRange kinds.Bid unit periods 1 (bid_broken n.unit s))
    first ns ss
all_bids_is periods first [] ss = refl
all_bids_is periods first (n ∷ ns) [] = refl
all_bids_is periods first (n ∷ ns) (s ∷ ss) =
    ap (λ xs. told BidRange kinds.Bid first periods 1 (bid_broken n.unit s) ++ xs)
    (all_bids_is periods (suc first) ns ss)
