-- What is refused of a plan is what keeps it from being feasible.
use Rattle.plan_check.proofs.Common.{◌≡◌, ℕ, suc, ◌+◌, ◌<◌, ◌≤◌, ℤ, ◌≤ℤ◌, false, ◌&&◌, Some, None, IsTrue, List, []}
use Rattle.plan_check.proofs.Common.{◌∷◌, ◌++◌, map, length, drop, refl, sym, ◌∙◌, subst, arith, append_assoc}
use Rattle.plan_check.proofs.Common.{length-drop, ints, drop-drop, All-drop, All, AllZip, int_le, slice_get}
use Rattle.plan_check.proofs.Common.{slice_index_or, Refusal, RenewableRange, BidRange, Balance, Reserve, AnyUnit}
use Rattle.plan_check.proofs.Common.{Thermal, Flat, Bid, NamedThermalUnit, NamedRenewableUnit, NamedBidUnit}
use Rattle.plan_check.proofs.Common.{RenewableUnit, BidUnit, Schedule, Market, units, HasPlanShape}
use Rattle.plan_check.proofs.Common.{FeasibleExactlyWithoutBrokenRule}
use Rattle.plan_check.proofs.Common.{unless, renewable_broken, bid_broken, balance_broken, reserve_broken, told}
use Rattle.plan_check.proofs.Common.{thermal_refusals, all_thermal, all_renewable, all_bids, refusals, power_in}
use Rattle.plan_check.proofs.Common.{IsFeasible, IsRenewableFeasible, IsBidFeasible, width_of, blocks_at, int_at}
use Rattle.plan_check.proofs.Common.{total_power, total_reserve, IsFeasiblePlan, head_of, tail_of}
use Rattle.std.specs.Prelude.{⊤, Result}
use Rattle.uc_model.specs.declared.kinds.Kind.TheVariants as kinds
use Rattle.plan_check.specs.Checks.{Finds}
use Rattle.plan_check.specs.declared.RuleFault.{RuleFault}
use Rattle.plan_check.proofs.RunLaws.{both_true, and_true, true_false}
use Rattle.plan_check.proofs.ThermalLaws.{IsClear-none, none_clear, IsThermalFeasible-clear, IsClear-feasible}
use Rattle.plan_check.proofs.ThermalLaws.{le_from_z, le_to_z}
use Rattle.plan_check.proofs.ToldLaws.{append_nil_left, append_nil_right, append_nil, first_left, first_right}
use Rattle.plan_check.proofs.ToldLaws.{finds_right, told_none, told_all, unless_none, unless_holds, or_else_none}
use Rattle.plan_check.proofs.ToldLaws.{or_else_holds}

-- ---- the first refusal, part by part

module _ (m : Market) (plan : List Schedule) where
  abbrev of_thermal : List Refusal
  of_thermal = all_thermal m.periods 1 m.thermal plan

  abbrev of_renewable : List Refusal
  of_renewable = all_renewable m.periods 1 m.flat (drop (length m.thermal) plan)

  abbrev of_bids : List Refusal
  of_bids = all_bids m.periods 1 m.bids (drop (length m.thermal + length m.flat) plan)

  abbrev of_balance : List Refusal
  of_balance = told Balance kinds.Case 0 m.periods 1 (balance_broken m plan)

  abbrev of_reserve : List Refusal
  of_reserve = told Reserve kinds.Case 0 m.periods 1 (reserve_broken m plan)

  abbrev of_producers : List Refusal
  of_producers = of_thermal ++ of_renewable

  abbrev of_units : List Refusal
  of_units = of_producers ++ of_bids

  -- what is first among the units is first of all
  first_unit : (r : Refusal) → slice_get of_units 0 ≡ Some r → slice_get (refusals m plan) 0 ≡ Some r
  first_unit r here = first_left (of_units ++ of_balance) of_reserve r (first_left of_units of_balance r here)

  pub first_thermal : (r : Refusal) → slice_get of_thermal 0 ≡ Some r → slice_get (refusals m plan) 0 ≡ Some r
  first_thermal r here = first_unit r (first_left of_producers of_bids r (first_left of_thermal of_renewable r here))

  pub first_renewable : (r : Refusal) → of_thermal ≡ [] → slice_get of_renewable 0 ≡ Some r →
      slice_get (refusals m plan) 0 ≡ Some r
  first_renewable r no_thermal here =
      first_unit r (first_left of_producers of_bids r (first_right of_thermal of_renewable r no_thermal here))

  pub first_bid : (r : Refusal) → of_thermal ≡ [] → of_renewable ≡ [] → slice_get of_bids 0 ≡ Some r →
      slice_get (refusals m plan) 0 ≡ Some r
  first_bid r no_thermal no_renewable here =
      first_unit r (first_right of_producers of_bids r (append_nil of_thermal of_renewable no_thermal no_renewable)
      here)

  no_unit : of_thermal ≡ [] → of_renewable ≡ [] → of_bids ≡ [] → of_units ≡ []
  no_unit no_thermal no_renewable no_bid =
      append_nil of_producers of_bids (append_nil of_thermal of_renewable no_thermal no_renewable) no_bid

  pub first_balance : (r : Refusal) → of_thermal ≡ [] → of_renewable ≡ [] → of_bids ≡ [] →
      slice_get of_balance 0 ≡ Some r → slice_get (refusals m plan) 0 ≡ Some r
  first_balance r no_thermal no_renewable no_bid here =
      first_left (of_units ++ of_balance) of_reserve r
      (first_right of_units of_balance r (no_unit no_thermal no_renewable no_bid) here)

  pub found_last : (found : Result ⊤ RuleFault) → of_thermal ≡ [] → of_renewable ≡ [] → of_bids ≡ [] → of_balance ≡ [] →
      Finds of_reserve found → Finds (refusals m plan) found
  found_last found no_thermal no_renewable no_bid balanced here =
      finds_right (of_units ++ of_balance) of_reserve found
      (append_nil of_units of_balance (no_unit no_thermal no_renewable no_bid) balanced) here

-- ---- lists of schedules

abbrev pub HasLengths : ℕ → Schedule → Type 0
HasLengths periods s = (length s.on ≡ periods) × (length s.power ≡ periods) × (length s.reserve ≡ periods)

abbrev pub IsSteady : Schedule → Type 0
IsSteady s = All IsTrue s.on × All (λ (r : ℕ). r ≡ 0) s.reserve

module _ (periods : ℕ) where
  abbrev Feasible : AnyUnit → Schedule → Type 0
  Feasible u s = IsFeasible u periods s

  abbrev thermal : List NamedThermalUnit → List AnyUnit
  thermal ns = map (λ (n : NamedThermalUnit). Thermal n.unit) ns

  -- ---- the thermal units

  thermal_feasible : (first : ℕ) (ns : List NamedThermalUnit) (ss : List Schedule) (us : List AnyUnit) →
      length ns ≤ length ss → All (HasLengths periods) ss → all_thermal periods first ns ss ≡ [] →
      AllZip Feasible us (drop (length ns) ss) → AllZip Feasible (thermal ns ++ us) ss
  thermal_feasible first [] ss us le lengths none rest = rest
  thermal_feasible first (n ∷ ns) [] us le lengths none rest = absurd (omega (arith, le))
  thermal_feasible first (n ∷ ns) (s ∷ ss) us le lengths none rest =
      let l = head_of (HasLengths periods) s ss lengths in (
        IsThermalFeasible-clear periods n.unit s l.0 l.1 l.2
            (IsClear-none periods first n.unit s
            (append_nil_left (thermal_refusals periods first n.unit s) (all_thermal periods (suc first) ns ss) none)),
        thermal_feasible (suc first) ns ss us (omega (arith, le)) (tail_of (HasLengths periods) s ss lengths)
            (append_nil_right (thermal_refusals periods first n.unit s) (all_thermal periods (suc first) ns ss) none)
            rest,
      )

  thermal_none : (first : ℕ) (ns : List NamedThermalUnit) (ss : List Schedule) (us : List AnyUnit) →
      All (HasLengths periods) ss → AllZip Feasible (thermal ns ++ us) ss →
      (all_thermal periods first ns ss ≡ []) × AllZip Feasible us (drop (length ns) ss)
  thermal_none first [] ss us lengths z = (refl, z)
  thermal_none first (n ∷ ns) [] us lengths z = absurd z
  thermal_none first (n ∷ ns) (s ∷ ss) us lengths z =
      let l = head_of (HasLengths periods) s ss lengths in
      let r = thermal_none (suc first) ns ss us (tail_of (HasLengths periods) s ss lengths) z.1 in (
        append_nil (thermal_refusals periods first n.unit s) (all_thermal periods (suc first) ns ss)
            (none_clear periods first n.unit s (IsClear-feasible periods n.unit s l.0 l.1 l.2 z.0)) r.0,
        r.1,
      )

  -- ---- the renewable units

  abbrev flat : List NamedRenewableUnit → List AnyUnit
  flat ns = map (λ (n : NamedRenewableUnit). Flat n.unit) ns

  renewable_is : (u : RenewableUnit) (s : Schedule) → HasLengths periods s → IsSteady s →
      ((k : ℕ) → k < periods → renewable_broken u s k ≡ None) → IsRenewableFeasible u periods s
  renewable_is u s l steady none =
      let on : (k : ℕ) → k < periods → IsTrue (slice_index_or s.on k false) =
      λ k lt. steady.0 k false (omega (arith, lt)) in
      record {
        schedule = record {
          on = l.0;
          power = l.1;
          reserve = l.2;
          off =
              λ k lt off. absurd (true_false (sym (on k lt) ∙ off));
        };
        on = on;
        reserve = λ k lt. steady.1 k 0 (omega (arith, lt));
        least = λ k lt.
            let parts =
            or_else_none (unless (int_le (int_at u.least k) (power_in s (suc k))) (int_at u.least k)
            (power_in s (suc k))) (unless (int_le (power_in s (suc k)) (int_at u.most k)) (power_in s (suc k))
            (int_at u.most k)) (none k lt) in
            le_from_z (int_at u.least k) (power_in s (suc k))
            (unless_none (int_le (int_at u.least k) (power_in s (suc k))) (int_at u.least k) (power_in s (suc k))
            parts.0);
        most = λ k lt.
            let parts =
            or_else_none (unless (int_le (int_at u.least k) (power_in s (suc k))) (int_at u.least k)
            (power_in s (suc k))) (unless (int_le (power_in s (suc k)) (int_at u.most k)) (power_in s (suc k))
            (int_at u.most k)) (none k lt) in
            le_from_z (power_in s (suc k)) (int_at u.most k)
            (unless_none (int_le (power_in s (suc k)) (int_at u.most k)) (power_in s (suc k)) (int_at u.most k)
            parts.1);
      }

  renewable_clear : (u : RenewableUnit) (s : Schedule) → IsRenewableFeasible u periods s → (k : ℕ) → k < periods →
      renewable_broken u s k ≡ None
  renewable_clear u s f k lt =
      or_else_holds (unless (int_le (int_at u.least k) (power_in s (suc k))) (int_at u.least k) (power_in s (suc k)))
      (unless (int_le (power_in s (suc k)) (int_at u.most k)) (power_in s (suc k)) (int_at u.most k))
      (unless_holds (int_le (int_at u.least k) (power_in s (suc k))) (int_at u.least k) (power_in s (suc k))
      (le_to_z (int_at u.least k) (power_in s (suc k)) (f.least k lt)))
      (unless_holds (int_le (power_in s (suc k)) (int_at u.most k)) (power_in s (suc k)) (int_at u.most k)
      (le_to_z (power_in s (suc k)) (int_at u.most k) (f.most k lt)))

  renewable_feasible : (first : ℕ) (ns : List NamedRenewableUnit) (ss : List Schedule) (us : List AnyUnit) →
      length ns ≤ length ss → All (HasLengths periods) ss → All IsSteady ss → all_renewable periods first ns ss ≡ [] →
      AllZip Feasible us (drop (length ns) ss) → AllZip Feasible (flat ns ++ us) ss
  renewable_feasible first [] ss us le lengths steady none rest = rest
  renewable_feasible first (n ∷ ns) [] us le lengths steady none rest = absurd (omega (arith, le))
  renewable_feasible first (n ∷ ns) (s ∷ ss) us le lengths steady none rest =
      let first_told = told RenewableRange kinds.Renewable first periods 1 (renewable_broken n.unit s) in (
        renewable_is n.unit s (head_of (HasLengths periods) s ss lengths) (head_of IsSteady s ss steady)
            (told_all RenewableRange kinds.Renewable first periods 1 (renewable_broken n.unit s)
            (append_nil_left first_told (all_renewable periods (suc first) ns ss) none)),
        renewable_feasible (suc first) ns ss us (omega (arith, le)) (tail_of (HasLengths periods) s ss lengths)
            (tail_of IsSteady s ss steady) (append_nil_right first_told (all_renewable periods (suc first) ns ss) none)
            rest,
      )

  renewable_none : (first : ℕ) (ns : List NamedRenewableUnit) (ss : List Schedule) (us : List AnyUnit) →
      AllZip Feasible (flat ns ++ us) ss → (all_renewable periods first ns ss ≡ []) ×
      AllZip Feasible us (drop (length ns) ss)
  renewable_none first [] ss us z = (refl, z)
  renewable_none first (n ∷ ns) [] us z = absurd z
  renewable_none first (n ∷ ns) (s ∷ ss) us z =
      let r = renewable_none (suc first) ns ss us z.1 in (
        append_nil (told RenewableRange kinds.Renewable first periods 1 (renewable_broken n.unit s))
            (all_renewable periods (suc first) ns ss)
            (told_none RenewableRange kinds.Renewable first periods 1 (renewable_broken n.unit s)
            (renewable_clear n.unit s z.0)) r.0,
        r.1,
      )

  -- ---- the bids

  abbrev bids : List NamedBidUnit → List AnyUnit
  bids ns = map (λ (n : NamedBidUnit). Bid n.unit) ns

  bid_is : (u : BidUnit) (s : Schedule) → HasLengths periods s → IsSteady s →
      ((k : ℕ) → k < periods → bid_broken u s k ≡ None) → IsBidFeasible u periods s
  bid_is u s l steady none =
      let on : (k : ℕ) → k < periods → IsTrue (slice_index_or s.on k false) =
      λ k lt. steady.0 k false (omega (arith, lt)) in
      record {
        schedule = record {
          on = l.0;
          power = l.1;
          reserve = l.2;
          off =
              λ k lt off. absurd (true_false (sym (on k lt) ∙ off));
        };
        on = on;
        reserve = λ k lt. steady.1 k 0 (omega (arith, lt));
        most = λ k lt. le_from_z (power_in s (suc k)) (width_of (blocks_at u k))
            (unless_none (int_le (power_in s (suc k)) (width_of (blocks_at u k))) (power_in s (suc k))
            (width_of (blocks_at u k)) (none k lt));
      }

  bid_clear : (u : BidUnit) (s : Schedule) → IsBidFeasible u periods s → (k : ℕ) → k < periods → bid_broken u s k ≡ None
  bid_clear u s f k lt = unless_holds (int_le (power_in s (suc k)) (width_of (blocks_at u k))) (power_in s (suc k))
      (width_of (blocks_at u k)) (le_to_z (power_in s (suc k)) (width_of (blocks_at u k)) (f.most k lt))

  bid_feasible : (first : ℕ) (ns : List NamedBidUnit) (ss : List Schedule) → length ns ≡ length ss →
      All (HasLengths periods) ss → All IsSteady ss → all_bids periods first ns ss ≡ [] → AllZip Feasible (bids ns) ss
  bid_feasible first [] [] le lengths steady none = tt
  bid_feasible first [] (s ∷ ss) le lengths steady none = absurd (omega (arith, le))
  bid_feasible first (n ∷ ns) [] le lengths steady none = absurd (omega (arith, le))
  bid_feasible first (n ∷ ns) (s ∷ ss) le lengths steady none =
      let first_told = told BidRange kinds.Bid first periods 1 (bid_broken n.unit s) in (
        bid_is n.unit s (head_of (HasLengths periods) s ss lengths) (head_of IsSteady s ss steady)
            (told_all BidRange kinds.Bid first periods 1 (bid_broken n.unit s)
            (append_nil_left first_told (all_bids periods (suc first) ns ss) none)),
        bid_feasible (suc first) ns ss (omega (arith, le)) (tail_of (HasLengths periods) s ss lengths)
            (tail_of IsSteady s ss steady) (append_nil_right first_told (all_bids periods (suc first) ns ss) none),
      )

  bid_none : (first : ℕ) (ns : List NamedBidUnit) (ss : List Schedule) → AllZip Feasible (bids ns) ss →
      all_bids periods first ns ss ≡ []
  bid_none first [] ss z = refl
  bid_none first (n ∷ ns) [] z = absurd z
  bid_none first (n ∷ ns) (s ∷ ss) z =
      append_nil (told BidRange kinds.Bid first periods 1 (bid_broken n.unit s)) (all_bids periods (suc first) ns ss)
      (told_none BidRange kinds.Bid first periods 1 (bid_broken n.unit s) (bid_clear n.unit s z.0))
      (bid_none (suc first) ns ss z.1)

-- ---- the plan

same_number : (a b : ℤ) → a ≤ℤ b → b ≤ℤ a → a ≡ b
same_number a b h i = omega (arith, ints, h, i)

below : (a b : ℤ) → a ≡ b → a ≤ℤ b
below a b e = omega (arith, ints, e)

module _ (m : Market) (plan : List Schedule) (shape : HasPlanShape m plan) where
  abbrev later : List Schedule
  later = drop (length m.thermal) plan

  abbrev last : List Schedule
  last = drop (length m.thermal + length m.flat) plan

  lengths : All (HasLengths m.periods) plan
  lengths = shape.lengths

  units_are : units m ≡ thermal m.periods m.thermal ++ (flat m.periods m.flat ++ bids m.periods m.bids)
  units_are = append_assoc (thermal m.periods m.thermal) (flat m.periods m.flat) (bids m.periods m.bids)

  last_is : last ≡ drop (length m.flat) later
  last_is = sym (drop-drop (length m.flat) (length m.thermal) plan)

  steady_last : All IsSteady last
  steady_last = subst (All IsSteady) (sym last_is) (All-drop IsSteady (length m.flat) later shape.always_on)

  feasible_none : refusals m plan ≡ [] → IsFeasiblePlan m plan
  feasible_none none =
      let units_left : length m.thermal ≤ length plan = omega arith in
      let flat_left : length m.flat ≤ length later = omega (arith, length-drop (length m.thermal) plan) in
      let bids_left : length m.bids ≡ length last =
      omega (arith, length-drop (length m.thermal + length m.flat) plan) in
      let e4 = append_nil_left _ _ none in
      let e3 = append_nil_left _ _ e4 in
      let e2 = append_nil_left _ _ e3 in
      let later_lengths = All-drop (HasLengths m.periods) (length m.thermal) plan lengths in
      let last_lengths = All-drop (HasLengths m.periods) (length m.thermal + length m.flat) plan lengths in
      let z3 = bid_feasible m.periods 1 m.bids last bids_left last_lengths steady_last (append_nil_right _ _ e3) in
      let z2 = renewable_feasible m.periods 1 m.flat later (bids m.periods m.bids) flat_left later_lengths
      shape.always_on (append_nil_right _ _ e2)
      (subst (AllZip (Feasible m.periods) (bids m.periods m.bids)) last_is z3) in
      let z1 = thermal_feasible m.periods 1 m.thermal plan (flat m.periods m.flat ++ bids m.periods m.bids) units_left
      lengths (append_nil_left _ _ e2) z2 in
      record {
        feasible = subst (λ us. AllZip (Feasible m.periods) us plan) (sym units_are) z1;
        balance = λ k lt.
            let test =
            unless_none (int_le (total_power (units m) plan k) (int_at m.demand k) && int_le (int_at m.demand k)
            (total_power (units m) plan k)) (total_power (units m) plan k) (int_at m.demand k)
            (told_all Balance kinds.Case 0 m.periods 1 (balance_broken m plan) (append_nil_right _ _ e4) k lt)
            in
            let both = both_true (int_le (total_power (units m) plan k) (int_at m.demand k))
            (int_le (int_at m.demand k) (total_power (units m) plan k)) test in
            same_number (total_power (units m) plan k) (int_at m.demand k)
            (le_from_z (total_power (units m) plan k) (int_at m.demand k) both.0)
            (le_from_z (int_at m.demand k) (total_power (units m) plan k) both.1);
        reserve = λ k lt. le_from_z (int_at m.reserves k) (total_reserve (units m) plan k)
            (unless_none (int_le (int_at m.reserves k) (total_reserve (units m) plan k)) (int_at m.reserves k)
            (total_reserve (units m) plan k)
            (told_all Reserve kinds.Case 0 m.periods 1 (reserve_broken m plan) (append_nil_right _ _ none) k lt));
      }

  none_feasible : IsFeasiblePlan m plan → refusals m plan ≡ []
  none_feasible f =
      let z1 = thermal_none m.periods 1 m.thermal plan (flat m.periods m.flat ++ bids m.periods m.bids) lengths
      (subst (λ us. AllZip (Feasible m.periods) us plan) units_are f.feasible) in
      let z2 = renewable_none m.periods 1 m.flat later (bids m.periods m.bids) z1.1 in
      let z3 = bid_none m.periods 1 m.bids last
      (subst (AllZip (Feasible m.periods) (bids m.periods m.bids)) (sym last_is) z2.1) in
      let e2 = append_nil _ _ z1.0 z2.0 in
      let e3 = append_nil _ _ e2 z3 in
      let e4 = append_nil _ _ e3 (told_none Balance kinds.Case 0 m.periods 1 (balance_broken m plan) (λ k lt.
      unless_holds (int_le (total_power (units m) plan k) (int_at m.demand k) && int_le (int_at m.demand k)
      (total_power (units m) plan k)) (total_power (units m) plan k) (int_at m.demand k)
      (let b = f.balance k lt in
      and_true (int_le (total_power (units m) plan k) (int_at m.demand k))
      (int_le (int_at m.demand k) (total_power (units m) plan k))
      (le_to_z (total_power (units m) plan k) (int_at m.demand k)
      (below (total_power (units m) plan k) (int_at m.demand k) b))
      (le_to_z (int_at m.demand k) (total_power (units m) plan k)
      (below (int_at m.demand k) (total_power (units m) plan k) (sym b)))))) in
      append_nil _ _ e4 (told_none Reserve kinds.Case 0 m.periods 1 (reserve_broken m plan) (λ k lt.
      unless_holds (int_le (int_at m.reserves k) (total_reserve (units m) plan k)) (int_at m.reserves k)
      (total_reserve (units m) plan k)
      (le_to_z (int_at m.reserves k) (total_reserve (units m) plan k) (f.reserve k lt))))

pub refusals_are_exact : FeasibleExactlyWithoutBrokenRule
refusals_are_exact = λ m plan shape. (feasible_none m plan shape, none_feasible m plan shape)
