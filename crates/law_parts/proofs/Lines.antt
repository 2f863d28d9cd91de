-- The lines of the units of a right report are within the bounds of reading.
use Rattle.law_parts.proofs.Common.{◌≡◌, ℕ, ℤ, ◌-ℤ◌, List, [], ◌∷◌, map, length, sym, subst, arith, ints}
use Rattle.law_parts.proofs.Common.{AllByRecursion, AllZip, recursion_from_All, IsUtf8, slice_index, zip_with}
use Rattle.law_parts.proofs.Common.{GivesWithin, OutputsAreWithin, EarningsAreWithin, UnitsAreWithin, AnyUnit, Thermal}
use Rattle.law_parts.proofs.Common.{Flat, Bid, PriceLists, Schedule, Market, units, earnings, IsTop, IsMarket, IsUnit}
use Rattle.law_parts.proofs.Common.{ArePrices, IsEarned, Fits, IsFeasible, IsSchedule, IsSettled, IsFlatLine, UnitLine}
use Rattle.law_parts.proofs.Common.{IsCount, IsNumber, IsList, IsTold, IsThermalLine, IsOtherLine}
use Rattle.law_parts.proofs.Items.{weaker, of_map, both, zip_right, counts_by_place}

-- ---- responses

three_lists : (u : AnyUnit) (n : ℕ) (s : Schedule) → IsFeasible u n s → IsSchedule n s
three_lists (Thermal g) n s h = h.schedule
three_lists (Flat r) n s h = h.schedule
three_lists (Bid b) n s h = h.schedule

power_fits : (u : AnyUnit) (s : Schedule) (k : ℕ) → GivesWithin u s k → IsCount (slice_index s.power k)
power_fits (Thermal g) s k h = let most = h.most in omega (arith, ints, most)
power_fits (Flat r) s k h = let most = h.most in omega (arith, ints, most)
power_fits (Bid b) s k h = let least = h.least in omega (arith, ints, least)

reserve_fits : (u : AnyUnit) (s : Schedule) (k : ℕ) → GivesWithin u s k → IsCount (slice_index s.reserve k)
reserve_fits u s k h = let most = h.reserve in omega (arith, ints, most)

-- a response over the periods, with numbers of 32 bits
pub record IsResponse (periods : ℕ) (s : Schedule) : Type 0 where
  pub on : length s.on ≡ periods
  pub power : IsList IsCount periods s.power
  pub reserve : IsList IsCount periods s.reserve

response_fits : OutputsAreWithin → (u : AnyUnit) (n : ℕ) (s : Schedule) → IsUnit u → IsFeasible u n s → IsResponse n s
response_fits output_in u n s ok feasible =
    let lists = three_lists u n s feasible in
    let gives = output_in u s n ok feasible in
    record {
      on = lists.on;
      power = record {
        length_is = lists.power;
        items =
            counts_by_place IsCount s.power (λ k. power_fits u s k (gives k));
      };
      reserve = record {
        length_is = lists.reserve;
        items =
            counts_by_place IsCount s.reserve (λ k. reserve_fits u s k (gives k));
      };
    }

-- ---- money

earned_fits : (x : ℤ) → IsEarned x → IsNumber x
earned_fits x h =
    let low = h.at_least in
    let high = h.at_most in
    record { at_least = omega (arith, ints, low); at_most = omega (arith, ints, high) }

difference_fits : (x y : ℤ) → IsEarned x → IsEarned y → IsNumber (x -ℤ y)
difference_fits x y h i =
    let a = h.at_least in
    let b = h.at_most in
    let c = i.at_least in
    let d = i.at_most in
    record { at_least = omega (arith, ints, a, d); at_most = omega (arith, ints, b, c) }

differences_fit : (xs ys : List ℤ) → AllByRecursion IsEarned xs → AllByRecursion IsEarned ys →
    AllByRecursion IsNumber (zip_with (λ (e s : ℤ). e -ℤ s) xs ys)
differences_fit [] ys h i = tt
differences_fit (x ∷ xs) [] h i = tt
differences_fit (x ∷ xs) (y ∷ ys) h i = (difference_fits x y h.0 i.0, differences_fit xs ys h.1 i.1)

module _ (earning_in : EarningsAreWithin) (π : PriceLists) (prices : ArePrices π) where
  plan_earned : (us : List AnyUnit) (plan : List Schedule) → AllByRecursion IsUnit us →
      AllZip (λ u s. IsFeasible u (length π.energy) s) us plan →
      AllByRecursion IsEarned (zip_with (λ (u : AnyUnit) (s : Schedule). earnings u π s) us plan)
  plan_earned [] [] h i = tt
  plan_earned [] (s ∷ plan) h i = absurd i
  plan_earned (u ∷ us) [] h i = absurd i
  plan_earned (u ∷ us) (s ∷ plan) h i = (earning_in u π s h.0 prices i.0, plan_earned us plan h.1 i.1)

  top_earned : (u : AnyUnit) (e : ℤ) → IsUnit u → IsTop u π e → IsEarned e
  top_earned u e ok h = subst IsEarned h.earns (earning_in u π h.schedule ok prices h.best.feasible)

-- ---- lines

-- what the lines of all kinds of units have but the name
pub record HasBody (periods : ℕ) (l : UnitLine) : Type 0 where
  pub response : IsResponse periods l.response
  pub earned : IsNumber l.earned
  pub scheduled : IsNumber l.scheduled
  pub payment : IsNumber l.payment

module _ (unit_in : UnitsAreWithin) (output_in : OutputsAreWithin) (earning_in : EarningsAreWithin) (m : Market)
    (within : IsMarket m) (π : PriceLists) (prices : ArePrices π) (ls : List UnitLine) where
  all_units : AllByRecursion IsUnit (units m)
  all_units = recursion_from_All IsUnit (units m) (unit_in m within)

  responses_fit : AllZip (λ u (l : UnitLine). Fits u π l.response) (units m) ls →
      AllByRecursion (λ (l : UnitLine). IsResponse (length π.energy) l.response) ls
  responses_fit =
      zip_right (λ (u : AnyUnit) (l : UnitLine). Fits u π l.response) IsUnit
      (λ (l : UnitLine). IsResponse (length π.energy) l.response)
      (λ u l ok fits. response_fits output_in u (length π.energy) l.response ok fits.best.feasible) (units m) ls
      all_units

  earned_all : AllZip (λ u (l : UnitLine). IsTop u π l.earned) (units m) ls →
      AllByRecursion (λ (l : UnitLine). IsNumber l.earned) ls
  earned_all =
      zip_right (λ (u : AnyUnit) (l : UnitLine). IsTop u π l.earned) IsUnit (λ (l : UnitLine). IsNumber l.earned)
      (λ u l ok top. earned_fits l.earned (top_earned earning_in π prices u l.earned ok top)) (units m) ls all_units

  module _ (plan : List Schedule) (surplus sum : ℤ)
      (feasible : AllZip (λ u s. IsFeasible u (length π.energy) s) (units m) plan)
      (settled : IsSettled m plan π (map (λ (l : UnitLine). l.scheduled) ls) (map (λ (l : UnitLine). l.payment) ls)
      surplus sum) where
    scheduled_in : AllByRecursion IsEarned (map (λ (l : UnitLine). l.scheduled) ls)
    scheduled_in = subst (AllByRecursion IsEarned) (sym settled.scheduled_is)
        (plan_earned earning_in π prices (units m) plan all_units feasible)

    payments_in : AllByRecursion IsNumber (map (λ (l : UnitLine). l.payment) ls)
    payments_in =
        let tops = zip_right (λ (u : AnyUnit) (e : ℤ). IsTop u π e) IsUnit IsEarned (top_earned earning_in π prices)
        (units m) settled.tops all_units settled.best in
        subst (AllByRecursion IsNumber) (sym settled.payments_are)
        (differences_fit settled.tops (map (λ (l : UnitLine). l.scheduled) ls) tops scheduled_in)

    pub bodies : AllZip (λ u (l : UnitLine). Fits u π l.response) (units m) ls →
        AllZip (λ u (l : UnitLine). IsTop u π l.earned) (units m) ls → AllByRecursion (HasBody (length π.energy)) ls
    bodies fits tops =
        let scheduled = weaker (λ (l : UnitLine). IsEarned l.scheduled) (λ (l : UnitLine). IsNumber l.scheduled)
        (λ l h. earned_fits l.scheduled h) ls
        (of_map IsEarned (λ (l : UnitLine). l.scheduled) ls scheduled_in) in
        let payment = of_map IsNumber (λ (l : UnitLine). l.payment) ls payments_in in
        let owed = both (λ (l : UnitLine). IsNumber l.scheduled) (λ (l : UnitLine). IsNumber l.payment)
        (λ (l : UnitLine). IsNumber l.scheduled × IsNumber l.payment) (λ l a b. (a, b)) ls scheduled payment in
        let told = both (λ (l : UnitLine). IsResponse (length π.energy) l.response)
        (λ (l : UnitLine). IsNumber l.earned) (λ (l : UnitLine). IsResponse (length π.energy) l.response ×
        IsNumber l.earned) (λ l a b. (a, b)) ls (responses_fit fits) (earned_all tops) in
        both (λ (l : UnitLine). IsResponse (length π.energy) l.response × IsNumber l.earned)
        (λ (l : UnitLine). IsNumber l.scheduled × IsNumber l.payment) (HasBody (length π.energy))
        (λ l a b. record { response = a.0; earned = a.1; scheduled = b.0; payment = b.1 }) ls told owed

-- ---- lines of each kind

module _ (periods : ℕ) where
  told : (l : UnitLine) → HasBody periods l → IsUtf8 l.name → IsTold l
  told l h name = record { name = name; earned = h.earned; scheduled = h.scheduled; payment = h.payment }

  thermal_line : (l : UnitLine) → HasBody periods l → IsUtf8 l.name → IsThermalLine periods l
  thermal_line l h name =
      record { told = told l h name; on = h.response.on; power = h.response.power; reserve = h.response.reserve }

  pub thermal_lines : (ls : List UnitLine) → AllByRecursion (HasBody periods) ls →
      AllByRecursion (λ (l : UnitLine). IsUtf8 l.name) ls → AllByRecursion (IsThermalLine periods) ls
  thermal_lines = both (HasBody periods) (λ (l : UnitLine). IsUtf8 l.name) (IsThermalLine periods) thermal_line

  other_line : (l : UnitLine) → HasBody periods l × IsUtf8 l.name → IsFlatLine l → IsOtherLine periods l
  other_line l h flat = record { told = told l h.0 h.1; flat = flat; power = h.0.response.power }

  pub other_lines : (ls : List UnitLine) → AllByRecursion (HasBody periods) ls →
      AllByRecursion (λ (l : UnitLine). IsUtf8 l.name) ls → AllByRecursion IsFlatLine ls →
      AllByRecursion (IsOtherLine periods) ls
  other_lines ls bodies names =
      both (λ (l : UnitLine). HasBody periods l × IsUtf8 l.name) IsFlatLine (IsOtherLine periods) other_line ls
      (both (HasBody periods) (λ (l : UnitLine). IsUtf8 l.name) (λ (l : UnitLine). HasBody periods l × IsUtf8 l.name)
      (λ l a b. (a, b)) ls bodies names)
