-- A plan has one settlement at given prices; what it adds up to, and the lists that it has.
use Rattle.price_settle.proofs.Common.{◌≡◌, ℕ, ℤ, pos, ◌-ℤ◌, List, [], ◌∷◌, length, map, refl, sym, ap, ◌∙◌, subst}
use Rattle.price_settle.proofs.Common.{arith, ints, AllZip, range_with_len, get_or-map-range_with_len, length_same}
use Rattle.price_settle.proofs.Common.{length-zip_with, total, zip_with, AnyUnit, PriceLists, Schedule, Market, units}
use Rattle.price_settle.proofs.Common.{unit_count, IsTop, earnings, HasPlanShape, OneLeast, PaymentsMakeUpTheGap}
use Rattle.price_settle.proofs.Common.{PaymentsAreAtLeastZero, UnitNumbersGoByKind, FeasiblePlansHaveShape, IsFeasible}
use Rattle.price_settle.proofs.Common.{worth_of_demand, IsDualValue, total_power, total_reserve}
use Rattle.price_settle.proofs.Common.{PlanHasAtMostOneSettlement}
use Rattle.price_settle.proofs.Common.{SettlementsAddUp, SettlementsHaveEachUnit}
use Rattle.uc_model.specs.Runs.{Fits}

-- ---- one settlement

-- items of which each left item has one make one list
zip_same : {A B : Type 0} (R : A → B → Type 0) → ((a : A) (x y : B) → R a x → R a y → x ≡ y) →
    (us : List A) (xs ys : List B) → AllZip R us xs → AllZip R us ys → xs ≡ ys
zip_same R one [] [] [] h i = refl
zip_same R one [] [] (y ∷ ys) h i = absurd i
zip_same R one [] (x ∷ xs) ys h i = absurd h
zip_same R one (u ∷ us) [] ys h i = absurd h
zip_same R one (u ∷ us) (x ∷ xs) [] h i = absurd i
zip_same R one (u ∷ us) (x ∷ xs) (y ∷ ys) h i =
    ap (λ z. z ∷ xs) (one u x y h.0 i.0) ∙ ap (λ zs. y ∷ zs) (zip_same R one us xs ys h.1 i.1)

-- the best schedules of a unit all earn the same
one_top : (π : PriceLists) (u : AnyUnit) (a b : ℤ) → IsTop u π a → IsTop u π b → a ≡ b
one_top π u a b h i =
    let p = h.best.greatest i.schedule i.best.feasible in
    let q = i.best.greatest h.schedule h.best.feasible in
    let r = h.earns in
    let s = i.earns in
    omega (arith, ints, p, q, r, s)

tops_same : (π : PriceLists) (us : List AnyUnit) (xs ys : List ℤ) → AllZip (λ u e. IsTop u π e) us xs →
    AllZip (λ u e. IsTop u π e) us ys → xs ≡ ys
tops_same π = zip_same (λ u e. IsTop u π e) (one_top π)

dual_same : (m : Market) (π : PriceLists) (a b : ℤ) → IsDualValue m π a → IsDualValue m π b → a ≡ b
dual_same m π a b h i = h.is ∙ ap (λ (es : List ℤ). worth_of_demand m π -ℤ total es)
    (tops_same π (units m) h.tops i.tops h.best i.best) ∙ sym i.is

pub one_settlement : OneLeast → PlanHasAtMostOneSettlement
one_settlement one_least m plan π s other h i =
    let prices : s.row.prices ≡ other.row.prices = h.prices ∙ sym i.prices in
    let value = dual_same m π s.row.value other.row.value h.value i.value in
    let responses = zip_same (λ u r. Fits u π r) (λ u. one_least u π) (units m) s.responses other.responses h.answers
    i.answers in
    let supply : s.row.supply ≡ other.row.supply = h.totals.supply ∙
    ap (λ (rs : List Schedule). map (total_power (units m) rs) (range_with_len 0 m.periods)) responses ∙
    sym i.totals.supply in
    let reserve : s.row.reserve ≡ other.row.reserve =
    h.totals.reserve ∙ ap (λ (rs : List Schedule). map (total_reserve (units m) rs)
    (range_with_len 0 m.periods)) responses ∙ sym i.totals.reserve in
    let earned : s.earned ≡ other.earned = h.earnings_are ∙
    ap (λ (rs : List Schedule). zip_with (λ u r. earnings u π r) (units m) rs) responses ∙ sym i.earnings_are in
    let tops = tops_same π (units m) h.settled.tops i.settled.tops h.settled.best i.settled.best in
    let scheduled : s.scheduled ≡ other.scheduled = h.settled.scheduled_is ∙ sym i.settled.scheduled_is in
    let payments : s.payments ≡ other.payments = h.settled.payments_are ∙
    (λ j. zip_with (λ e x. e -ℤ x) (tops j) (scheduled j)) ∙ sym i.settled.payments_are in
    let surplus : s.surplus ≡ other.surplus = h.settled.surplus_is ∙ sym i.settled.surplus_is in
    let sum : s.sum ≡ other.sum = h.settled.sum_is ∙ ap total payments ∙ sym i.settled.sum_is in
    λ j. record {
      row = record { prices = prices j; value = value j; supply = supply j; reserve = reserve j };
      responses = responses j;
      earned = earned j;
      scheduled = scheduled j;
      payments = payments j;
      surplus = surplus j;
      sum = sum j;
    }

-- ---- what it adds up to

pub adds_up : PaymentsMakeUpTheGap → PaymentsAreAtLeastZero → SettlementsAddUp
adds_up make_up paid_back m plan π s feasible from_0 h =
    let none = paid_back m plan π s.scheduled s.payments s.surplus s.sum feasible from_0 h.settled in
    record {
      payments = none.0;
      surplus = none.1;
      sum = none.2;
      gap = make_up m plan π s.row.value s.scheduled s.payments s.surplus s.sum feasible h.value h.settled;
    }

-- ---- its lists

-- the same units, where they give what is asked for
abbrev met : Market → List Schedule → Market
met m plan = record m {
  demand = map (total_power (units m) plan) (range_with_len 0 m.periods);
  reserves = map (total_reserve (units m) plan) (range_with_len 0 m.periods);
}

-- feasible schedules of all units have the shape of a plan, whatever they give
pub shape_of : FeasiblePlansHaveShape → (m : Market) (plan : List Schedule) →
    AllZip (λ u s. IsFeasible u m.periods s) (units m) plan → HasPlanShape m plan
shape_of law m plan each =
    let shape = law (met m plan) plan (record {
      feasible = each;
      balance =
          λ k lt. sym (get_or-map-range_with_len (total_power (units m) plan) 0 m.periods k k (pos 0) lt (omega arith));
      reserve =
          λ k lt.
          let e = get_or-map-range_with_len (total_reserve (units m) plan) 0 m.periods k k (pos 0) lt
          (omega arith) in
          omega (arith, ints, e);
    }) in
    record { count = shape.count; lengths = shape.lengths; always_on = shape.always_on }

-- what fits prices is feasible
pub all_feasible : (π : PriceLists) (n : ℕ) (us : List AnyUnit) (rs : List Schedule) → length π.energy ≡ n →
    AllZip (λ u r. Fits u π r) us rs → AllZip (λ u s. IsFeasible u n s) us rs
all_feasible π n [] [] horizon z = tt
all_feasible π n [] (r ∷ rs) horizon z = absurd z
all_feasible π n (u ∷ us) [] horizon z = absurd z
all_feasible π n (u ∷ us) (r ∷ rs) horizon z =
    (subst (λ (p : ℕ). IsFeasible u p r) horizon z.0.best.feasible, all_feasible π n us rs horizon z.1)

pub have_each : UnitNumbersGoByKind → FeasiblePlansHaveShape → SettlementsHaveEachUnit
have_each numbered shapes m plan π s feasible horizon h =
    let count = (numbered m).count in
    let planned = length_same (λ u t. IsFeasible u m.periods t) (units m) plan feasible.feasible in
    let answered = length_same (λ u t. Fits u π t) (units m) s.responses h.answers in
    let topped = length_same (λ u e. IsTop u π e) (units m) h.settled.tops h.settled.best in
    let scheduled : length s.scheduled ≡ unit_count m =
    ap length h.settled.scheduled_is ∙ length-zip_with (λ u t. earnings u π t) (units m) plan planned ∙ count in
    let payments : length s.payments ≡ unit_count m = ap length h.settled.payments_are ∙
    length-zip_with (λ e x. e -ℤ x) h.settled.tops s.scheduled (sym topped ∙ count ∙ sym scheduled) ∙
    sym topped ∙ count in
    record {
      responses = shape_of shapes m s.responses (all_feasible π m.periods (units m) s.responses horizon h.answers);
      earned = ap length h.earnings_are ∙ length-zip_with (λ u t. earnings u π t) (units m) s.responses answered ∙
          count;
      scheduled = scheduled;
      payments = payments;
    }
