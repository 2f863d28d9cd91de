-- At most one report is right, and its payments make up its gap.
use Rattle.right_report.proofs.Common.{◌≡◌, ℕ, ◌-◌, ◌<◌, ℤ, ◌-ℤ◌, List, [], ◌∷◌, ◌++◌, map, length, take, drop, get_or}
use Rattle.right_report.proofs.Common.{slice_get, refl, sym, ap, ◌∙◌, subst, arith, length-append, length-map}
use Rattle.right_report.proofs.Common.{get_or-map, map-append, take_at, drop_at, same_lists, same_Some}
use Rattle.right_report.proofs.Common.{slice_get_within, get_or_from_slice_get, AllZip, PriceLists, Schedule, Market}
use Rattle.right_report.proofs.Common.{units, IsTop, Proposal, chosen_number, Fits, total, zip_with, plan_cost}
use Rattle.right_report.proofs.Common.{IsDualValue, IsSettled, OneLeast, PaymentsMakeUpTheGap, UnitLine, Report}
use Rattle.right_report.proofs.Common.{unit_lines, HasNames, IsRightReport, OneRightReport, ReportPaymentsMakeUpTheGap}
use Rattle.right_report.proofs.OneRun.{zip_same, tops_same, one_run}

-- ---- the numbers of a settlement

pub record SameSettlement (scheduled payments others paid : List ℤ) (surplus sum more all : ℤ) : Type 0 where
  pub scheduled_same : scheduled ≡ others
  pub payments_same : payments ≡ paid
  pub surplus_same : surplus ≡ more
  pub sum_same : sum ≡ all

pub settled_same : (m : Market) (plan : List Schedule) (π : PriceLists) (scheduled payments others paid : List ℤ)
    (surplus sum more all : ℤ) →
    IsSettled m plan π scheduled payments surplus sum → IsSettled m plan π others paid more all →
    SameSettlement scheduled payments others paid surplus sum more all
settled_same m plan π scheduled payments others paid surplus sum more all h i =
    let tops = tops_same π (units m) h.tops i.tops h.best i.best in
    let scheduled_same : scheduled ≡ others = h.scheduled_is ∙ sym i.scheduled_is in
    let payments_same : payments ≡ paid = h.payments_are ∙ (λ j. zip_with (λ e s. e -ℤ s) (tops j) (scheduled_same j)) ∙
    sym i.payments_are in
    record {
      scheduled_same = scheduled_same;
      payments_same = payments_same;
      surplus_same = h.surplus_is ∙ sym i.surplus_is;
      sum_same = h.sum_is ∙ ap total payments_same ∙ sym i.sum_is;
    }

-- ---- lines with the same parts

-- where each item of a list has a part that fits, the parts fit
zip_map : {A B C : Type 0} (R : A → C → Type 0) (f : B → C) (us : List A) (xs : List B) →
    AllZip (λ u x. R u (f x)) us xs → AllZip R us (map f xs)
zip_map R f [] [] h = tt
zip_map R f [] (x ∷ xs) h = absurd h
zip_map R f (u ∷ us) [] h = absurd h
zip_map R f (u ∷ us) (x ∷ xs) h = (h.0, zip_map R f us xs h.1)

as_long : {X Y Z : Type 0} (f : X → Z) (g : Y → Z) (xs : List X) (ys : List Y) → map f xs ≡ map g ys →
    length xs ≡ length ys
as_long f g xs ys e = sym (length-map xs f) ∙ ap length e ∙ length-map ys g

part_same : {X : Type 0} (f : UnitLine → X) (xs ys : List UnitLine) → map f xs ≡ map f ys → (k : ℕ) (d : UnitLine) →
    k < length xs → f (get_or xs k d) ≡ f (get_or ys k d)
part_same {X} f xs ys e k d inside =
    let long = as_long f f xs ys e in
    sym (get_or-map f xs k d (f d) inside) ∙ ap (λ (zs : List X). get_or zs k (f d)) e ∙
    get_or-map f ys k d (f d) (omega (arith, inside, long))

record SameParts (xs ys : List UnitLine) : Type 0 where
  names : map (λ (l : UnitLine). l.name) xs ≡ map (λ (l : UnitLine). l.name) ys
  earned : map (λ (l : UnitLine). l.earned) xs ≡ map (λ (l : UnitLine). l.earned) ys
  scheduled : map (λ (l : UnitLine). l.scheduled) xs ≡ map (λ (l : UnitLine). l.scheduled) ys
  payments : map (λ (l : UnitLine). l.payment) xs ≡ map (λ (l : UnitLine). l.payment) ys
  responses : map (λ (l : UnitLine). l.response) xs ≡ map (λ (l : UnitLine). l.response) ys

lines_same : (xs ys : List UnitLine) → SameParts xs ys → xs ≡ ys
lines_same xs ys h =
    same_lists xs ys (as_long (λ (l : UnitLine). l.name) (λ (l : UnitLine). l.name) xs ys h.names) (λ k d inside.
    let name = part_same (λ (l : UnitLine). l.name) xs ys h.names k d inside in
    let earned = part_same (λ (l : UnitLine). l.earned) xs ys h.earned k d inside in
    let scheduled = part_same (λ (l : UnitLine). l.scheduled) xs ys h.scheduled k d inside in
    let payment = part_same (λ (l : UnitLine). l.payment) xs ys h.payments k d inside in
    let response = part_same (λ (l : UnitLine). l.response) xs ys h.responses k d inside in
    λ i. record {
      name = name i;
      earned = earned i;
      scheduled = scheduled i;
      payment = payment i;
      response =
          response i;
    })

-- ---- the names of all lines, and the lines of each kind

map_three : {X Y : Type 0} (f : X → Y) (xs ys zs : List X) → map f (xs ++ ys ++ zs) ≡ map f xs ++ map f ys ++ map f zs
map_three {X} {Y} f xs ys zs = map-append f (xs ++ ys) zs ∙ ap (λ (us : List Y). us ++ map f zs) (map-append f xs ys)

names_same : (m : Market) (r s : Report) → HasNames m r → HasNames m s →
    map (λ (l : UnitLine). l.name) (unit_lines r) ≡ map (λ (l : UnitLine). l.name) (unit_lines s)
names_same m r s h i =
    let name = λ (l : UnitLine). l.name in
    map_three name r.thermal r.renewable r.bids
    ∙ (λ j. (h.thermal ∙ sym i.thermal) j ++ (h.renewable ∙ sym i.renewable) j ++ (h.bids ∙ sym i.bids) j)
    ∙ sym (map_three name s.thermal s.renewable s.bids)

parts : {X : Type 0} (xs ys us vs : List X) → length xs ≡ length us → xs ++ ys ≡ us ++ vs → (xs ≡ us) × (ys ≡ vs)
parts xs ys us vs long e =
    let n = length xs in (
      sym (take_at xs ys n refl) ∙ ap (take n) e ∙ take_at us vs n (sym long),
      sym (drop_at xs ys n refl) ∙
          ap (drop n) e ∙ drop_at us vs n (sym long),
    )

record SameKinds (r s : Report) : Type 0 where
  thermal : r.thermal ≡ s.thermal
  renewable : r.renewable ≡ s.renewable
  bids : r.bids ≡ s.bids

kinds_same : (m : Market) (r s : Report) → HasNames m r → HasNames m s → unit_lines r ≡ unit_lines s → SameKinds r s
kinds_same m r s h i e =
    let name = λ (l : UnitLine). l.name in
    let a = as_long name name r.thermal s.thermal (h.thermal ∙ sym i.thermal) in
    let b = as_long name name r.renewable s.renewable (h.renewable ∙ sym i.renewable) in
    let outer = parts (r.thermal ++ r.renewable) r.bids (s.thermal ++ s.renewable) s.bids
    (omega (arith, a, b, length-append r.thermal r.renewable, length-append s.thermal s.renewable)) e in
    let inner = parts r.thermal r.renewable s.thermal s.renewable a outer.0 in
    record { thermal = inner.0; renewable = inner.1; bids = outer.1 }

-- ---- right reports

-- where two of them choose the same row
module _ (one_least : OneLeast) (m : Market) (plan : List Schedule) (budget ahead : ℕ) (r s : Report)
    (h : IsRightReport m plan budget ahead r) (i : IsRightReport m plan budget ahead s) (row : h.row ≡ i.row) where
  settlement : SameSettlement (map (λ (l : UnitLine). l.scheduled) (unit_lines r))
      (map (λ (l : UnitLine). l.payment) (unit_lines r))
      (map (λ (l : UnitLine). l.scheduled) (unit_lines s)) (map (λ (l : UnitLine). l.payment) (unit_lines s)) r.surplus
      r.payments s.surplus s.payments
  settlement =
      let first =
      subst (λ (p : Proposal). IsSettled m plan p.prices (map (λ (l : UnitLine). l.scheduled) (unit_lines r))
      (map (λ (l : UnitLine). l.payment) (unit_lines r)) r.surplus r.payments) row h.settled in
      settled_same m plan i.row.prices _ _ _ _ _ _ _ _ first i.settled

  all_lines_same : unit_lines r ≡ unit_lines s
  all_lines_same =
      let π = i.row.prices in
      let earned = λ (l : UnitLine). l.earned in
      let response = λ (l : UnitLine). l.response in
      let tops = subst (λ (p : Proposal). AllZip (λ u (l : UnitLine). IsTop u p.prices l.earned) (units m)
      (unit_lines r)) row h.earned in
      let fits = subst (λ (p : Proposal). AllZip (λ u (l : UnitLine). Fits u p.prices l.response) (units m)
      (unit_lines r)) row h.responses_fit in
      lines_same (unit_lines r) (unit_lines s) (record {
        names = names_same m r s h.names i.names;
        earned = tops_same π (units m) (map earned (unit_lines r)) (map earned (unit_lines s))
            (zip_map (λ u e. IsTop u π e) earned (units m) (unit_lines r) tops)
            (zip_map (λ u e. IsTop u π e) earned (units m) (unit_lines s) i.earned);
        scheduled = settlement.scheduled_same;
        payments = settlement.payments_same;
        responses = zip_same (λ u t. Fits u π t) (λ u. one_least u π) (units m) (map response (unit_lines r))
            (map response (unit_lines s))
            (zip_map (λ u t. Fits u π t) response (units m) (unit_lines r) fits)
            (zip_map (λ u t. Fits u π t) response (units m) (unit_lines s) i.responses_fit);
      })

pub one_right_report : OneLeast → OneRightReport
one_right_report one_least m plan budget ahead r s h i =
    let rows = one_run one_least m (plan_cost m plan) budget ahead r.rows s.rows h.run i.run in
    let chosen : r.chosen ≡ s.chosen = h.chosen_is ∙ ap chosen_number rows ∙ sym i.chosen_is in
    let row : h.row ≡ i.row =
    same_Some h.row i.row (sym h.is_chosen ∙ (λ j. slice_get (rows j) (chosen j - 1)) ∙ i.is_chosen) in
    let value : r.value ≡ s.value = h.value_is ∙ ap (λ (p : Proposal). p.value) row ∙ sym i.value_is in
    let cost : r.cost ≡ s.cost = h.cost_is ∙ sym i.cost_is in
    let money = settlement one_least m plan budget ahead r s h i row in
    let kinds = kinds_same m r s h.names i.names (all_lines_same one_least m plan budget ahead r s h i row) in
    λ j. record {
      periods = (h.periods_are ∙ sym i.periods_are) j;
      units = (h.units_are ∙ sym i.units_are) j;
      budget = (h.budget_is ∙ sym i.budget_is) j;
      ahead = (h.ahead_is ∙ sym i.ahead_is) j;
      cost = cost j;
      rows = rows j;
      chosen = chosen j;
      value = value j;
      thermal = kinds.thermal j;
      renewable = kinds.renewable j;
      bids = kinds.bids j;
      surplus = money.surplus_same j;
      payments = money.sum_same j;
      gap = (h.gap_is ∙ (λ k. cost k -ℤ value k) ∙ sym i.gap_is) j;
    }

-- the chosen row's value is the dual value at its prices
pub report_payments : PaymentsMakeUpTheGap → ReportPaymentsMakeUpTheGap
report_payments payments_make_up m plan budget ahead r feasible h =
    let k = r.chosen - 1 in
    let right = (h.run.right.each k h.row (slice_get_within r.rows k h.row h.is_chosen)).value in
    let dual = subst (λ (p : Proposal). IsDualValue m p.prices p.value)
    (get_or_from_slice_get r.rows k h.row h.row h.is_chosen) right in
    payments_make_up m plan h.row.prices h.row.value _ _ r.surplus r.payments feasible dual h.settled
    ∙ (λ j. sym h.cost_is j -ℤ sym h.value_is j)
