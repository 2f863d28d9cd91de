use Rattle.price_settle.proofs.Common.{rules, ◌≡◌, refl, ◌<◌, ℤ, pos, ◌-ℤ◌, List, [], ◌∷◌, ◌++◌, length, take, sym, ap}
use Rattle.price_settle.proofs.Common.{◌∙◌, w64, FitsSigned, arith, length-append, ints, to_z-of_z, take_more}
use Rattle.price_settle.proofs.Common.{take_all, get_or_from_slice_get, w128, slice_get, AnyUnit, units, unit_count}
use Rattle.price_settle.proofs.Common.{IsTop, market_of, schedules_of, prices_of, total, zip_with, length_same}
use Rattle.price_settle.proofs.Common.{zip_with-push, total-push, earned_in}
use Rattle.price_settle.proofs.Lemmas.{best_within, earned_length}
use Rattle.price_settle.proofs.settlement.settle.Goals as goal
use Rattle.price_settle.proofs.settlement.settle.Goals.{After-unit_numbers_go_by_kind}

abbrev less : ℤ → ℤ → ℤ
less e s = e -ℤ s

zip_with-nil : (es : List ℤ) → zip_with less es [] ≡ []
zip_with-nil [] = refl
zip_with-nil (e ∷ es) = refl

-- as many earnings as units
units_earn : (c : After-unit_numbers_go_by_kind) → length c.args.earned.now ≡ unit_count (market_of c.args.case.now)
units_earn c =
    let m = market_of c.args.case.now in
    let count = length_same (λ (u : AnyUnit) (e : ℤ). IsTop u (prices_of c.args.prices.now) e) (units m)
    c.args.earned.now c.requires.best in
    let all = (c.unit_numbers_go_by_kind.ensures m).count in
    omega (arith, count, all)

pub loop-number-init : goal.loop-number-init
loop-number-init c =
    let a = c.clear.ensures.spare in
    let b = c.clear-2.ensures.spare in
    let scheduled = c.requires.scheduled in
    let payments = c.requires.payments in
    record {
      scheduled = c.clear.ensures.items;
      count = ap length c.clear.ensures.items;
      payments = c.clear-2.ensures.items ∙ sym (zip_with-nil c.args.earned.now) ∙
          ap (zip_with less c.args.earned.now) (sym c.clear.ensures.items);
      total = ap total (sym c.clear-2.ensures.items);
      limit = record { at_least = omega (arith, ints); at_most = omega (arith, ints) };
      scheduled_room = omega (arith, a, scheduled);
      payments_room = omega (arith, b, payments);
    }

pub earnings_of_unit_in_plan-scheduled-requires-clause-number :
    goal.earnings_of_unit_in_plan-scheduled-requires-clause-number
earnings_of_unit_in_plan-scheduled-requires-clause-number c =
    let m = market_of c.args.case.now in
    let count = units_earn (goal.at.earnings_of_unit_in_plan-scheduled-requires-clause-number
    c).After-unit_numbers_go_by_kind in
    let test = c.loop-number-test.true in
    let plan = (c.feasible_plans_have_shape.ensures m (schedules_of c.args.plan.now) c.requires.feasible).count in
    omega (arith, count, test, plan)

pub payment_of-payment-requires-clause-best : goal.payment_of-payment-requires-clause-best
payment_of-payment-requires-clause-best c =
    let m = market_of c.args.case.now in
    let f : FitsSigned w64 c.best_earnings_of.result = search rules in
    let within = best_within c.earnings_are_within.ensures (prices_of c.args.prices.now) c.args.prices.now.valid
    (units m) c.args.earned.now c.loop-number.number c.best_earnings_of.result
    (c.units_are_within.ensures m c.args.case.now.valid) c.requires.best c.best_earnings_of.ensures in
    simp to_z-of_z within

pub add_unit-requires-clause-scheduled_room : goal.add_unit-requires-clause-scheduled_room
add_unit-requires-clause-scheduled_room c =
    let count = units_earn (goal.at.add_unit-requires-clause-scheduled_room c).After-unit_numbers_go_by_kind in
    let test = c.loop-number-test.true in
    let room = c.loop-number.invariant.scheduled_room in
    omega (arith, count, test, room)

pub add_unit-requires-clause-payments_room : goal.add_unit-requires-clause-payments_room
add_unit-requires-clause-payments_room c =
    let count = units_earn (goal.at.add_unit-requires-clause-payments_room c).After-unit_numbers_go_by_kind in
    let test = c.loop-number-test.true in
    let room = c.loop-number.invariant.payments_room in
    omega (arith, count, test, room)

pub add_unit-requires-clause-total : goal.add_unit-requires-clause-total
add_unit-requires-clause-total c =
    let count = units_earn (goal.at.add_unit-requires-clause-total c).After-unit_numbers_go_by_kind in
    let test = c.loop-number-test.true in
    let low = c.loop-number.invariant.limit.at_least in
    let high = c.loop-number.invariant.limit.at_most in
    let a = c.args.case.now.valid.thermal_count in
    let b = c.args.case.now.valid.flat_count in
    let d = c.args.case.now.valid.bid_count in
    record {
      at_least = omega (arith, ints, count, test, low, a, b, d);
      at_most =
          omega (arith, ints, count, test, high, a, b, d);
    }

pub loop-number-preserved : goal.loop-number-preserved
loop-number-preserved c =
    let m = market_of c.args.case.now in
    let count = units_earn (goal.at.loop-number-preserved c).After-unit_numbers_go_by_kind in
    let test = c.loop-number-test.true in
    let ps = schedules_of c.args.plan.now in
    let xs = earned_in m ps (prices_of c.args.prices.now) in
    let k = c.loop-number.number in
    let r = c.earnings_of_unit_in_plan-scheduled.result in
    let best = c.best_earnings_of.result in
    let known = c.loop-number.invariant in
    let done = c.loop-number.into.scheduled.items in
    let f1 : FitsSigned w64 c.earnings_of_unit_in_plan-scheduled.result = search rules in
    let f2 : FitsSigned w64 c.best_earnings_of.result = search rules in
    let f3 : FitsSigned w64 c.payment_of-payment.result = search rules in
    let scheduled = simp to_z-of_z at c.add_unit.ensures.scheduled in
    let payments = simp to_z-of_z at c.add_unit.ensures.payments in
    let sum = simp to_z-of_z at c.add_unit.ensures.total in
    let payment = simp to_z-of_z at c.payment_of-payment.ensures.value in
    let low = known.limit.at_least in
    let high = known.limit.at_most in
    let payment_low = c.payment_of-payment.ensures.limit.at_least in
    let payment_high = c.payment_of-payment.ensures.limit.at_most in
    let number = known.count in
    let so_far = known.total in
    let room = known.scheduled_room in
    let payments_room = known.payments_room in
    let spare = c.add_unit.ensures.scheduled_spare in
    let payments_spare = c.add_unit.ensures.payments_spare in
    let longer = ap length scheduled in
    let pushed = length-append done (r ∷ []) in
    let last = earned_length m ps (prices_of c.args.prices.now) (c.unit_numbers_go_by_kind.ensures m)
    (c.feasible_plans_have_shape.ensures m ps c.requires.feasible) in
    let lt : k < length xs = omega (arith, count, test, last) in
    let item = get_or_from_slice_get xs k r (pos 0) c.earnings_of_unit_in_plan-scheduled.ensures.value in
    let at = ap (slice_get c.args.earned.now) number ∙ c.best_earnings_of.ensures in
    let totals = ap total payments ∙ total-push c.loop-number.into.payments.items c.payment_of-payment.result in
    record {
      scheduled = scheduled ∙ ap (λ (l : List ℤ). l ++ r ∷ []) known.scheduled ∙
          ap (λ (x : ℤ). take k xs ++ x ∷ []) (sym item) ∙ sym (take_more xs k (pos 0) lt);
      count = omega (arith, longer, pushed, number);
      payments = payments ∙ ap (λ (l : List ℤ). l ++ c.payment_of-payment.result ∷ []) known.payments ∙
          ap (λ (x : ℤ). zip_with less c.args.earned.now done ++ x ∷ []) payment
          ∙ sym (zip_with-push less c.args.earned.now done best r at) ∙
          ap (zip_with less c.args.earned.now) (sym scheduled);
      total = omega (arith, ints, sum, so_far, totals);
      limit = record {
        at_least = omega (arith, ints, sum, low, payment_low);
        at_most =
            omega (arith, ints, sum, high, payment_high);
      };
      scheduled_room = omega (arith, room, spare);
      payments_room = omega (arith, payments_room, payments_spare);
    }

pub returns-clause-settled : goal.returns-clause-settled
returns-clause-settled c =
    let m = market_of c.args.case.now in
    let ps = schedules_of c.args.plan.now in
    let xs = earned_in m ps (prices_of c.args.prices.now) in
    let known = c.loop-number.invariant in
    let count = units_earn (goal.at.returns-clause-settled c).After-unit_numbers_go_by_kind in
    let last = earned_length m ps (prices_of c.args.prices.now) (c.unit_numbers_go_by_kind.ensures m)
    (c.feasible_plans_have_shape.ensures m ps c.requires.feasible) in
    let test = c.loop-number-test.false in
    let f : FitsSigned w128 c.worth_of_surplus-into.result = search rules in
    record {
      tops = c.args.earned.now;
      best = c.requires.best;
      scheduled_is = known.scheduled ∙ take_all c.loop-number.number xs (omega (arith, count, last, test));
      payments_are = known.payments;
      surplus_is = to_z-of_z w128 c.worth_of_surplus-into.result f ∙ c.worth_of_surplus-into.ensures;
      sum_is = known.total;
    }

pub returns-clause-scheduled_room : goal.returns-clause-scheduled_room
returns-clause-scheduled_room c =
    let count = units_earn (goal.at.returns-clause-scheduled_room c).After-unit_numbers_go_by_kind in
    let room = c.loop-number.invariant.scheduled_room in
    let test = c.loop-number-test.false in
    let end = c.loop-number.auto.number-end in
    omega (arith, count, room, test, end)

pub returns-clause-payments_room : goal.returns-clause-payments_room
returns-clause-payments_room c =
    let count = units_earn (goal.at.returns-clause-payments_room c).After-unit_numbers_go_by_kind in
    let room = c.loop-number.invariant.payments_room in
    let test = c.loop-number-test.false in
    let end = c.loop-number.auto.number-end in
    omega (arith, count, room, test, end)
