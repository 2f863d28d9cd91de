use Rattle.std.proofs.Common.{rules, arith, ◌≡◌, ℕ, ◌+◌, ◌*◌, ℤ, pos, ◌+ℤ◌, ◌-ℤ◌, ◌*ℤ◌, ap, sym, ◌∙◌, add-one}
use Rattle.std.proofs.lemmas.Int.{ints, to_z-of_z}
use Rattle.std.proofs.lemmas.Option.{get_or_from_slice_get}
use Rattle.std.specs.Int.{w64, w128, cast_signed, cast_unsigned}
use Rattle.std.specs.Prelude.{FitsSigned}
use Rattle.plain_lists.specs.Sums.{int_at, sum_below}
use Rattle.plain_lists.proofs.SignedLaws.{sum_within, product_within, fits_within, IsWithin}
use Rattle.price_space.proofs.value.dual_value.Goals as goal

energy_is : (c : goal.After-worth_at_price-reserve) →
    c.worth_at_price-energy.result ≡ int_at c.args.prices.now.energy.items c.loop-k.k *ℤ int_at
    c.args.case.now.demand.items
    c.loop-k.k
energy_is c =
    let a : FitsSigned w64 c.get.result.now = search rules in
    let b : FitsSigned w64 c.get-in-loop-k.result.now = search rules in
    let e = simp to_z-of_z at c.worth_at_price-energy.ensures in
    let x = get_or_from_slice_get c.args.prices.now.energy.items c.loop-k.k c.get.result.now (pos 0)
    c.get.ensures.item in
    let y = get_or_from_slice_get c.args.case.now.demand.items c.loop-k.k c.get-in-loop-k.result.now (pos 0)
    c.get-in-loop-k.ensures.item in
    rw (x, y) e

reserve_is : (c : goal.After-worth_at_price-reserve) →
    c.worth_at_price-reserve.result ≡ int_at c.args.prices.now.reserve.items c.loop-k.k *ℤ int_at
    c.args.case.now.reserves.items
    c.loop-k.k
reserve_is c =
    let a : FitsSigned w64 c.get-in-loop-k-2.result.now = search rules in
    let b : FitsSigned w64 c.get-in-loop-k-3.result.now = search rules in
    let e = simp to_z-of_z at c.worth_at_price-reserve.ensures in
    let x = get_or_from_slice_get c.args.prices.now.reserve.items c.loop-k.k c.get-in-loop-k-2.result.now (pos 0)
    c.get-in-loop-k-2.ensures.item in
    let y = get_or_from_slice_get c.args.case.now.reserves.items c.loop-k.k c.get-in-loop-k-3.result.now (pos 0)
    c.get-in-loop-k-3.ensures.item in
    rw (x, y) e

energy_within : (c : goal.After-worth_at_price-reserve) → IsWithin 10000000000000000 c.worth_at_price-energy.result
energy_within c =
    let turn = c.loop-k-test.true in
    let prices = c.args.prices.now.valid in
    let demand = c.args.case.now.valid in
    let long = c.requires.horizon in
    let many = demand.demand_length in
    rw (energy_is c) (product_within 10000000 1000000000 (int_at c.args.prices.now.energy.items c.loop-k.k)
    (int_at c.args.case.now.demand.items c.loop-k.k)
    (prices.energy c.loop-k.k (pos 0) (omega (arith, turn, long)))
    (demand.demand c.loop-k.k (pos 0) (omega (arith, turn, many))))

reserve_within : (c : goal.After-worth_at_price-reserve) → IsWithin 10000000000000000 c.worth_at_price-reserve.result
reserve_within c =
    let turn = c.loop-k-test.true in
    let prices = c.args.prices.now.valid in
    let case = c.args.case.now.valid in
    let same = prices.lengths in
    let long = c.requires.horizon in
    let many = case.reserves_length in
    let price = prices.reserve c.loop-k.k (pos 0) (omega (arith, turn, long, same)) in
    let low = price.at_least in
    rw (reserve_is c) (product_within 10000000 1000000000 (int_at c.args.prices.now.reserve.items c.loop-k.k)
    (int_at c.args.case.now.reserves.items c.loop-k.k)
    (record { at_least = omega (arith, ints, low); at_most = price.at_most })
    (case.reserves c.loop-k.k (pos 0) (omega (arith, turn, many))))

pub overflow_add-total : goal.overflow_add-total
overflow_add-total c =
    let a : FitsSigned w128 c.worth_at_price-energy.result = search rules in
    let b : FitsSigned w128 c.worth_at_price-reserve.result = search rules in
    let within = sum_within 10000000000000000 10000000000000000 _ _ (energy_within c) (reserve_within c) in
    simp to_z-of_z (fits_within w128 20000000000000000 (c.worth_at_price-energy.result +ℤ
    c.worth_at_price-reserve.result) within
    (omega arith))

-- what a turn adds
both : (c : goal.After-worth_at_price-reserve) →
    cast_signed w128
    (cast_unsigned w128 (cast_signed w128 (cast_unsigned w128 c.worth_at_price-energy.result) +ℤ cast_signed w128
    (cast_unsigned w128 c.worth_at_price-reserve.result))) ≡ c.worth_at_price-energy.result +ℤ
    c.worth_at_price-reserve.result
both c =
    let a : FitsSigned w128 c.worth_at_price-energy.result = search rules in
    let b : FitsSigned w128 c.worth_at_price-reserve.result = search rules in
    let within = sum_within 10000000000000000 10000000000000000 _ _ (energy_within c) (reserve_within c) in
    let f = fits_within w128 20000000000000000 (c.worth_at_price-energy.result +ℤ c.worth_at_price-reserve.result)
    within (omega arith) in
    simp to_z-of_z

within_next : (c : goal.After-worth_at_price-reserve) →
    IsWithin (c.loop-k.k * 20000000000000000 + 20000000000000000)
    (cast_signed w128 c.loop-k.total-bits +ℤ (c.worth_at_price-energy.result +ℤ c.worth_at_price-reserve.result))
within_next c =
    sum_within (c.loop-k.k * 20000000000000000) 20000000000000000 _ _ c.loop-k.invariant.bound
    (sum_within 10000000000000000 10000000000000000 _ _ (energy_within c) (reserve_within c))

fits_next : (c : goal.After-worth_at_price-reserve) →
    FitsSigned w128 (cast_signed w128 c.loop-k.total-bits +ℤ (c.worth_at_price-energy.result +ℤ
    c.worth_at_price-reserve.result))
fits_next c =
    let few = c.args.case.now.valid.horizon.at_most in
    let turn = c.loop-k-test.true in
    fits_within w128 _ _ (within_next c) (omega (arith, few, turn))

pub overflow_add-total-in-loop-k : goal.overflow_add-total-in-loop-k
overflow_add-total-in-loop-k c = rw (both c) (fits_next c)

after : (c : goal.After-worth_at_price-reserve) →
    cast_signed w128
    (cast_unsigned w128 (cast_signed w128 c.loop-k.total-bits +ℤ cast_signed w128
    (cast_unsigned w128 (cast_signed w128 (cast_unsigned w128 c.worth_at_price-energy.result) +ℤ cast_signed w128
    (cast_unsigned w128 c.worth_at_price-reserve.result))))) ≡ cast_signed w128
    c.loop-k.total-bits +ℤ (c.worth_at_price-energy.result +ℤ c.worth_at_price-reserve.result)
after c = rw (both c) (to_z-of_z w128 _ (fits_next c))

pub loop-k-preserved : goal.loop-k-preserved
loop-k-preserved c =
    let f : ℕ → ℤ = λ k. (int_at c.args.prices.now.energy.items k *ℤ int_at c.args.case.now.demand.items k)
    +ℤ (int_at c.args.prices.now.reserve.items k *ℤ int_at c.args.case.now.reserves.items k) in
    let more : sum_below (c.loop-k.k + 1) f ≡ sum_below c.loop-k.k f +ℤ f c.loop-k.k =
    ap (λ n. sum_below n f) (add-one c.loop-k.k) in
    let so_far : cast_signed w128 c.loop-k.total-bits ≡ sum_below c.loop-k.k f = c.loop-k.invariant.so_far in
    let e = energy_is c in
    let r = reserve_is c in
    let within = within_next c in
    let size : c.loop-k.k * 20000000000000000 + 20000000000000000 ≡ (c.loop-k.k + 1) * 20000000000000000 =
    omega arith in
    record {
      so_far = after c ∙ sym (omega (arith, ints, more, so_far, e, r));
      bound = rw (after c, ← size) within;
    }

pub returns : goal.returns
returns c =
    let f : ℕ → ℤ = λ k. (int_at c.args.prices.now.energy.items k *ℤ int_at c.args.case.now.demand.items k)
    +ℤ (int_at c.args.prices.now.reserve.items k *ℤ int_at c.args.case.now.reserves.items k) in
    let few = c.args.case.now.valid.horizon.at_most in
    let last = c.loop-k.auto.k-end in
    let all_ : c.loop-k.k ≡ c.args.case.now.periods = omega (arith, c.loop-k-test.false, last) in
    let earned = c.requires.earned in
    let least = c.loop-k.invariant.bound.at_least in
    let most = c.loop-k.invariant.bound.at_most in
    let low = earned.at_least in
    let high = earned.at_most in
    let within : IsWithin 200000000000000000000000 (cast_signed w128 c.loop-k.total-bits -ℤ c.args.earned) =
    record {
      at_least = omega (arith, ints, least, high, few, all_);
      at_most =
          omega (arith, ints, most, low, few, all_);
    } in
    let fits = fits_within w128 200000000000000000000000 _ within (omega arith) in
    let g = c.ranges.earned in
    let so_far : cast_signed w128 c.loop-k.total-bits ≡ sum_below c.loop-k.k f = c.loop-k.invariant.so_far in
    let whole : sum_below c.loop-k.k f ≡ sum_below c.args.case.now.periods f = ap (λ n. sum_below n f) all_ in
    simp to_z-of_z (ap (λ (z : ℤ). z -ℤ c.args.earned) (so_far ∙ whole))
