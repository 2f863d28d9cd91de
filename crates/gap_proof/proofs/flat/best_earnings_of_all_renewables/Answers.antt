use Rattle.gap_proof.proofs.Common.{rules, ◌≡◌, ◌+◌, ◌*◌, ◌+ℤ◌, map, take, length, ap, ◌∙◌, FitsSigned, arith, ints}
use Rattle.gap_proof.proofs.Common.{to_z-of_z, w64, w128, IsWithin, fits_within, total, NamedRenewableUnit}
use Rattle.gap_proof.proofs.Common.{IsRenewableUnit, best_sold, market_of}
use Rattle.std.specs.Int.{cast_signed}
use Rattle.std.proofs.lemmas.List.{length-map, take_all}
use Rattle.plain_lists.proofs.ListLaws.{item_of, map_item}
use Rattle.uc_model.specs.PlainUnits.{named_renewable_of}
use Rattle.gap_proof.proofs.MixtureSumLaws.{total_more}
use Rattle.gap_proof.proofs.flat.best_earnings_of_all_renewables.Goals as goal

pub best_earnings_of_renewable-requires-clause-index : goal.best_earnings_of_renewable-requires-clause-index
best_earnings_of_renewable-requires-clause-index c =
    let m = market_of c.args.case.now in
    let at = map_item named_renewable_of c.args.case.now.flat.items c.loop-number.number c.get.result.now
    c.get.ensures.item in
    let limits = item_of (λ (n : NamedRenewableUnit). IsRenewableUnit n.unit ×
    (length n.unit.least ≡ c.args.case.now.periods)) m.flat c.loop-number.number _ c.args.case.now.valid.flat
    at in
    let long = limits.1 in
    let lt = c.requires.index in
    omega (arith, long, lt)

pub loop-number-preserved : goal.loop-number-preserved
loop-number-preserved c =
    let m = market_of c.args.case.now in
    let k = c.args.index in
    let i = c.loop-number.number in
    let q = c.ranges.price in
    let s : FitsSigned w64 c.best_earnings_of_renewable.result = search rules in
    let f : FitsSigned w128 c.from-sum.result = search rules in
    let at = map_item named_renewable_of c.args.case.now.flat.items i c.get.result.now c.get.ensures.item in
    let more = total_more (λ (n : NamedRenewableUnit). best_sold n.unit k c.args.price) m.flat i
    (named_renewable_of c.get.result.now) at in
    let so_far : cast_signed w128 c.loop-number.sum-bits ≡ total
    (map (λ (n : NamedRenewableUnit). best_sold n.unit k c.args.price) (take i m.flat)) =
    simp to_z-of_z at c.loop-number.invariant.is in
    let value = simp to_z-of_z at c.best_earnings_of_renewable.ensures.value in
    let from = simp to_z-of_z at c.from-sum.ensures in
    let a = c.loop-number.invariant.limit.at_least in
    let b = c.loop-number.invariant.limit.at_most in
    let x = c.best_earnings_of_renewable.ensures.limit.at_least in
    let y = c.best_earnings_of_renewable.ensures.limit.at_most in
    let few = c.args.case.now.valid.flat_count in
    let mapped = length-map c.args.case.now.flat.items named_renewable_of in
    let test = c.loop-number-test.true in
    let end = c.len-number-end.ensures in
    let sum : cast_signed w128 c.loop-number.sum-bits +ℤ c.from-sum.result ≡ total
    (map (λ (n : NamedRenewableUnit). best_sold n.unit k c.args.price) (take (i + 1) m.flat)) =
    omega (arith, ints, more, so_far, value, from) in
    let limit : IsWithin (10000000000000000 * (i + 1)) (cast_signed w128 c.loop-number.sum-bits +ℤ c.from-sum.result) =
    record { at_least = omega (arith, ints, a, x, from); at_most = omega (arith, ints, b, y, from) } in
    let l = limit.at_least in
    let h = limit.at_most in
    let within : IsWithin 100000000000000000000 (cast_signed w128 c.loop-number.sum-bits +ℤ c.from-sum.result) =
    record {
      at_least = omega (arith, ints, l, few, mapped, test, end);
      at_most =
          omega (arith, ints, h, few, mapped, test, end);
    } in
    let fits = fits_within w128 100000000000000000000 (cast_signed w128 c.loop-number.sum-bits +ℤ c.from-sum.result)
    within (omega arith) in
    record { is = simp to_z-of_z sum; limit = simp to_z-of_z limit }

pub returns-clause-value : goal.returns-clause-value
returns-clause-value c =
    let m = market_of c.args.case.now in
    let i = c.loop-number.number in
    let q = c.ranges.price in
    let mapped = length-map c.args.case.now.flat.items named_renewable_of in
    let test = c.loop-number-test.false in
    let end = c.len-number-end.ensures in
    let so_far : cast_signed w128 c.loop-number.sum-bits ≡ total
    (map (λ (n : NamedRenewableUnit). best_sold n.unit c.args.index c.args.price) (take i m.flat)) =
    simp to_z-of_z at c.loop-number.invariant.is in
    let whole = ap (λ l. total (map (λ (n : NamedRenewableUnit). best_sold n.unit c.args.index c.args.price) l))
    (take_all i m.flat (omega (arith, mapped, test, end))) in
    so_far ∙ whole
