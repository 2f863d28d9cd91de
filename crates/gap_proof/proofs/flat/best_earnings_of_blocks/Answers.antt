use Rattle.gap_proof.proofs.Common.{rules, ◌≡◌, pos, ◌+◌, ◌*◌, ◌+ℤ◌, ◌-ℤ◌, ◌*ℤ◌, take, get_or, ap, FitsSigned}
use Rattle.gap_proof.proofs.Common.{arith, ints, to_z-of_z, slice_get-get_or, int_max, w64, IsFrom, IsWithin}
use Rattle.gap_proof.proofs.Common.{fits_within, Block, best_bought}
use Rattle.std.specs.Int.{cast_signed}
use Rattle.std.proofs.lemmas.List.{take_all}
use Rattle.gap_proof.proofs.Bought.{bought_limit}
use Rattle.gap_proof.proofs.MixtureSumLaws.{total_more}
use Rattle.gap_proof.proofs.flat.best_earnings_of_blocks.Goals as goal

pub loop-block-preserved : goal.loop-block-preserved
loop-block-preserved c =
    let bs = c.args.blocks.now in
    let i = c.loop-block.block-index in
    let q = c.ranges.price in
    let none : Block = record { width = pos 0; price = pos 0 } in
    let g : FitsSigned w64 c.best_earnings_of_block-sum.result = search rules in
    let more = total_more (λ (b : Block). b.width *ℤ int_max (pos 0) (b.price -ℤ c.args.price)) bs i (get_or bs i none)
    (slice_get-get_or bs i none c.loop-block-test.true) in
    let so_far : cast_signed w64 c.loop-block.sum-bits ≡ best_bought (take i bs) c.args.price =
    simp to_z-of_z at c.loop-block.invariant.is in
    let value = simp to_z-of_z at c.best_earnings_of_block-sum.ensures.value in
    let a = c.loop-block.invariant.limit.at_least in
    let b = c.loop-block.invariant.limit.at_most in
    let x = c.best_earnings_of_block-sum.ensures.limit.at_least in
    let y = c.best_earnings_of_block-sum.ensures.limit.at_most in
    let few = c.requires.blocks.count in
    let test = c.loop-block-test.true in
    let sum : cast_signed w64 c.loop-block.sum-bits +ℤ c.best_earnings_of_block-sum.result ≡ best_bought
    (take (i + 1) bs)
    c.args.price =
    omega (arith, ints, more, so_far, value) in
    let limit : IsFrom (pos 0) (pos (20000000000000000 * (i + 1)))
    (cast_signed w64 c.loop-block.sum-bits +ℤ c.best_earnings_of_block-sum.result) =
    record { at_least = omega (arith, ints, a, x); at_most = omega (arith, ints, b, y) } in
    let l = limit.at_least in
    let h = limit.at_most in
    let within : IsWithin 200000000000000000 (cast_signed w64 c.loop-block.sum-bits +ℤ
    c.best_earnings_of_block-sum.result) =
    record { at_least = omega (arith, ints, l); at_most = omega (arith, ints, h, few, test) } in
    let fits = fits_within w64 200000000000000000 (cast_signed w64 c.loop-block.sum-bits +ℤ
    c.best_earnings_of_block-sum.result)
    within
    (omega arith) in
    record { is = simp to_z-of_z sum; limit = simp to_z-of_z limit }

pub returns-clause-limit : goal.returns-clause-limit
returns-clause-limit c =
    let bs = c.args.blocks.now in
    let i = c.loop-block.block-index in
    let q = c.ranges.price in
    let so_far : cast_signed w64 c.loop-block.sum-bits ≡ best_bought (take i bs) c.args.price =
    simp to_z-of_z at c.loop-block.invariant.is in
    let whole = ap (λ l. best_bought l c.args.price) (take_all i bs c.loop-block-test.false) in
    let limit = bought_limit c.args.price bs c.requires.blocks c.requires.price.at_least in
    let a = limit.at_least in
    let b = limit.at_most in
    record { at_least = omega (arith, ints, so_far, whole, a); at_most = omega (arith, ints, so_far, whole, b) }
