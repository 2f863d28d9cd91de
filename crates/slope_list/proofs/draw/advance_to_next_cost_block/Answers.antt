use Rattle.slope_list.proofs.Common.{◌≡◌, ◌∙◌, ℕ, suc, ◌+◌, List, length, ap, subst, arith, rules, to_z, of_z}
use Rattle.slope_list.proofs.Common.{FitsSigned, ◌+ℤ◌, w64, ints, to_z-of_z, Block, block, IsInBlock}
use Rattle.slope_list.proofs.Lemmas.{block_next, block_power, width_to-next}
use Rattle.slope_list.proofs.draw.advance_to_next_cost_block.Goals as goal

pub bounds-blocks-index : goal.bounds-blocks-index
bounds-blocks-index c =
    let e = ap (λ (bs : List Block). length bs) c.as_slice-blocks.ensures in
    let i = c.requires.more in
    omega (arith, e, i)

pub overflow_add-result : goal.overflow_add-result
overflow_add-result c =
    let cv = c.args.curve.now in
    let j = c.args.pen.span.index in
    let e = ap (λ (bs : List Block). (block bs (j + 1)).width) c.as_slice-blocks.ensures in
    let s = ap (λ (k : ℕ). (block cv.blocks.items k).width) {x = j + 1} {y = suc j} (omega arith) in
    let p = block_power cv c.requires.limited (suc (suc j)) (let i = c.requires.more in omega arith) in
    let pa = p.0 in
    let pb = p.1 in
    let n = width_to-next cv.blocks.items (suc j) c.requires.more in
    let ends = c.requires.block.ends in
    omega (arith, ints, e, s, n, ends, pa, pb)

pub returns-clause-block : goal.returns-clause-block
returns-clause-block c =
    let cv = c.args.curve.now in
    let j = c.args.pen.span.index in
    let e = ap (λ (bs : List Block). (block bs (j + 1)).width) c.as_slice-blocks.ensures in
    let s = ap (λ (k : ℕ). (block cv.blocks.items k).width) {x = j + 1} {y = suc j} (omega arith) in
    let p = block_power cv c.requires.limited (suc (suc j)) (let i = c.requires.more in omega arith) in
    let pa = p.0 in
    let pb = p.1 in
    let n = width_to-next cv.blocks.items (suc j) c.requires.more in
    let ends = c.requires.block.ends in
    let end =
    to_z w64 (of_z w64 (to_z w64 (of_z w64 c.args.pen.span.end) +ℤ to_z w64
    (of_z w64 (block c.as_slice-blocks.result.now (j + 1)).width))) in
    let is : end ≡ c.args.pen.span.end +ℤ (block cv.blocks.items (suc j)).width =
    omega (arith, ints, e, s, n, ends, pa, pb) in
    let price = (block c.as_slice-blocks.result.now (j + 1)).price in
    let fits : FitsSigned w64 price = search rules in
    let ep = to_z-of_z w64 price fits ∙ ap (λ (bs : List Block). (block bs (j + 1)).price) c.as_slice-blocks.ensures ∙
    ap (λ (k : ℕ). (block cv.blocks.items k).price) {x = j + 1} {y = suc j} (omega arith) in
    subst (λ (k : ℕ). IsInBlock cv c.args.pen.at (record { index = k; end = end; price = to_z w64 (of_z w64 price) }))
    {x = suc j} {y = j + 1} (omega arith)
    (block_next cv c.args.pen.at c.args.pen.span end (to_z w64 (of_z w64 price)) c.requires.block c.requires.passed
    c.requires.more is ep)
