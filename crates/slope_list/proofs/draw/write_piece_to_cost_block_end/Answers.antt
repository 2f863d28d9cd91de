use Rattle.slope_list.proofs.Common.{arith, ap, sym, subst, rules, FitsSigned, w64, ints, clamps, to_z-of_z, Span}
use Rattle.slope_list.proofs.Common.{IsInBlock, cost_at, with_cost}
use Rattle.slope_list.proofs.Lemmas.{same_le, line_part, line_sum, cost_in, price_within, in_block_at, drawn_same}
use Rattle.slope_list.proofs.draw.write_piece_to_cost_block_end.Goals as goal

pub write_piece-written-requires-clause-total : goal.write_piece-written-requires-clause-total
write_piece-written-requires-clause-total c = rw (to_z-of_z w64 c.args.slope c.ranges.slope) c.requires.total

pub write_piece-written-requires-clause-price : goal.write_piece-written-requires-clause-price
write_piece-written-requires-clause-price c =
    let span = c.args.pen.span in
    price_within c.args.curve.now c.requires.limited c.args.pen.at span.end span (omega (arith, ints)) c.requires.block
    (same_le span.end) c.requires.costs

pub advance_to_next_cost_block-requires-clause-block : goal.advance_to_next_cost_block-requires-clause-block
advance_to_next_cost_block-requires-clause-block c =
    let cv = c.args.curve.now in
    let f : FitsSigned w64 c.args.pen.span.end = search rules in
    let written = c.write_piece-written.result in
    subst (λ (z : Span). IsInBlock cv written.at z) (sym c.write_piece-written.ensures.span)
    (in_block_at cv c.args.pen.at c.args.pen.span c.requires.block written.at (omega (arith, ints)))

pub advance_to_next_cost_block-requires-clause-passed : goal.advance_to_next_cost_block-requires-clause-passed
advance_to_next_cost_block-requires-clause-passed c =
    let f : FitsSigned w64 c.args.pen.span.end = search rules in
    let e = ap (λ (z : Span). z.end) c.write_piece-written.ensures.span in
    omega (arith, ints, e)

pub advance_to_next_cost_block-requires-clause-more : goal.advance_to_next_cost_block-requires-clause-more
advance_to_next_cost_block-requires-clause-more c =
    let e = ap (λ (z : Span). z.index) c.write_piece-written.ensures.span in
    let m = c.requires.more in
    omega (arith, e, m)

pub returns-then-pen-clause-drawn : goal.returns-then-pen-clause-drawn
returns-then-pen-clause-drawn c = λ f lo end short line d.
    let cv = c.args.curve.now in
    let pen = c.args.pen in
    let stop = pen.span.end in
    let fe : FitsSigned w64 stop = search rules in
    let es = to_z-of_z w64 c.args.slope c.ranges.slope in
    let eb = to_z-of_z w64 stop fe in
    let part = line_part f pen.at end c.args.slope pen.at stop line (omega (arith, ints)) (omega (arith, ints))
    (omega (arith, ints)) in
    let sum = line_sum f (cost_at cv) pen.at stop c.args.slope pen.span.price part
    (cost_in cv c.requires.limited pen.at stop pen.span (omega (arith, ints)) c.requires.block (same_le stop))
    in
    let w = (rw (es, eb) at c.write_piece-written.ensures.drawn) (with_cost f cv) lo sum d in
    drawn_same (with_cost f cv) lo _ c.write_piece-written.result _ w c.advance_to_next_cost_block.ensures.same.1
    c.advance_to_next_cost_block.ensures.same.0

pub returns-then-pen-clause-block : goal.returns-then-pen-clause-block
returns-then-pen-clause-block c = rw (c.advance_to_next_cost_block.ensures.same.0)
    c.advance_to_next_cost_block.ensures.block

pub returns-then-pen-clause-next : goal.returns-then-pen-clause-next
returns-then-pen-clause-next c =
    let a = c.advance_to_next_cost_block.ensures.next in
    let b = ap (λ (z : Span). z.index) c.write_piece-written.ensures.span in
    omega (arith, a, b)

pub returns-then-pen-clause-used : goal.returns-then-pen-clause-used
returns-then-pen-clause-used c =
    let a = c.advance_to_next_cost_block.ensures.same.1 in
    let b = c.write_piece-written.ensures.used in
    omega (arith, a, b)

pub returns-then-pen-clause-at : goal.returns-then-pen-clause-at
returns-then-pen-clause-at c =
    let f : FitsSigned w64 c.args.pen.span.end = search rules in
    omega (arith, ints, clamps)

pub advance_to_next_cost_block-requires-2-clause-passed : goal.advance_to_next_cost_block-requires-2-clause-passed
advance_to_next_cost_block-requires-2-clause-passed c = omega (arith, ints)

pub returns-clause-drawn : goal.returns-clause-drawn
returns-clause-drawn c = λ f lo end short line d.
    drawn_same (with_cost f c.args.curve.now) lo _ c.args.pen _ d c.advance_to_next_cost_block-2.ensures.same.1
    c.advance_to_next_cost_block-2.ensures.same.0

pub returns-clause-block : goal.returns-clause-block
returns-clause-block c = rw (c.advance_to_next_cost_block-2.ensures.same.0) c.advance_to_next_cost_block-2.ensures.block

pub returns-clause-used : goal.returns-clause-used
returns-clause-used c =
    let a = c.advance_to_next_cost_block-2.ensures.same.1 in
    omega (arith, a)

pub returns-clause-at : goal.returns-clause-at
returns-clause-at c =
    omega (arith, ints, clamps)
