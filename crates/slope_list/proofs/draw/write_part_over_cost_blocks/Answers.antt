use Rattle.slope_list.proofs.Common.{arith, ap, sym, subst, w64, ints, clamps, to_z-of_z, Span, IsInBlock, cost_at}
use Rattle.slope_list.proofs.Common.{with_cost}
use Rattle.slope_list.proofs.Lemmas.{line_part, line_sum, wide_of, on_curve, block_more, in_block_at, cost_in}
use Rattle.slope_list.proofs.Lemmas.{price_within}
use Rattle.slope_list.proofs.draw.write_part_over_cost_blocks.Goals as goal

pub loop-pen-init : goal.loop-pen-init
loop-pen-init c =
    let ee = to_z-of_z w64 c.args.end c.ranges.end in
    record {
      low = omega (arith, ints);
      high = omega (arith, ints);
      block = c.requires.block;
      drawn = λ f lo line d. d;
      used = omega arith;
    }

pub write_piece_to_cost_block_end-pen-requires-clause-block :
    goal.write_piece_to_cost_block_end-pen-requires-clause-block
write_piece_to_cost_block_end-pen-requires-clause-block c = c.loop-pen.invariant.block

pub write_piece_to_cost_block_end-pen-requires-clause-costs :
    goal.write_piece_to_cost_block_end-pen-requires-clause-costs
write_piece_to_cost_block_end-pen-requires-clause-costs c =
    λ x from to. c.requires.costs x (omega (arith, ints)) (omega (arith, ints))

pub write_piece_to_cost_block_end-pen-requires-clause-total :
    goal.write_piece_to_cost_block_end-pen-requires-clause-total
write_piece_to_cost_block_end-pen-requires-clause-total c = rw (to_z-of_z w64 c.args.slope c.ranges.slope)
    c.requires.total

pub write_piece_to_cost_block_end-pen-requires-clause-more : goal.write_piece_to_cost_block_end-pen-requires-clause-more
write_piece_to_cost_block_end-pen-requires-clause-more c =
    let cv = c.args.curve.now in
    let k = c.requires.costs c.args.end (omega (arith, ints)) (omega (arith, ints)) in
    block_more cv c.loop-pen.pen.at c.loop-pen.pen.span c.args.end c.loop-pen.invariant.block (omega (arith, ints))
    (on_curve cv c.args.end k.0 (wide_of cv c.requires.limited) k.1)

pub write_piece_to_cost_block_end-pen-requires-clause-room : goal.write_piece_to_cost_block_end-pen-requires-clause-room
write_piece_to_cost_block_end-pen-requires-clause-room c =
    let cv = c.args.curve.now in
    let k = c.requires.costs c.args.end (omega (arith, ints)) (omega (arith, ints)) in
    let m = block_more cv c.loop-pen.pen.at c.loop-pen.pen.span c.args.end c.loop-pen.invariant.block
    (omega (arith, ints)) (on_curve cv c.args.end k.0 (wide_of cv c.requires.limited) k.1) in
    omega arith

pub loop-pen-smaller : goal.loop-pen-smaller
loop-pen-smaller c =
    omega arith

pub loop-pen-preserved : goal.loop-pen-preserved
loop-pen-preserved c =
    let was = c.loop-pen.invariant in
    let es = to_z-of_z w64 c.args.slope c.ranges.slope in
    let ee = to_z-of_z w64 c.args.end c.ranges.end in
    let at = c.write_piece_to_cost_block_end-pen.ensures.at in
    let low = was.low in
    let high = was.high in
    let written = rw es at c.write_piece_to_cost_block_end-pen.ensures.drawn in
    record {
      low = omega (arith, ints, clamps);
      high = omega (arith, ints, clamps);
      block = c.write_piece_to_cost_block_end-pen.ensures.block;
      drawn = rw (es, ee) (λ f lo line d.
          written f lo c.args.end (omega (arith, ints))
          (line_part f c.args.from.at c.args.end c.args.slope c.loop-pen.pen.at c.args.end line
          (omega (arith, ints)) (omega (arith, ints)) (omega (arith, ints)))
          ((rw (es, ee) at was.drawn) f lo line d));
      used = omega arith;
    }

pub write_piece-requires-clause-total : goal.write_piece-requires-clause-total
write_piece-requires-clause-total c = rw (to_z-of_z w64 c.args.slope c.ranges.slope) c.requires.total

pub write_piece-requires-clause-price : goal.write_piece-requires-clause-price
write_piece-requires-clause-price c =
    let was = c.loop-pen.invariant in
    price_within c.args.curve.now c.requires.limited c.loop-pen.pen.at c.args.end c.loop-pen.pen.span
    (omega (arith, ints)) was.block (omega (arith, ints)) (λ x from to. c.requires.costs x (omega (arith, ints)) to)

pub write_piece-requires-clause-room : goal.write_piece-requires-clause-room
write_piece-requires-clause-room c =
    omega arith

pub returns-clause-drawn : goal.returns-clause-drawn
returns-clause-drawn c = λ f lo line d.
    let cv = c.args.curve.now in
    let pen = c.loop-pen.pen in
    let was = c.loop-pen.invariant in
    let es = to_z-of_z w64 c.args.slope c.ranges.slope in
    let ee = to_z-of_z w64 c.args.end c.ranges.end in
    let part = line_part f c.args.from.at c.args.end c.args.slope pen.at c.args.end line (omega (arith, ints))
    (omega (arith, ints)) (omega (arith, ints)) in
    let sum = line_sum f (cost_at cv) pen.at c.args.end c.args.slope pen.span.price part
    (cost_in cv c.requires.limited pen.at c.args.end pen.span (omega (arith, ints)) was.block
    (omega (arith, ints))) in
    (rw (es, ee) at c.write_piece.ensures.drawn) (with_cost f cv) lo sum ((rw (es, ee) at was.drawn) f lo line d)

pub returns-clause-at : goal.returns-clause-at
returns-clause-at c = let a = c.write_piece.ensures.at in omega (arith, ints)

pub returns-clause-block : goal.returns-clause-block
returns-clause-block c =
    let cv = c.args.curve.now in
    let was = c.loop-pen.invariant in
    subst (λ (z : Span). IsInBlock cv c.args.end z) (sym c.write_piece.ensures.span)
    (in_block_at cv c.loop-pen.pen.at c.loop-pen.pen.span was.block c.args.end (omega (arith, ints)))

pub returns-clause-used : goal.returns-clause-used
returns-clause-used c =
    let e = ap (λ (z : Span). z.index) c.write_piece.ensures.span in
    omega (arith, e)
