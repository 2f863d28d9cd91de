use Rattle.slope_list.proofs.Common.{arith, rules, FitsSigned, w64, ints, to_z-of_z}
use Rattle.slope_list.proofs.Lemmas.{kinked_falls, placed_within, valley_here, valley_end, falls_on}
use Rattle.slope_list.proofs.kink.power_of_least_value_less_reserve.Goals as goal

pub loop-cursor-init : goal.loop-cursor-init
loop-cursor-init c = record {
  placed = c.end_of_fall-cursor.ensures.placed;
  falls = λ x low high. kinked_falls c.args.start c.args.pieces.now c.args.step c.requires.fair x
      (c.end_of_fall-cursor.ensures.valley.falls x low high);
}

pub part_less_reserve-part-requires-clause-to : goal.part_less_reserve-part-requires-clause-to
part_less_reserve-part-requires-clause-to c = c.loop-cursor.invariant.placed.to (omega arith)

pub loop-cursor-preserved : goal.loop-cursor-preserved
loop-cursor-preserved c =
    let was = c.loop-cursor.invariant in
    let line = c.part_less_reserve-part.ensures.line c.args.start c.requires.slopes was.placed in
    record {
      placed = c.part_less_reserve-part.ensures.placed c.args.start.first c.requires.slopes was.placed;
      falls = λ x low high.
          falls_on c.args.start c.args.pieces.now c.args.step c.requires.fair c.requires.slopes c.loop-cursor.cursor
          was.placed was.falls
          c.part_less_reserve-part.result.end c.part_less_reserve-part.result.slope line (omega (arith, ints)) x low
          (omega (arith, ints));
    }

pub returns-then-part-ge0 : goal.returns-then-part-ge0
returns-then-part-ge0 c =
    let was = c.loop-cursor.invariant in
    let line = c.part_less_reserve-part.ensures.line c.args.start c.requires.slopes was.placed in
    let next = c.part_less_reserve-part.ensures.placed c.args.start.first c.requires.slopes was.placed in
    let within =
    (placed_within c.args.start.first c.args.pieces.now c.part_less_reserve-part.result.then c.requires.slopes
    next).1 in
    let f : FitsSigned w64 c.loop-cursor.cursor.at = search rules in
    rw (to_z-of_z w64 c.loop-cursor.cursor.at f)
    (valley_here c.args.start c.args.pieces.now c.args.step c.requires.fair c.requires.slopes c.loop-cursor.cursor
    was.placed was.falls
    c.part_less_reserve-part.result.end c.part_less_reserve-part.result.slope line (omega (arith, ints))
    (omega (arith, ints)))

pub returns : goal.returns
returns c =
    let was = c.loop-cursor.invariant in
    let f : FitsSigned w64 c.loop-cursor.cursor.at = search rules in
    rw (to_z-of_z w64 c.loop-cursor.cursor.at f)
    (valley_end c.args.start c.args.pieces.now c.args.step c.requires.fair c.requires.slopes c.loop-cursor.cursor
    was.placed was.falls (omega arith))
