use Rattle.slope_list.proofs.Common.{ap, ◌∙◌, arith, ◌<ℤ◌, ints, end_at}
use Rattle.slope_list.proofs.Lemmas.{runs_most, nearer, le_lt}
use Rattle.slope_list.proofs.progress.write_pieces_after_step.Goals as goal

pub loop-progress-init : goal.loop-progress-init
loop-progress-init c =
    let w = c.args.window.now in
    let most = runs_most w.step w.turn c.args.near.at c.args.from.at in
    let begins = c.requires.begins in
    record {
      placed = c.requires.placed;
      near = λ h. c.requires.near;
      low = omega (arith, ints);
      high = c.requires.high;
      block = c.requires.block;
      drawn = record {
        pieces = λ k h. absurd (omega arith);
        meets = ap (end_at c.args.from.at c.args.out.now) {x = c.args.from.used} {y = 0} begins;
      };
      runs = λ h. omega arith;
      used = omega arith;
    }

pub write_next_run_or_flat_part-progress-requires-clause-costs :
    goal.write_next_run_or_flat_part-progress-requires-clause-costs
write_next_run_or_flat_part-progress-requires-clause-costs c = λ x from to. c.requires.costs x (omega (arith, ints)) to

pub write_next_run_or_flat_part-progress-requires-clause-block :
    goal.write_next_run_or_flat_part-progress-requires-clause-block
write_next_run_or_flat_part-progress-requires-clause-block c = c.loop-progress.invariant.block (omega (arith, ints))

pub write_next_run_or_flat_part-progress-requires-clause-near :
    goal.write_next_run_or_flat_part-progress-requires-clause-near
write_next_run_or_flat_part-progress-requires-clause-near c = c.loop-progress.invariant.near (omega (arith, ints))

pub write_next_run_or_flat_part-progress-requires-clause-room :
    goal.write_next_run_or_flat_part-progress-requires-clause-room
write_next_run_or_flat_part-progress-requires-clause-room c =
    let r = c.loop-progress.invariant.runs (omega (arith, ints)) in
    let room = c.requires.room in
    omega arith

pub loop-progress-smaller : goal.loop-progress-smaller
loop-progress-smaller c =
    let e = c.write_next_run_or_flat_part-progress.ensures in
    nearer c.loop-progress.progress.pen.at c.write_next_run_or_flat_part-progress.result.pen.at c.args.window.now.high
    e.rise e.high

pub loop-progress-preserved : goal.loop-progress-preserved
loop-progress-preserved c =
    let was = c.loop-progress.invariant in
    let e = c.write_next_run_or_flat_part-progress.ensures in
    let test : c.loop-progress.progress.pen.at <ℤ c.args.window.now.high = omega (arith, ints) in
    let runs = was.runs test in
    let used = e.used in
    let inside = e.block.inside in
    let some = e.placed.some in
    record {
      placed = e.placed;
      near = e.near;
      low = le_lt c.args.from.at c.loop-progress.progress.pen.at c.write_next_run_or_flat_part-progress.result.pen.at
          was.low e.rise;
      high = e.high;
      block = λ h. e.block;
      drawn = e.drawn c.args.from.at was.drawn;
      runs = λ h. let fewer = e.fewer h in omega arith;
      used = omega arith;
    }

pub returns-clause-drawn : goal.returns-clause-drawn
returns-clause-drawn c = c.loop-progress.invariant.drawn.pieces

pub returns-clause-ends : goal.returns-clause-ends
returns-clause-ends c =
    let m = c.loop-progress.invariant.drawn.meets in
    let high = c.loop-progress.invariant.high in
    m ∙ omega (arith, ints)

pub returns-clause-used : goal.returns-clause-used
returns-clause-used c = c.loop-progress.invariant.used
