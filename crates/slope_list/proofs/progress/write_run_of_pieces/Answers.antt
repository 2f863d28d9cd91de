use Rattle.slope_list.proofs.Common.{◌≡◌, refl, subst, sym, ◌+◌, ◌<◌, length, arith, rules, to_z, of_z, FitsSigned, ℤ}
use Rattle.slope_list.proofs.Common.{◌+ℤ◌, ◌<ℤ◌, ◌≤ℤ◌, w64, ints, to_z-of_z, piece, paid, IsInBlock}
use Rattle.slope_list.proofs.Lemmas.{same_le, test_true, test_false, same_line, placed_after, placed_inside}
use Rattle.slope_list.proofs.Lemmas.{before_moved, run_power, run_line, run_placed, IsEnded, run_ended}
use Rattle.slope_list.proofs.progress.write_run_of_pieces.Goals as goal
use Rattle.slope_list.proofs.progress.write_run_of_pieces.Goals.{then-loop-cursor-test+else-pieces-cursor}
use Rattle.slope_list.proofs.progress.write_run_of_pieces.Goals.{else-loop-cursor-test}
use Rattle.slope_list.proofs.progress.write_run_of_pieces.Goals.{Then-pen-run, then-pen-run, else-pen-run}

-- ---- a whole piece

pub write_run_piece-pen-requires-clause-rise : goal.write_run_piece-pen-requires-clause-rise
write_run_piece-pen-requires-clause-rise c =
    let was = c.loop-cursor.invariant in
    let at = was.at in
    let to = was.placed.to c.loop-cursor-test.true in
    omega (arith, ints)

pub write_run_piece-pen-requires-clause-costs : goal.write_run_piece-pen-requires-clause-costs
write_run_piece-pen-requires-clause-costs c = λ x from to.
    let was = c.loop-cursor.invariant in
    let at = was.at in
    let low = was.low in
    let high = c.requires.run.high in
    let begins = c.requires.at in
    let f : FitsSigned w64 (piece c.args.window.now.pieces.now c.loop-cursor.cursor.next).end = search rules in
    c.requires.costs x (omega (arith, ints)) (omega (arith, ints))

pub write_run_piece-pen-requires-clause-power : goal.write_run_piece-pen-requires-clause-power
write_run_piece-pen-requires-clause-power c =
    let was = c.loop-cursor.invariant in
    let cursor = c.loop-cursor.cursor in
    let to = was.placed.to c.loop-cursor-test.true in
    let end = (piece c.args.window.now.pieces.now cursor.next).end in
    let f : FitsSigned w64 end = search rules in
    run_power c.args.window.now c.args.from.cursor.at c.args.run c.requires.run cursor was.placed was.low end
    (omega (arith, ints)) (omega (arith, ints))

pub write_run_piece-pen-requires-clause-gentle : goal.write_run_piece-pen-requires-clause-gentle
write_run_piece-pen-requires-clause-gentle c =
    c.args.window.now.valid.gentle c.loop-cursor.cursor.next c.loop-cursor-test.true

pub loop-cursor-preserved : goal.loop-cursor-preserved
loop-cursor-preserved c =
    let was = c.loop-cursor.invariant in
    let w = c.args.window.now in
    let run = c.args.run in
    let cursor = c.loop-cursor.cursor in
    let end = (piece w.pieces.now cursor.next).end in
    let slope = (piece w.pieces.now cursor.next).slope in
    let to = was.placed.to c.loop-cursor-test.true in
    let low = was.low in
    let f : FitsSigned w64 end = search rules in
    let ee = to_z-of_z w64 end f in
    let at : c.write_run_piece-pen.result.at ≡ end +ℤ run.shift = c.write_run_piece-pen.ensures.at in
    let upto : end ≤ℤ run.until = omega (arith, ints) in
    let line = run_line w c.args.from.cursor.at run c.requires.run cursor was.placed low end c.loop-cursor-test.true to
    (same_le end) upto in
    record {
      placed = placed_after w.start.first w.pieces.now cursor.next
          (record { at = to_z w64 (of_z w64 end); next = cursor.next + 1 }) w.valid.slopes c.loop-cursor-test.true ee
          (omega arith);
      low = rw ee (omega (arith, ints));
      until = rw ee upto;
      at = rw ee at;
      block = subst (λ (z : ℤ). IsInBlock c.args.curve.now z c.write_run_piece-pen.result.span) (sym at)
          c.write_run_piece-pen.ensures.block;
      drawn = λ lo d. c.write_run_piece-pen.ensures.drawn (paid w.start w.pieces.now w.step w.turn) lo
          (same_line (paid w.start w.pieces.now w.step w.turn) (cursor.at +ℤ run.shift) (end +ℤ run.shift)
          (slope +ℤ run.slope) c.loop-cursor.pen.at (end +ℤ run.shift) (slope +ℤ run.slope) was.at refl refl line)
          (was.drawn lo d);
      used = (let a = was.used in let b = c.write_run_piece-pen.ensures.used in omega arith);
    }

-- ---- what is left of the last piece

pub overflow_add-run : goal.overflow_add-run
overflow_add-run c =
    let was = c.loop-cursor.invariant in
    let p = run_power c.args.window.now c.args.from.cursor.at c.args.run c.requires.run c.loop-cursor.cursor was.placed
    was.low c.args.run.until was.until (same_le c.args.run.until) in
    let a = p.0 in
    let b = p.1 in
    omega (arith, ints)

-- the pen is before the end
record Cut (c : Then-pen-run) : Type 0 where
  before : c.loop-cursor.cursor.at <ℤ c.args.run.until
  inside : c.loop-cursor.cursor.next < length c.args.window.now.pieces.now

cut : (c : Then-pen-run) → Cut c
cut c =
    let was = c.loop-cursor.invariant in
    let w = c.args.window.now in
    let at = was.at in
    let last = c.requires.run.last in
    let p = run_power w c.args.from.cursor.at c.args.run c.requires.run c.loop-cursor.cursor was.placed was.low
    c.args.run.until was.until (same_le c.args.run.until) in
    let a = p.0 in
    let b = p.1 in
    let before : c.loop-cursor.cursor.at <ℤ c.args.run.until = omega (arith, ints) in
    record {
      before = before;
      inside =
          placed_inside w.start.first w.pieces.now c.loop-cursor.cursor was.placed (omega (arith, ints));
    }

pub bounds-pieces-cursor-then-pen-run : goal.bounds-pieces-cursor-then-pen-run
bounds-pieces-cursor-then-pen-run c = (cut (goal.at.bounds-pieces-cursor-then-pen-run c).Then-pen-run).inside

pub write_run_piece-pen-requires-then-pen-run-clause-rise : goal.write_run_piece-pen-requires-then-pen-run-clause-rise
write_run_piece-pen-requires-then-pen-run-clause-rise c =
    let was = c.loop-cursor.invariant in
    let p = run_power c.args.window.now c.args.from.cursor.at c.args.run c.requires.run c.loop-cursor.cursor was.placed
    was.low c.args.run.until was.until (same_le c.args.run.until) in
    let a = p.0 in
    let b = p.1 in
    omega (arith, ints)

pub write_run_piece-pen-requires-then-pen-run-clause-costs : goal.write_run_piece-pen-requires-then-pen-run-clause-costs
write_run_piece-pen-requires-then-pen-run-clause-costs c = λ x from to.
    let was = c.loop-cursor.invariant in
    let at = was.at in
    let low = was.low in
    let high = c.requires.run.high in
    let begins = c.requires.at in
    let f : FitsSigned w64 c.args.run.until = search rules in
    c.requires.costs x (omega (arith, ints)) (omega (arith, ints))

pub write_run_piece-pen-requires-then-pen-run-clause-power : goal.write_run_piece-pen-requires-then-pen-run-clause-power
write_run_piece-pen-requires-then-pen-run-clause-power c =
    let was = c.loop-cursor.invariant in
    let f : FitsSigned w64 c.args.run.until = search rules in
    rw (to_z-of_z w64 c.args.run.until f)
    (run_power c.args.window.now c.args.from.cursor.at c.args.run c.requires.run c.loop-cursor.cursor was.placed was.low
    c.args.run.until was.until (same_le c.args.run.until))

pub write_run_piece-pen-requires-then-pen-run-clause-gentle :
    goal.write_run_piece-pen-requires-then-pen-run-clause-gentle
write_run_piece-pen-requires-then-pen-run-clause-gentle c =
    let w = c.args.window.now in
    let f : FitsSigned w64 (piece w.pieces.now c.loop-cursor.cursor.next).slope = search rules in
    rw (to_z-of_z w64 (piece w.pieces.now c.loop-cursor.cursor.next).slope f)
    (w.valid.gentle c.loop-cursor.cursor.next
    (cut (goal.at.write_run_piece-pen-requires-then-pen-run-clause-gentle c).Then-pen-run).inside)

pub returns : goal.returns
returns c =
    let was = c.loop-cursor.invariant in
    let w = c.args.window.now in
    let cv = c.args.curve.now in
    let run = c.args.run in
    let from = c.args.from in
    let cursor = c.loop-cursor.cursor in
    let slope = (piece w.pieces.now cursor.next).slope in
    let at = was.at in
    let upto = was.until in
    let f : FitsSigned w64 run.until = search rules in
    let eu = to_z-of_z w64 run.until f in
    let fp : FitsSigned w64 c.loop-cursor.pen.at = search rules in
    let p = run_power w from.cursor.at run c.requires.run cursor was.placed was.low run.until upto
    (same_le run.until) in
    let a = p.0 in
    let b = p.1 in
    let end : to_z w64 (of_z w64 (to_z w64 (of_z w64 run.until) +ℤ to_z w64 (of_z w64 run.shift))) ≡ run.until
    +ℤ run.shift = omega (arith, ints) in
    let short : cursor.next < length w.pieces.now → run.until <ℤ (piece w.pieces.now cursor.next).end =
    λ h. elim c.loop-cursor-test.branch [
      | then-loop-cursor-test+else-pieces-cursor k ↦ omega (arith, ints)
      | else-loop-cursor-test k ↦ absurd (omega arith)
    ] in
    let ended : IsEnded w cv run from cursor.next c.args.out.now c.if-pen-run.out c.if-pen-run.pen =
    elim c.if-pen-run.branch [
      | then-pen-run k ↦
          let q = k.write_run_piece-pen-then-pen-run in
          let stop = rw eu at q.ensures.at in
          let test = test_true c.loop-cursor.pen.at (run.until +ℤ run.shift) _ _ (to_z-of_z w64 c.loop-cursor.pen.at fp)
          end k.if-pen-run.true in
          let before = before_moved c.loop-cursor.pen.at cursor.at run.until run.shift at test in
          let last = c.requires.run.last in
          let inside = placed_inside w.start.first w.pieces.now cursor was.placed (omega (arith, ints)) in
          let past = short inside in
          let gentle = w.valid.gentle cursor.next inside in
          let g : FitsSigned w64 slope = omega (arith, ints, gentle.at_least, gentle.at_most) in
          let es = to_z-of_z w64 slope g in
          let line = run_line w from.cursor.at run c.requires.run cursor was.placed was.low run.until inside before
          (omega (arith, ints)) (same_le run.until) in
          rw (k.pen-is, k.out-is)
          (record {
            at = stop;
            block = subst (λ (z : ℤ). IsInBlock cv z q.result.span) (sym stop) (rw eu at q.ensures.block);
            drawn = λ lo d. (rw (eu, es) at q.ensures.drawn) (paid w.start w.pieces.now w.step w.turn) lo
                (same_line (paid w.start w.pieces.now w.step w.turn) (cursor.at +ℤ run.shift) (run.until +ℤ run.shift)
                (slope +ℤ run.slope) c.loop-cursor.pen.at (run.until +ℤ run.shift) (slope +ℤ run.slope) at refl refl
                line) (was.drawn lo d);
            used = (let n = was.used in let m = q.ensures.used in omega arith);
          })
      | else-pen-run k ↦
          let test = test_false c.loop-cursor.pen.at (run.until +ℤ run.shift) _ _
          (to_z-of_z w64 c.loop-cursor.pen.at fp) end k.if-pen-run.false in
          rw (k.pen-is, k.out-is) (record {
            at = omega (arith, ints, test, at, upto);
            block = was.block;
            drawn =
                was.drawn;
            used = (let n = was.used in omega arith);
          })
    ] in
    run_ended w cv run from (record { at = to_z w64 (of_z w64 run.until); next = cursor.next }) c.args.out.now
    c.if-pen-run.out c.if-pen-run.pen c.requires.run c.requires.at
    (run_placed w from.cursor.at run c.requires.run cursor was.placed was.low (to_z w64 (of_z w64 run.until)) eu upto
    short) eu ended
