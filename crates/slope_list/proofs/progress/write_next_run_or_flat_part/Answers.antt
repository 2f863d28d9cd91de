use Rattle.slope_list.proofs.Common.{arith, rules, ints, ◌<ℤ◌, ◌≤ℤ◌, FitsSigned, w64, to_z-of_z, by_lt_z}
use Rattle.slope_list.proofs.Lemmas.{falling_at, rising_at}
use Rattle.slope_list.proofs.progress.write_next_run_or_flat_part.Goals as goal

pub write_flat_part-requires-clause-short : goal.write_flat_part-requires-clause-short
write_flat_part-requires-clause-short c =
    let f : FitsSigned w64 c.args.progress.pen.at = search rules in
    rw (to_z-of_z w64 c.args.progress.pen.at f) at (c.is_in_flat_part.ensures.flat c.if-is_in_flat_part.true).1

pub next_run_of_pieces-run-requires-clause-falls : goal.next_run_of_pieces-run-requires-clause-falls
next_run_of_pieces-run-requires-clause-falls c = λ falls.
    let w = c.args.window.now in
    let at = falling_at w.step.ramp_up w.step.ramp_down w.turn c.args.progress.pen.at c.args.progress.cursor.at
    w.valid.fair.ramp_up.at_least w.valid.fair.ramp_down.at_least c.requires.near falls in
    let high = c.requires.high in
    omega (arith, ints)

pub next_run_of_pieces-run-requires-clause-rises : goal.next_run_of_pieces-run-requires-clause-rises
next_run_of_pieces-run-requires-clause-rises c = λ rises.
    let f : FitsSigned w64 c.args.progress.pen.at = search rules in
    let long = rw (to_z-of_z w64 c.args.progress.pen.at f) at (c.is_in_flat_part.ensures.not_flat
    c.if-is_in_flat_part.false rises) in
    let high = c.requires.high in
    omega (arith, ints)

pub write_run_of_pieces-requires-clause-at : goal.write_run_of_pieces-requires-clause-at
write_run_of_pieces-requires-clause-at c =
    let w = c.args.window.now in
    let progress = c.args.progress in
    let is_up = w.valid.fair.ramp_up.at_least in
    let is_down = w.valid.fair.ramp_down.at_least in
    let f : FitsSigned w64 progress.pen.at = search rules in
    let ea = to_z-of_z w64 progress.pen.at f in
    by_lt_z progress.cursor.at w.turn
    (λ (falls : progress.cursor.at <ℤ w.turn).
    let at = falling_at w.step.ramp_up w.step.ramp_down w.turn progress.pen.at progress.cursor.at is_up is_down
    c.requires.near
    falls in
    let down = c.next_run_of_pieces-run.ensures.down falls in
    omega (arith, ints))
    (λ (rises : w.turn ≤ℤ progress.cursor.at).
    let at = rising_at w.step.ramp_up w.step.ramp_down w.turn progress.pen.at progress.cursor.at is_up is_down
    c.requires.near
    (rw ea at (c.is_in_flat_part.ensures.not_flat c.if-is_in_flat_part.false rises)) in
    let up = c.next_run_of_pieces-run.ensures.up rises in
    omega (arith, ints))
