use Rattle.slope_list.proofs.Common.{◌≡◌, ◌∙◌, arith, rules, to_z, of_z, FitsSigned, ◌-ℤ◌, ◌<ℤ◌, ◌≤ℤ◌, w64, ints}
use Rattle.slope_list.proofs.Common.{to_z-of_z}
use Rattle.slope_list.proofs.Lemmas.{cursor_coded, turn_coded, high_near, last_coded, before_both, run_falls, run_rises}
use Rattle.slope_list.proofs.run.next_run_of_pieces.Goals as goal

pub overflow_add-last : goal.overflow_add-last
overflow_add-last c =
    let w = c.args.window.now in
    let p = cursor_coded w c.args.cursor c.requires.placed in
    let t = turn_coded w c.args.cursor c.requires.placed in
    let falls = c.requires.falls (omega (arith, ints)) in
    let h = high_near w c.args.cursor c.requires.placed (omega (arith, ints)) in
    omega (arith, ints)

pub returns-then-cursor-window-clause-down : goal.returns-then-cursor-window-clause-down
returns-then-cursor-window-clause-down c = λ falls.
    let w = c.args.window.now in
    let most = w.valid.fair.ramp_down.at_most in
    let least = w.valid.fair.ramp_down.at_least in
    let e = c.run_less_reserve.ensures.shift in
    omega (arith, ints)

pub returns-then-cursor-window-clause-run : goal.returns-then-cursor-window-clause-run
returns-then-cursor-window-clause-run c =
    let w = c.args.window.now in
    let p = cursor_coded w c.args.cursor c.requires.placed in
    let t = turn_coded w c.args.cursor c.requires.placed in
    let falls : c.args.cursor.at <ℤ w.turn = omega (arith, ints) in
    let short = c.requires.falls falls in
    let f : FitsSigned w64 c.min.result = search rules in
    let g : FitsSigned w64 w.step.slope = search rules in
    let high = last_coded w c.args.cursor c.requires.placed (omega (arith, ints)) in
    let is = to_z-of_z w64 c.min.result f ∙ (rw (high, t) at c.min.ensures.value) in
    run_falls w c.args.cursor.at (to_z w64 (of_z w64 c.min.result)) c.run_less_reserve.result
    (rw (to_z-of_z w64 w.step.slope g) at c.run_less_reserve.ensures.lowered) (before_both _ _ _ _ short falls is) falls
    is
    (returns-then-cursor-window-clause-down c falls)

pub overflow_sub-rising : goal.overflow_sub-rising
overflow_sub-rising c =
    let w = c.args.window.now in
    let p = cursor_coded w c.args.cursor c.requires.placed in
    let t = turn_coded w c.args.cursor c.requires.placed in
    let rises = c.requires.rises (omega (arith, ints)) in
    let up = w.valid.fair.ramp_up.at_least in
    let down = w.valid.fair.ramp_down.at_least in
    let h = high_near w c.args.cursor c.requires.placed (omega (arith, ints)) in
    omega (arith, ints)

pub returns-clause-run : goal.returns-clause-run
returns-clause-run c =
    let w = c.args.window.now in
    let p = cursor_coded w c.args.cursor c.requires.placed in
    let t = turn_coded w c.args.cursor c.requires.placed in
    let rises : w.turn ≤ℤ c.args.cursor.at = omega (arith, ints) in
    let long = c.requires.rises rises in
    let up = w.valid.fair.ramp_up.at_least in
    let most = w.valid.fair.ramp_up.at_most in
    let down = w.valid.fair.ramp_down.at_least in
    let h = high_near w c.args.cursor c.requires.placed (omega (arith, ints)) in
    let until = to_z w64 (of_z w64 (to_z w64 (of_z w64 w.high) -ℤ to_z w64 (of_z w64 w.step.ramp_up))) in
    let is : until ≡ w.high -ℤ w.step.ramp_up = omega (arith, ints) in
    let shift : c.run_less_reserve-2.result.shift ≡ w.step.ramp_up =
    (let e = c.run_less_reserve-2.ensures.shift in omega (arith, ints)) in
    let es : to_z w64 (of_z w64 w.step.slope) ≡ w.step.slope =
    (let f : FitsSigned w64 w.step.slope = search rules in to_z-of_z w64 w.step.slope f) in
    run_rises w c.args.cursor.at until c.run_less_reserve-2.result (rw es at c.run_less_reserve-2.ensures.lowered)
    (omega (arith, ints)) rises
    is shift
