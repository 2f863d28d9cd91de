use Rattle.slope_list.proofs.Common.{◌+ℤ◌, arith, w64, ints, to_z-of_z}
use Rattle.slope_list.proofs.Lemmas.{cursor_coded, turn_coded, reach_coded, reach_fits, test_true, test_false}
use Rattle.slope_list.proofs.window.is_in_flat_part.Goals as goal

pub overflow_add-result : goal.overflow_add-result
overflow_add-result c = reach_fits c.args.window.now c.args.cursor c.requires.placed

pub returns-then-window-cursor-clause-flat : goal.returns-then-window-cursor-clause-flat
returns-then-window-cursor-clause-flat c = λ h.
    let w = c.args.window.now in
    let cursor = c.args.cursor in
    let p = cursor_coded w cursor c.requires.placed in
    let t = turn_coded w cursor c.requires.placed in (
      omega (arith, ints),
      test_true c.args.at (cursor.at +ℤ w.step.ramp_up) _ _ (to_z-of_z w64 c.args.at c.ranges.at)
          (reach_coded w cursor c.requires.placed) h,
    )

pub returns-then-window-cursor-clause-not_flat : goal.returns-then-window-cursor-clause-not_flat
returns-then-window-cursor-clause-not_flat c = λ h from.
    let w = c.args.window.now in
    let cursor = c.args.cursor in
    test_false c.args.at (cursor.at +ℤ w.step.ramp_up) _ _ (to_z-of_z w64 c.args.at c.ranges.at)
    (reach_coded w cursor c.requires.placed) h
