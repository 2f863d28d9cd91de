use Rattle.slope_list.proofs.Common.{◌≡◌, refl, sym, subst, arith, rules, to_z, of_z, FitsSigned, ℤ, pos, ◌+ℤ◌, ◌*ℤ◌}
use Rattle.slope_list.proofs.Common.{◌≤ℤ◌, ◌<ℤ◌, w64, int_min, ints, clamps, to_z-of_z, IsInBlock, kinked, moved, paid}
use Rattle.slope_list.proofs.Lemmas.{gentle_slope, cursor_in, flat_at, line_level_to, line_sum, line_product}
use Rattle.slope_list.proofs.Lemmas.{fewer_flat, same_line, fits_sum, up_coded}
use Rattle.slope_list.proofs.progress.write_flat_part.Goals as goal
use Rattle.slope_list.proofs.progress.write_flat_part.Goals.{After-min-end}

pub cursor_past_flat_piece-cursor-requires-clause-turn : goal.cursor_past_flat_piece-cursor-requires-clause-turn
cursor_past_flat_piece-cursor-requires-clause-turn c =
    let w = c.args.window.now in
    flat_at w.step.ramp_up w.step.ramp_down w.turn c.args.from.pen.at c.args.from.cursor.at
    w.valid.fair.ramp_up.at_least w.valid.fair.ramp_down.at_least c.requires.near c.requires.turn c.requires.short

pub overflow_add-cursor : goal.overflow_add-cursor
overflow_add-cursor c =
    let w = c.args.window.now in
    fits_sum c.cursor_past_flat_piece-cursor.result.at w.step.ramp_up
    (cursor_in w c.cursor_past_flat_piece-cursor.result c.cursor_past_flat_piece-cursor.ensures.placed).out
    w.valid.fair.ramp_up

-- where the flat part ends
record Stop (c : After-min-end) : Type 0 where
  coded : to_z w64 (of_z w64 c.min-end.result) ≡ c.min-end.result
  is : c.min-end.result ≡ int_min (c.cursor_past_flat_piece-cursor.result.at +ℤ c.args.window.now.step.ramp_up)
      c.args.window.now.high
  turn : c.args.from.cursor.at ≡ c.args.window.now.turn
  later : c.args.from.cursor.at ≤ℤ c.cursor_past_flat_piece-cursor.result.at
  rise : c.args.from.pen.at <ℤ c.min-end.result

stop : (c : After-min-end) → Stop c
stop c =
    let w = c.args.window.now in
    let then = c.cursor_past_flat_piece-cursor.result in
    let f : FitsSigned w64 c.min-end.result = search rules in
    let g : FitsSigned w64 w.high = search rules in
    let flat = c.cursor_past_flat_piece-cursor.ensures.flat.from in
    let is : c.min-end.result ≡ int_min (then.at +ℤ w.step.ramp_up) w.high =
    rw (
      up_coded then.at w.step.ramp_up (cursor_in w then c.cursor_past_flat_piece-cursor.ensures.placed).out
          w.valid.fair.ramp_up,
      to_z-of_z w64 w.high g,
    ) at c.min-end.ensures.value in
    let short = c.requires.short in
    let high = c.requires.high in
    record {
      coded = to_z-of_z w64 c.min-end.result f;
      is = is;
      turn = flat_at w.step.ramp_up w.step.ramp_down w.turn c.args.from.pen.at c.args.from.cursor.at
          w.valid.fair.ramp_up.at_least w.valid.fair.ramp_down.at_least c.requires.near c.requires.turn
          c.requires.short;
      later = flat;
      rise = omega (arith, ints, clamps);
    }

pub write_part_over_cost_blocks-requires-clause-rise : goal.write_part_over_cost_blocks-requires-clause-rise
write_part_over_cost_blocks-requires-clause-rise c =
    let s = stop (goal.at.write_part_over_cost_blocks-requires-clause-rise c).After-min-end in
    rw s.coded s.rise

pub write_part_over_cost_blocks-requires-clause-costs : goal.write_part_over_cost_blocks-requires-clause-costs
write_part_over_cost_blocks-requires-clause-costs c = λ x from to.
    let s = stop (goal.at.write_part_over_cost_blocks-requires-clause-costs c).After-min-end in
    let coded = s.coded in
    let is = s.is in
    c.requires.costs x from (omega (arith, ints, clamps))

pub write_part_over_cost_blocks-requires-clause-total : goal.write_part_over_cost_blocks-requires-clause-total
write_part_over_cost_blocks-requires-clause-total c =
    let g = gentle_slope c.args.window.now in
    record { at_least = omega (arith, ints); at_most = omega (arith, ints) }

pub returns : goal.returns
returns c =
    let w = c.args.window.now in
    let cv = c.args.curve.now in
    let from = c.args.from in
    let then = c.cursor_past_flat_piece-cursor.result in
    let s = stop (goal.at.returns c).After-min-end in
    let end = c.min-end.result in
    let is = s.is in
    let later = s.later in
    let rise = s.rise in
    let turn = s.turn in
    let up = w.valid.fair.ramp_up.at_least in
    let down = w.valid.fair.ramp_down.at_least in
    let at : c.write_part_over_cost_blocks.result.at ≡ end = rw s.coded at c.write_part_over_cost_blocks.ensures.at in
    let slope : to_z w64 (of_z w64 w.step.slope) ≡ w.step.slope =
    (let f : FitsSigned w64 w.step.slope = search rules in to_z-of_z w64 w.step.slope f) in
    let level = line_level_to (kinked w.start w.pieces.now w.step) w.turn w.step.ramp_up w.step.ramp_down from.pen.at
    from.cursor.at then.at end up down c.requires.near s.turn c.cursor_past_flat_piece-cursor.ensures.flat rise
    (omega (arith, ints, clamps)) in
    let line = line_sum (moved w.start w.pieces.now w.step w.turn) (λ x. w.step.slope *ℤ x) from.pen.at end (pos 0)
    w.step.slope level (line_product w.step.slope from.pen.at end rise) in
    record {
      drawn = λ lo d. (rw (s.coded, slope) at c.write_part_over_cost_blocks.ensures.drawn)
          (paid w.start w.pieces.now w.step w.turn) lo
          (same_line (paid w.start w.pieces.now w.step w.turn) from.pen.at end (pos 0 +ℤ w.step.slope) from.pen.at end
          w.step.slope refl refl (omega (arith, ints)) line) d;
      placed = c.cursor_past_flat_piece-cursor.ensures.placed;
      near = λ h. omega (arith, ints, clamps);
      rise = omega (arith, ints);
      high = omega (arith, ints, clamps);
      block = subst (λ (z : ℤ). IsInBlock cv z c.write_part_over_cost_blocks.result.span) (sym at)
          (rw s.coded at c.write_part_over_cost_blocks.ensures.block);
      used = (let u = c.write_part_over_cost_blocks.ensures.used in let n =
          c.cursor_past_flat_piece-cursor.ensures.next in omega arith);
      fewer = λ h. fewer_flat w.step w.turn from.cursor.at from.pen.at then.at c.write_part_over_cost_blocks.result.at
          later
          c.requires.short
          (omega (arith, ints, clamps));
    }
