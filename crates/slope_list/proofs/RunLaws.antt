-- The runs of a window.
use Rattle.slope_list.proofs.Common.{◌≡◌, ◌+◌, ◌<◌, ◌≤◌, subst, refl, arith, ℤ, neg_ℤ, pos, ◌+ℤ◌, ◌-ℤ◌, ◌*ℤ◌, ◌≤ℤ◌}
use Rattle.slope_list.proofs.Common.{◌<ℤ◌, int_min, ints, clamps, by_lt_z, Cursor, Run, Window, IsFrom, IsLine}
use Rattle.slope_list.proofs.Common.{IsLowered, IsGentle, IsPlaced, kinked, last_power, function_of, moved, paid, IsRun}
use Rattle.slope_list.proofs.Common.{FitsSigned, w64}
use Rattle.slope_list.proofs.LineLaws.{line_sum, line_product}
use Rattle.slope_list.proofs.KinkLaws.{IsLeft, left, left_steep, IsEnd, end_within, end_of_valley}
use Rattle.slope_list.proofs.WrapLaws.{coded, coded_is, output_total, coded_add, up_coded, fits_sum}
use Rattle.slope_list.proofs.WindowLaws.{line_falling, line_rising, fewer_bend, fewer_turn}

pub gentle_slope : (w : Window) → IsGentle w.step.slope
gentle_slope w =
    let s = w.valid.fair.slope in
    let a = s.at_least in
    let b = s.at_most in
    record { at_least = omega (arith, ints); at_most = omega (arith, ints) }

module _ (w : Window) (y until : ℤ) (run : Run)
    (l : IsLowered w.step y (record { end = until; slope = w.step.slope })
    (record { end = run.until; slope = run.slope })) (before : y <ℤ until) where
  here : IsLeft w.step y (record { end = until; slope = w.step.slope }) (record { end = run.until; slope = run.slope })
  here = left w.step w.valid.fair y (record { end = until; slope = w.step.slope })
      (record { end = run.until; slope = run.slope }) before l

  lines_on : ((a b t : ℤ) → y ≤ℤ a → b ≤ℤ until → IsLine (kinked w.start w.pieces.now w.step) a b t →
      IsLine (moved w.start w.pieces.now w.step w.turn) (a +ℤ run.shift) (b +ℤ run.shift) t)
      → (a b t : ℤ) → y ≤ℤ a → b ≤ℤ run.until → IsLine (function_of w.start w.pieces.now) a b t →
      IsLine (paid w.start w.pieces.now w.step w.turn) (a +ℤ run.shift) (b +ℤ run.shift) (t +ℤ run.slope)
  lines_on move a b t from to line =
      let within = here.within in
      let bent = here.lines (function_of w.start w.pieces.now) a b t from to line in
      let on = move a b (t +ℤ (run.slope -ℤ w.step.slope)) from (omega (arith, ints)) bent in
      let rise = on.rise in
      subst (λ (z : ℤ). IsLine (paid w.start w.pieces.now w.step w.turn) (a +ℤ run.shift) (b +ℤ run.shift) z)
      (omega (arith, ints))
      (line_sum (moved w.start w.pieces.now w.step w.turn) (λ x. w.step.slope *ℤ x) (a +ℤ run.shift) (b +ℤ run.shift)
      (t +ℤ (run.slope -ℤ w.step.slope)) w.step.slope on
      (line_product w.step.slope (a +ℤ run.shift) (b +ℤ run.shift) rise))

  pub run_falls : y <ℤ w.turn → until ≡ int_min (w.high +ℤ w.step.ramp_down) w.turn →
      run.shift ≡ neg_ℤ w.step.ramp_down → IsRun w y run
  run_falls falls is shift =
      let up = w.valid.fair.ramp_up.at_least in
      let down = w.valid.fair.ramp_down.at_least in
      let most = w.valid.fair.ramp_down.at_most in
      let rise = here.rise in
      let within = here.within in
      let last = w.valid.valley.to in
      record {
        rise = rise;
        last = omega (arith, ints, clamps);
        high = omega (arith, ints, clamps);
        near = omega (arith, ints, clamps);
        shift = record { at_least = omega (arith, ints); at_most = omega (arith, ints) };
        steep = left_steep w.step w.valid.fair y (record { end = until; slope = w.step.slope })
            (record { end = run.until; slope = run.slope }) before l (gentle_slope w);
        lines = lines_on (λ a b t from to line. line_falling (kinked w.start w.pieces.now w.step) w.turn w.step.ramp_up
            w.step.ramp_down up down a b t (a +ℤ run.shift) (b +ℤ run.shift) line (omega (arith, ints, clamps))
            (omega (arith, ints)) (omega (arith, ints)));
        fewer = λ short. by_lt_z run.until until
            (λ (h : run.until <ℤ until). let b = here.bent h in
            fewer_bend w.step w.turn y (y +ℤ run.shift) run.until (run.until +ℤ run.shift) (omega (arith, ints))
            run.shift refl refl b.0 b.1)
            (λ (h : until ≤ℤ run.until). fewer_turn w.step w.turn y (y +ℤ run.shift) run.until (run.until +ℤ run.shift)
            (omega (arith, ints)) run.shift refl refl falls (omega (arith, ints, clamps)));
      }

  pub run_rises : w.turn ≤ℤ y → until ≡ w.high -ℤ w.step.ramp_up → run.shift ≡ w.step.ramp_up → IsRun w y run
  run_rises rises is shift =
      let up = w.valid.fair.ramp_up.at_least in
      let down = w.valid.fair.ramp_down.at_least in
      let most = w.valid.fair.ramp_up.at_most in
      let rise = here.rise in
      let within = here.within in
      let last = w.valid.high in
      record {
        rise = rise;
        last = omega (arith, ints);
        high = omega (arith, ints);
        near = omega (arith, ints, clamps);
        shift = record { at_least = omega (arith, ints); at_most = omega (arith, ints) };
        steep = left_steep w.step w.valid.fair y (record { end = until; slope = w.step.slope })
            (record { end = run.until; slope = run.slope }) before l (gentle_slope w);
        lines = lines_on (λ a b t from to line. line_rising (kinked w.start w.pieces.now w.step) w.turn w.step.ramp_up
            w.step.ramp_down up down a b t (a +ℤ run.shift) (b +ℤ run.shift) line (omega (arith, ints))
            (omega (arith, ints)) (omega (arith, ints)));
        fewer = λ short. by_lt_z run.until until
            (λ (h : run.until <ℤ until). let b = here.bent h in
            fewer_bend w.step w.turn y (y +ℤ run.shift) run.until (run.until +ℤ run.shift) (omega (arith, ints))
            run.shift refl refl b.0 b.1)
            (λ (h : until ≤ℤ run.until). absurd (omega (arith, ints)));
      }

-- ---- a power of the window's function, as the code has it

-- a number that may be added to a power
abbrev pub IsHigh : ℤ → Type 0
IsHigh z = IsFrom (neg_ℤ (pos 4000000000)) (pos 4000000000) z

module _ (w : Window) (cursor : Cursor) (placed : IsPlaced w.start.first w.pieces.now cursor) where
  pub cursor_in : IsEnd w.start.first (last_power w.start.first w.pieces.now) cursor.at
  cursor_in = end_within w.start w.pieces.now w.valid.slopes w.valid.small cursor placed cursor.at refl

  pub cursor_coded : coded cursor.at ≡ cursor.at
  cursor_coded = coded_is cursor.at (output_total cursor.at cursor_in.out)

  pub turn_coded : coded w.turn ≡ w.turn
  turn_coded = coded_is w.turn
      (output_total w.turn (end_of_valley w.start w.pieces.now w.valid.small w.step w.turn w.valid.valley))

  pub reach_coded : coded (coded cursor.at +ℤ coded w.step.ramp_up) ≡ cursor.at +ℤ w.step.ramp_up
  reach_coded = up_coded cursor.at w.step.ramp_up cursor_in.out w.valid.fair.ramp_up

  pub reach_fits : FitsSigned w64 (coded cursor.at +ℤ coded w.step.ramp_up)
  reach_fits = fits_sum cursor.at w.step.ramp_up cursor_in.out w.valid.fair.ramp_up

  -- the last power that is asked for, where it is past a power
  pub high_near : (cursor.at -ℤ w.step.ramp_down) ≤ℤ w.high → IsHigh w.high
  high_near low =
      let o = cursor_in.out.at_least in
      let d = w.valid.fair.ramp_down.at_most in
      let u = w.valid.fair.ramp_up.at_most in
      let h = w.valid.high in
      let from = cursor_in.from in
      let to = cursor_in.to in
      let last = (w.valid.small (last_power w.start.first w.pieces.now) (omega (arith, ints))
      (omega (arith, ints))).0.at_most in
      record { at_least = omega (arith, ints); at_most = omega (arith, ints) }

  pub last_coded : (cursor.at -ℤ w.step.ramp_down) ≤ℤ w.high →
      coded (coded w.high +ℤ coded w.step.ramp_down) ≡ w.high +ℤ w.step.ramp_down
  last_coded low =
      let h = high_near low in
      let least = w.valid.fair.ramp_down.at_least in
      let most = w.valid.fair.ramp_down.at_most in
      coded_add w.high w.step.ramp_down (record { at_least = omega (arith, ints); at_most = omega (arith, ints) })
      (record { at_least = omega (arith, ints); at_most = omega (arith, ints) })
      (record { at_least = omega (arith, ints); at_most = omega (arith, ints) })

pub before_both : (y a b u : ℤ) → y <ℤ a → y <ℤ b → u ≡ int_min a b → y <ℤ u
before_both y a b u h i is = omega (arith, ints, clamps)
