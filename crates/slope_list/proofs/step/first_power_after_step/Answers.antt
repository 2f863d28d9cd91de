use Rattle.slope_list.proofs.Common.{to_z, of_z, ◌≡◌, ap, sym, ◌∙◌, subst, refl, rules, ℤ, FitsSigned, ◌+ℤ◌, ◌-ℤ◌, ◌*ℤ◌}
use Rattle.slope_list.proofs.Common.{◌≤ℤ◌, w64, int_min, int_max, to_z-of_z, IsCost, reserve_term, last_power}
use Rattle.slope_list.proofs.Common.{function_of, nearest}
use Rattle.slope_list.proofs.Lemmas.{wide_of, on_curve, end_of-width, end_of_valley, within_from_small, nearest_inside}
use Rattle.slope_list.proofs.Lemmas.{le_trans, lt_le_trans, same_le, level_joined, coded_is, output_total, up_coded}
use Rattle.slope_list.proofs.Lemmas.{down_coded, fits_sum, fits_less}
use Rattle.slope_list.proofs.BlockLaws.{cost_at_is}
use Rattle.slope_list.proofs.step.first_power_after_step.Goals as goal
use Rattle.slope_list.proofs.step.first_power_after_step.Goals.{After-max-near}

-- the power nearest to the turn, which is one of the function before the step
record Near (c : After-max-near) : Type 0 where
  is : c.max-near.result ≡ nearest c.args.window.now.step.ramp_up c.args.window.now.step.ramp_down
      c.args.window.now.turn c.args.low
  coded : to_z w64 (of_z w64 c.max-near.result) ≡ c.max-near.result
  from : c.args.window.now.start.first ≤ℤ c.max-near.result
  to : c.max-near.result ≤ℤ last_power c.args.window.now.start.first c.args.window.now.pieces.now

near : (c : After-max-near) → Near c
near c =
    let w = c.args.window.now in
    let s = w.step in
    let low = c.args.low in
    let last = last_power w.start.first w.pieces.now in
    let fair = w.valid.fair in
    let turn = end_of_valley w.start w.pieces.now w.valid.small s w.turn w.valid.valley in
    let fm : FitsSigned w64 c.min.result = search rules in
    let fq : FitsSigned w64 c.max-near.result = search rules in
    let e1 : c.min.result ≡ int_min (low +ℤ s.ramp_down) w.turn =
    rw (up_coded low s.ramp_down c.requires.at fair.ramp_down, coded_is w.turn (output_total w.turn turn)) at
    c.min.ensures.value in
    let e2 : c.max-near.result ≡ int_max (low -ℤ s.ramp_up) c.min.result =
    rw (down_coded low s.ramp_up c.requires.at fair.ramp_up, to_z-of_z w64 c.min.result fm) at
    c.max-near.ensures.value in
    let is : c.max-near.result ≡ nearest s.ramp_up s.ramp_down w.turn low = e2 ∙ ap (int_max (low -ℤ s.ramp_up)) e1 in
    let inside = nearest_inside w.start.first last w.turn s.ramp_up s.ramp_down low w.valid.valley.from
    w.valid.valley.to c.requires.from (le_trans low w.high (last +ℤ s.ramp_up) c.requires.to w.valid.high)
    fair.ramp_up.at_least fair.ramp_down.at_least in
    record {
      is = is;
      coded = to_z-of_z w64 c.max-near.result fq;
      from = subst (λ (z : ℤ). w.start.first ≤ℤ z) (sym is) inside.0;
      to = subst (λ (z : ℤ). z ≤ℤ last) (sym is) inside.1;
    }

pub overflow_sub-low : goal.overflow_sub-low
overflow_sub-low c = fits_less c.args.low c.args.window.now.step.ramp_up c.requires.at
    c.args.window.now.valid.fair.ramp_up

pub overflow_add-low : goal.overflow_add-low
overflow_add-low c = fits_sum c.args.low c.args.window.now.step.ramp_down c.requires.at
    c.args.window.now.valid.fair.ramp_down

pub value_and_piece_at_power-reached-requires : goal.value_and_piece_at_power-reached-requires
value_and_piece_at_power-reached-requires c =
    let w = c.args.window.now in
    let n = near (goal.at.value_and_piece_at_power-reached-requires c).After-max-near in
    record {
      slopes = w.valid.slopes;
      from = rw n.coded n.from;
      to = rw n.coded n.to;
      within =
          within_from_small w.start w.pieces.now w.valid.small;
    }

pub cost_and_block_at_power-found-requires : goal.cost_and_block_at_power-found-requires
cost_and_block_at_power-found-requires c =
    let cv = c.args.curve.now in
    let el = to_z-of_z w64 c.args.low c.ranges.low in
    let k = c.requires.costs c.args.low (same_le c.args.low) c.requires.to in
    let on = on_curve cv c.args.low k.0 (wide_of cv c.requires.limited) k.1 in
    record {
      limited = c.requires.limited;
      from = rw el on.from;
      to =
          rw (el, end_of-width cv.at cv.blocks.items) on.to;
    }

pub value_after_step-requires : goal.value_after_step-requires
value_after_step-requires c =
    let w = c.args.window.now in
    let n = near (goal.at.value_after_step-requires c).After-max-near in
    let small = w.valid.small c.max-near.result n.from n.to in
    let el = to_z-of_z w64 c.args.low c.ranges.low in
    let k = c.requires.costs c.args.low (same_le c.args.low) c.requires.to in
    let fv : FitsSigned w64 c.value_and_piece_at_power-reached.result.value = search rules in
    let fc : FitsSigned w64 c.cost_and_block_at_power-found.result.value = search rules in
    let value : c.value_and_piece_at_power-reached.result.value ≡ function_of w.start w.pieces.now c.max-near.result =
    rw n.coded at c.value_and_piece_at_power-reached.ensures.value in
    let cost : k.0 ≡ c.cost_and_block_at_power-found.result.value = cc
    (k.1, rw el at c.cost_and_block_at_power-found.ensures.value) in
    record {
      fair = w.valid.fair;
      value = rw (to_z-of_z w64 c.value_and_piece_at_power-reached.result.value fv, value) small.1;
      near = rw n.coded small.0;
      at = rw el c.requires.at;
      cost = rw (to_z-of_z w64 c.cost_and_block_at_power-found.result.value fc) (subst (λ (z : ℤ). IsCost z) cost k.2);
    }

pub returns : goal.returns
returns c =
    let w = c.args.window.now in
    let cv = c.args.curve.now in
    let s = w.step in
    let low = c.args.low in
    let n = near (goal.at.returns c).After-max-near in
    let el = to_z-of_z w64 low c.ranges.low in
    let fv : FitsSigned w64 c.value_and_piece_at_power-reached.result.value = search rules in
    let fc : FitsSigned w64 c.cost_and_block_at_power-found.result.value = search rules in
    let fl : FitsSigned w64 c.value_after_step.result = search rules in
    let value : c.value_and_piece_at_power-reached.result.value ≡ function_of w.start w.pieces.now c.max-near.result =
    rw n.coded at c.value_and_piece_at_power-reached.ensures.value in
    let cost = cost_at_is cv low c.cost_and_block_at_power-found.result.value
    (rw el at c.cost_and_block_at_power-found.ensures.value) in
    let got : c.value_after_step.result
    ≡ ((c.value_and_piece_at_power-reached.result.value +ℤ reserve_term s.reserve_price s.cap s.ramp_up
    c.max-near.result)
    +ℤ s.slope *ℤ low) +ℤ c.cost_and_block_at_power-found.result.value =
    rw (
      to_z-of_z w64 c.value_and_piece_at_power-reached.result.value fv,
      n.coded,
      el,
      to_z-of_z w64 c.cost_and_block_at_power-found.result.value
          fc,
    )
    at c.value_after_step.ensures in
    let kh = c.requires.costs w.high c.requires.to (same_le w.high) in
    let high = on_curve cv w.high kh.0 (wide_of cv c.requires.limited) kh.1 in
    record {
      near = n.coded ∙ n.is;
      placed = c.value_and_piece_at_power-reached.ensures.placed;
      pen = (el, refl, c.cost_and_block_at_power-found.ensures.blocks);
      block = λ h. (rw el at c.cost_and_block_at_power-found.ensures.block)
          (rw (end_of-width cv.at cv.blocks.items) (lt_le_trans low w.high _ h high.to));
      level = to_z-of_z w64 c.value_after_step.result fl ∙ got
          ∙ level_joined (function_of w.start w.pieces.now) (reserve_term s.reserve_price s.cap s.ramp_up)
          c.max-near.result (nearest s.ramp_up s.ramp_down w.turn low) c.value_and_piece_at_power-reached.result.value
          (s.slope *ℤ low)
          c.cost_and_block_at_power-found.result.value _ value n.is cost;
    }
