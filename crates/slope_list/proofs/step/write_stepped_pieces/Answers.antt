use Rattle.slope_list.proofs.Common.{to_z, of_z, ◌≡◌, ◌≤◌, false, List, length, ap, sym, ◌∙◌, subst, arith, rules}
use Rattle.slope_list.proofs.Common.{FitsSigned, ◌+ℤ◌, ◌-ℤ◌, ◌≤ℤ◌, w64, int_min, int_max, to_z-of_z, IsSmall, IsOutput}
use Rattle.slope_list.proofs.Common.{Piece, Start, HasCosts, AreSmall, last_power, table_of, AreSlopes, nearest}
use Rattle.slope_list.proofs.Common.{stepped, IsTurn, lt_z}
use Rattle.slope_list.proofs.Lemmas.{ends_rise_to, same_le, coded_is, output_total, up_coded, down_coded, fits_sum}
use Rattle.slope_list.proofs.Lemmas.{fits_less, test_true, test_false}
use Rattle.slope_list.proofs.StepLaws.{small_from_table, gentle_from_small, costs_on, stepped_none, turn_on, written}
use Rattle.slope_list.proofs.StepLaws.{written_slopes, written_within, step_low, step_high, step_output}
use Rattle.slope_list.proofs.step.write_stepped_pieces.Goals as goal
use Rattle.slope_list.proofs.step.write_stepped_pieces.Goals.{After-power_of_least_value_less_reserve-turn}

-- where the function before the step begins and ends
record Ends (start : Start) (ps : List Piece) : Type 0 where
  small : AreSmall start ps
  first : IsOutput start.first
  last : IsOutput (last_power start.first ps)

ends : (start : Start) (ps : List Piece) → AreSlopes start.first ps → IsSmall (table_of start ps) → Ends start ps
ends start ps slopes small =
    let near = small_from_table start ps small in
    let order = ends_rise_to start.first ps slopes 0 (length ps) (omega arith) (omega arith) in
    record {
      small = near;
      first = (near start.first (same_le start.first) order).0;
      last = (near (last_power start.first ps) order (same_le (last_power start.first ps))).0;
    }

-- the ends of the function after the step, and its turn
record Range (c : After-power_of_least_value_less_reserve-turn) : Type 0 where
  ends : Ends c.args.start c.args.pieces.now
  low_is : c.max-low.result ≡ int_max c.args.step.least (c.args.start.first -ℤ c.args.step.ramp_down)
  high_is : c.min-high.result ≡ int_min c.args.step.most
      (last_power c.args.start.first c.args.pieces.now +ℤ c.args.step.ramp_up)
  low : to_z w64 (of_z w64 c.max-low.result) ≡ c.max-low.result
  high : to_z w64 (of_z w64 c.min-high.result) ≡ c.min-high.result
  turn : to_z w64 (of_z w64 c.power_of_least_value_less_reserve-turn.result) ≡
      c.power_of_least_value_less_reserve-turn.result
  at_low : (c.args.start.first ≤ℤ (c.max-low.result +ℤ c.args.step.ramp_down)) × (c.args.step.least ≤ℤ c.max-low.result)
  at_high : (c.min-high.result ≤ℤ (last_power c.args.start.first c.args.pieces.now +ℤ c.args.step.ramp_up)) ×
      (c.min-high.result ≤ℤ c.args.step.most)

range : (c : After-power_of_least_value_less_reserve-turn) → Range c
range c =
    let s = c.args.step in
    let ps = c.args.pieces.now in
    let start = c.args.start in
    let fair = c.requires.step in
    let e = ends start ps c.requires.slopes c.requires.small in
    let last : c.last_power.result ≡ last_power start.first ps =
    rw (coded_is start.first (output_total start.first e.first)) at c.last_power.ensures in
    let low_is : c.max-low.result ≡ int_max s.least (start.first -ℤ s.ramp_down) =
    rw (
      coded_is s.least (output_total s.least fair.least),
      down_coded start.first s.ramp_down e.first fair.ramp_down,
    ) at c.max-low.ensures.value in
    let high_is : c.min-high.result ≡ int_min s.most (last_power start.first ps +ℤ s.ramp_up) =
    rw (
      coded_is s.most (output_total s.most fair.most),
      last,
      up_coded (last_power start.first ps) s.ramp_up e.last fair.ramp_up,
    ) at c.min-high.ensures.value in
    let gl : FitsSigned w64 c.max-low.result = search rules in
    let gh : FitsSigned w64 c.min-high.result = search rules in
    let gt : FitsSigned w64 c.power_of_least_value_less_reserve-turn.result = search rules in
    record {
      ends = e;
      low_is = low_is;
      high_is = high_is;
      low = to_z-of_z w64 c.max-low.result gl;
      high = to_z-of_z w64 c.min-high.result gh;
      turn = to_z-of_z w64 c.power_of_least_value_less_reserve-turn.result gt;
      at_low = step_low c.max-low.result s.least start.first s.ramp_down low_is;
      at_high = step_high c.min-high.result s.most (last_power start.first ps) s.ramp_up high_is;
    }

costs : (c : After-power_of_least_value_less_reserve-turn) → HasCosts c.args.curve.now c.max-low.result
    c.min-high.result
costs c =
    let r = range c in
    costs_on c.args.start c.args.pieces.now c.args.step c.args.curve.now
    c.power_of_least_value_less_reserve-turn.result c.max-low.result
    c.min-high.result c.requires.slopes c.requires.step c.requires.curve
    c.power_of_least_value_less_reserve-turn.ensures r.low_is r.high_is

turned : (c : After-power_of_least_value_less_reserve-turn) →
    IsTurn c.args.step (table_of c.args.start c.args.pieces.now)
    (to_z w64 (of_z w64 c.power_of_least_value_less_reserve-turn.result))
turned c =
    let r = range c in
    subst (IsTurn c.args.step (table_of c.args.start c.args.pieces.now)) (sym r.turn)
    (turn_on c.args.start c.args.pieces.now c.args.step c.args.curve.now
    c.power_of_least_value_less_reserve-turn.result c.max-low.result
    c.min-high.result c.requires.slopes c.requires.step c.requires.curve
    c.power_of_least_value_less_reserve-turn.ensures r.low_is
    r.high_is)

-- there is a power
order : (c : After-power_of_least_value_less_reserve-turn) → Range c → lt_z (to_z w64 (of_z w64 c.min-high.result))
    (to_z w64 (of_z w64 c.max-low.result)) ≡ false → c.max-low.result ≤ℤ c.min-high.result
order c r = test_false c.min-high.result c.max-low.result _ _ r.high r.low

pub overflow_sub-start : goal.overflow_sub-start
overflow_sub-start c =
    let e = ends c.args.start c.args.pieces.now c.requires.slopes c.requires.small in
    fits_less c.args.start.first c.args.step.ramp_down e.first c.requires.step.ramp_down

pub overflow_add-last_power : goal.overflow_add-last_power
overflow_add-last_power c =
    let e = ends c.args.start c.args.pieces.now c.requires.slopes c.requires.small in
    let last : c.last_power.result ≡ last_power c.args.start.first c.args.pieces.now =
    rw (coded_is c.args.start.first (output_total c.args.start.first e.first)) at c.last_power.ensures in
    rw last (fits_sum (last_power c.args.start.first c.args.pieces.now) c.args.step.ramp_up e.last
    c.requires.step.ramp_up)

pub power_of_least_value_less_reserve-turn-requires-clause-gentle :
    goal.power_of_least_value_less_reserve-turn-requires-clause-gentle
power_of_least_value_less_reserve-turn-requires-clause-gentle c =
    let e = ends c.args.start c.args.pieces.now c.requires.slopes c.requires.small in
    gentle_from_small c.args.start c.args.pieces.now c.requires.slopes e.small

pub returns-then-low-high-clause-stepped : goal.returns-then-low-high-clause-stepped
returns-then-low-high-clause-stepped c =
    let r = range (goal.at.returns-then-low-high-clause-stepped c).After-power_of_least_value_less_reserve-turn in
    stepped_none c.args.start c.args.pieces.now c.args.step c.args.curve.now
    c.power_of_least_value_less_reserve-turn.result
    c.max-low.result
    c.min-high.result c.requires.slopes c.requires.step c.requires.curve
    c.power_of_least_value_less_reserve-turn.ensures r.low_is r.high_is
    (test_true c.min-high.result c.max-low.result _ _ r.high r.low c.if-low-high.true)

pub returns-then-low-high-clause-turn : goal.returns-then-low-high-clause-turn
returns-then-low-high-clause-turn c = turned (goal.at.returns-then-low-high-clause-turn
    c).After-power_of_least_value_less_reserve-turn

pub invariant_of-window : goal.invariant_of-window
invariant_of-window c =
    let r = range (goal.at.invariant_of-window c).After-power_of_least_value_less_reserve-turn in
    record {
      valid = record {
        slopes = c.requires.slopes;
        small = r.ends.small;
        gentle = gentle_from_small c.args.start c.args.pieces.now c.requires.slopes r.ends.small;
        fair = c.requires.step;
        valley = rw r.turn c.power_of_least_value_less_reserve-turn.ensures;
        high = rw r.high r.at_high.0;
      };
    }

pub first_power_after_step-opening-requires : goal.first_power_after_step-opening-requires
first_power_after_step-opening-requires c =
    let t = (goal.at.first_power_after_step-opening-requires c).After-power_of_least_value_less_reserve-turn in
    let r = range t in
    let rise = order t r c.if-low-high.false in
    record {
      limited = c.requires.curve.limited;
      from = rw r.low r.at_low.0;
      to = rw (r.low, r.high) rise;
      at = rw r.low (step_output c.args.step.least c.max-low.result c.min-high.result c.args.step.most
          c.requires.step.least c.requires.step.most r.at_low.1 rise r.at_high.1);
      costs = rw (r.low, r.high) (costs t);
    }

pub write_pieces_after_step-used-requires : goal.write_pieces_after_step-used-requires
write_pieces_after_step-used-requires c =
    let t = (goal.at.write_pieces_after_step-used-requires c).After-power_of_least_value_less_reserve-turn in
    let r = range t in
    let pen = c.first_power_after_step-opening.ensures.pen in
    record {
      limited = c.requires.curve.limited;
      placed = c.first_power_after_step-opening.ensures.placed;
      near = c.first_power_after_step-opening.ensures.near ∙ ap
          (nearest c.args.step.ramp_up c.args.step.ramp_down _) (sym pen.0);
      high = rw (pen.0 ∙ r.low, r.high) (order t r c.if-low-high.false);
      costs = rw (pen.0 ∙ r.low, r.high) (costs t);
      block = rw pen.0 c.first_power_after_step-opening.ensures.block;
      begins = pen.1;
      room = c.requires.room;
    }

pub returns : goal.returns
returns c =
    let t = (goal.at.returns c).After-power_of_least_value_less_reserve-turn in
    let r = range t in
    let at = c.first_power_after_step-opening.ensures.pen.0 ∙ r.low in
    let gv : FitsSigned w64 c.first_power_after_step-opening.result.level = search rules in
    let cw = to_z-of_z w64 c.first_power_after_step-opening.result.level gv in
    let level : c.first_power_after_step-opening.result.level ≡ stepped c.args.start c.args.pieces.now c.args.step
    c.power_of_least_value_less_reserve-turn.result
    c.args.curve.now c.max-low.result = rw (r.turn, r.low) at c.first_power_after_step-opening.ensures.level in
    let stand = rw (r.turn, at) at c.write_pieces_after_step-used.ensures.drawn in
    let last = rw (at, r.high) at c.write_pieces_after_step-used.ensures.ends in
    let used = c.write_pieces_after_step-used.ensures.used in
    let room : c.write_pieces_after_step-used.result ≤ length c.write_pieces_after_step-used.new.out = omega arith in
    record {
      stepped = rw (r.low, cw) (written c.args.start c.args.pieces.now c.args.step c.args.curve.now
          c.power_of_least_value_less_reserve-turn.result
          c.max-low.result c.min-high.result c.requires.slopes c.requires.step c.requires.curve
          c.power_of_least_value_less_reserve-turn.ensures
          r.low_is r.high_is c.first_power_after_step-opening.result.level c.write_pieces_after_step-used.new.out
          c.write_pieces_after_step-used.result room
          stand last level);
      slopes = rw r.low (written_slopes c.args.start c.args.pieces.now c.args.step c.args.curve.now
          c.power_of_least_value_less_reserve-turn.result
          c.max-low.result c.min-high.result c.requires.slopes c.requires.step c.requires.curve
          c.power_of_least_value_less_reserve-turn.ensures
          r.low_is r.high_is c.first_power_after_step-opening.result.level c.write_pieces_after_step-used.new.out
          c.write_pieces_after_step-used.result room
          stand last level
          c.steps_keep_convexity.ensures c.convexity_depends_on_values_alone.ensures);
      within = rw (r.low, cw) (written_within c.args.start c.args.pieces.now c.args.step c.args.curve.now
          c.power_of_least_value_less_reserve-turn.result c.max-low.result c.min-high.result c.requires.slopes
          c.requires.step
          c.requires.curve
          r.ends.small c.power_of_least_value_less_reserve-turn.ensures r.low_is r.high_is
          c.first_power_after_step-opening.result.level
          c.write_pieces_after_step-used.new.out
          c.write_pieces_after_step-used.result room stand last level);
      turn = turned t;
      count = used;
    }
