use Rattle.slope_list.proofs.Common.{◌≡◌, ◌<◌, ap, inl, inr, arith, rules, to_z, of_z, FitsSigned, ◌+ℤ◌, ◌≤ℤ◌, length}
use Rattle.slope_list.proofs.Common.{w64, ints, clamps, to_z-of_z, piece, function_of}
use Rattle.slope_list.proofs.Lemmas.{ends_rise_to, reached_amount, goes_on, end_ahead, end_of_one, fewer, under_on}
use Rattle.slope_list.proofs.Lemmas.{shown_under}
use Rattle.slope_list.proofs.below.is_function_nowhere_above.Goals as goal
use Rattle.slope_list.proofs.below.is_function_nowhere_above.Goals.{In-loop-there}

pub value_and_piece_at_power-here-requires-clause-to : goal.value_and_piece_at_power-here-requires-clause-to
value_and_piece_at_power-here-requires-clause-to c =
    let f : FitsSigned w64 c.args.other.first = search rules in
    let e = to_z-of_z w64 c.args.other.first f in
    let low = ends_rise_to c.args.other.first c.args.others.now c.requires.other_slopes 0 (length c.args.others.now)
    (omega arith) (omega arith) in
    let l = c.if-not-domain_covers.ensures.last in
    omega (arith, ints)

pub value_and_piece_at_power-there-requires-clause-to : goal.value_and_piece_at_power-there-requires-clause-to
value_and_piece_at_power-there-requires-clause-to c =
    let f : FitsSigned w64 c.args.other.first = search rules in
    let e = to_z-of_z w64 c.args.other.first f in
    let low = ends_rise_to c.args.other.first c.args.others.now c.requires.other_slopes 0 (length c.args.others.now)
    (omega arith) (omega arith) in
    omega (arith, ints)

pub is_shifted_value_above_other-requires-clause-value : goal.is_shifted_value_above_other-requires-clause-value
is_shifted_value_above_other-requires-clause-value c =
    let fv : FitsSigned w64 c.value_and_piece_at_power-here.result.value = search rules in
    rw (to_z-of_z w64 c.value_and_piece_at_power-here.result.value fv)
    (reached_amount c.args.start c.args.pieces.now c.requires.slopes c.requires.within
    (to_z w64 (of_z w64 c.args.other.first)) c.value_and_piece_at_power-here.result
    (record {
      value = c.value_and_piece_at_power-here.ensures.value;
      placed =
          c.value_and_piece_at_power-here.ensures.placed;
    }))

pub loop-there-init : goal.loop-there-init
loop-there-init c =
    let f : FitsSigned w64 c.args.other.first = search rules in
    let e = to_z-of_z w64 c.args.other.first f in
    let fv : FitsSigned w64 c.value_and_piece_at_power-here.result.value = search rules in
    let fw : FitsSigned w64 c.value_and_piece_at_power-there.result.value = search rules in
    let ev = to_z-of_z w64 c.value_and_piece_at_power-here.result.value fv in
    let ew = to_z-of_z w64 c.value_and_piece_at_power-there.result.value fw in
    let es = to_z-of_z w64 c.args.shift c.ranges.shift in
    let at = to_z w64 (of_z w64 c.args.other.first) in
    record {
      from = omega (arith, ints);
      here = record {
        value = c.value_and_piece_at_power-here.ensures.value;
        placed =
            c.value_and_piece_at_power-here.ensures.placed;
      };
      there = record {
        value = c.value_and_piece_at_power-there.ensures.value;
        placed =
            c.value_and_piece_at_power-there.ensures.placed;
      };
      under = λ x low high.
          let is : x ≡ at = omega (arith, ints) in
          let fx : function_of c.args.start c.args.pieces.now x ≡ function_of c.args.start c.args.pieces.now at =
          ap (function_of c.args.start c.args.pieces.now) is in
          let gx : function_of c.args.other c.args.others.now x ≡ function_of c.args.other c.args.others.now at =
          ap (function_of c.args.other c.args.others.now) is in
          omega (arith, ints);
    }

inside : (c : In-loop-there) → c.loop-there.here.next < length c.args.pieces.now
inside c = goes_on c.args.start c.args.pieces.now c.args.other c.args.others.now c.requires.other_slopes
    c.if-not-domain_covers.ensures.last (to_z w64 c.loop-there.at-bits) c.loop-there.here c.loop-there.invariant.here
    c.loop-there.there c.loop-there.invariant.there c.loop-there-test.true

pub bounds-pieces-here : goal.bounds-pieces-here
bounds-pieces-here c = inside (goal.at.bounds-pieces-here c).In-loop-there

pub advance_to_power-here-requires-clause-next : goal.advance_to_power-here-requires-clause-next
advance_to_power-here-requires-clause-next c = inside (goal.at.advance_to_power-here-requires-clause-next
    c).In-loop-there

pub advance_to_power-here-requires-clause-rise : goal.advance_to_power-here-requires-clause-rise
advance_to_power-here-requires-clause-rise c =
    let was = c.loop-there.invariant in
    end_ahead c.args.start c.args.pieces.now c.args.other c.args.others.now c.requires.other_slopes
    c.if-not-domain_covers.ensures.last (to_z w64 c.loop-there.at-bits) c.loop-there.here was.here c.loop-there.there
    was.there c.loop-there-test.true
    (to_z w64 (of_z w64 c.min-end.result)) (omega (arith, ints, clamps))

pub is_shifted_value_above_other-requires-in-loop-there-clause-value :
    goal.is_shifted_value_above_other-requires-in-loop-there-clause-value
is_shifted_value_above_other-requires-in-loop-there-clause-value c =
    let fv : FitsSigned w64 c.advance_to_power-here.result.value = search rules in
    rw (to_z-of_z w64 c.advance_to_power-here.result.value fv)
    (reached_amount c.args.start c.args.pieces.now c.requires.slopes c.requires.within
    (to_z w64 (of_z w64 c.min-end.result)) c.advance_to_power-here.result c.advance_to_power-here.ensures.reached)

pub loop-there-smaller : goal.loop-there-smaller
loop-there-smaller c =
    fewer (length c.args.pieces.now) (length c.args.others.now) c.loop-there.here.next
    c.advance_to_power-here.result.next
    c.loop-there.there.next c.advance_to_power-there.result.next (inside (goal.at.loop-there-smaller c).In-loop-there)
    c.loop-there-test.true
    c.advance_to_power-here.ensures.later c.advance_to_power-there.ensures.later
    c.advance_to_power-here.ensures.reached.placed.some
    c.advance_to_power-there.ensures.reached.placed.some
    (elim (end_of_one (piece c.args.pieces.now c.loop-there.here.next).end
    (piece c.args.others.now c.loop-there.there.next).end (to_z w64 (of_z w64 c.min-end.result))
    (omega (arith, ints, clamps))) [
      | inl p ↦ inl (c.advance_to_power-here.ensures.past p)
      | inr p ↦ inr (c.advance_to_power-there.ensures.past p)
    ])

pub loop-there-preserved : goal.loop-there-preserved
loop-there-preserved c =
    let was = c.loop-there.invariant in
    let fv : FitsSigned w64 c.advance_to_power-here.result.value = search rules in
    let fw : FitsSigned w64 c.advance_to_power-there.result.value = search rules in
    let ev = to_z-of_z w64 c.advance_to_power-here.result.value fv in
    let ew = to_z-of_z w64 c.advance_to_power-there.result.value fw in
    let es = to_z-of_z w64 c.args.shift c.ranges.shift in
    let over : (c.advance_to_power-here.result.value +ℤ to_z w64 (of_z w64 c.args.shift)) ≤ℤ
    c.advance_to_power-there.result.value =
    (rw (ev, ew) at c.if-is_shifted_value_above_other-2.ensures) (search rules) in
    record {
      from = (let f = was.from in omega (arith, ints));
      here = c.advance_to_power-here.ensures.reached;
      there = c.advance_to_power-there.ensures.reached;
      under = under_on c.args.start c.args.pieces.now c.args.other c.args.others.now (to_z w64 (of_z w64 c.args.shift))
          (to_z w64 c.loop-there.at-bits) (to_z w64 (of_z w64 c.min-end.result))
          (piece c.args.pieces.now c.loop-there.here.next).slope (piece c.args.others.now c.loop-there.there.next).slope
          c.advance_to_power-here.ensures.line c.advance_to_power-there.ensures.line was.from was.under
          (omega (arith, ints));
    }

pub returns : goal.returns
returns c =
    let was = c.loop-there.invariant in
    let es = to_z-of_z w64 c.args.shift c.ranges.shift in
    let some = was.there.placed.some in
    let last = was.there.placed.last (omega arith) in
    let l = c.if-not-domain_covers.ensures.last in
    let f = c.if-not-domain_covers.ensures.first in
    shown_under c.args.start c.args.pieces.now c.args.other c.args.others.now c.args.shift
    (λ x low high. (
      omega (arith, ints),
      omega (arith, ints),
      (let u = was.under x low (omega (arith, ints)) in omega (arith, ints)),
    ))
