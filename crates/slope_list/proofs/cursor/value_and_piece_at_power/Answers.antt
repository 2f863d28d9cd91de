use Rattle.slope_list.proofs.Common.{◌≡◌, suc, ◌+◌, length, sym, ap, ◌∙◌, arith, rules, to_z, FitsSigned, ◌+ℤ◌, ◌-ℤ◌}
use Rattle.slope_list.proofs.Common.{◌*ℤ◌, ◌≤ℤ◌, w64, ints, to_z-of_z, piece, end_at, function_of}
use Rattle.slope_list.proofs.Lemmas.{along_first, level_from, can_go}
use Rattle.slope_list.proofs.cursor.value_and_piece_at_power.Goals as goal
use Rattle.slope_list.proofs.cursor.value_and_piece_at_power.Goals.{then-loop-next-test+else-pieces-next}
use Rattle.slope_list.proofs.cursor.value_and_piece_at_power.Goals.{else-loop-next-test}

pub loop-next-init : goal.loop-next-init
loop-next-init c =
    let f : FitsSigned w64 c.args.start.first = search rules in
    let g : FitsSigned w64 c.args.start.level = search rules in
    let e = to_z-of_z w64 c.args.start.first f in
    rw (e, to_z-of_z w64 c.args.start.level g)
    (record {
      some = omega arith;
      from_is = omega (arith, ints);
      low = omega (arith, ints);
      value_is =
          sym (along_first c.args.start.first c.args.start.level c.args.pieces.now c.requires.slopes);
    })

pub value_at_power_in_piece-value-requires : goal.value_at_power_in_piece-value-requires
value_at_power_in_piece-value-requires c =
    let was = c.loop-next.invariant in
    let ps = c.args.pieces.now in
    let k = c.loop-next.next in
    let end = (piece ps k).end in
    let fe : FitsSigned w64 end = search rules in
    let at : to_z w64 c.loop-next.from-bits ≡ end_at c.args.start.first ps k = was.from_is in
    let level : to_z w64 c.loop-next.value-bits ≡ function_of c.args.start ps (to_z w64 c.loop-next.from-bits) =
    was.value_is in
    let rise = c.requires.slopes.rise k c.loop-next-test.true in
    rw (to_z-of_z w64 end fe)
    (can_go c.args.start ps c.requires.slopes c.requires.within k c.loop-next-test.true end (omega (arith, ints))
    (omega (arith, ints)) (to_z w64 c.loop-next.value-bits) (to_z w64 c.loop-next.from-bits) at level)

pub loop-next-preserved : goal.loop-next-preserved
loop-next-preserved c =
    let was = c.loop-next.invariant in
    let ps = c.args.pieces.now in
    let k = c.loop-next.next in
    let end = (piece ps k).end in
    let fe : FitsSigned w64 end = search rules in
    let ee = to_z-of_z w64 end fe in
    let fr : FitsSigned w64 c.value_at_power_in_piece-value.result = search rules in
    let at : to_z w64 c.loop-next.from-bits ≡ end_at c.args.start.first ps k = was.from_is in
    let level : to_z w64 c.loop-next.value-bits ≡ function_of c.args.start ps (to_z w64 c.loop-next.from-bits) =
    was.value_is in
    let rise = c.requires.slopes.rise k c.loop-next-test.true in
    let on = level_from c.args.start ps c.requires.slopes c.requires.within k c.loop-next-test.true end
    (omega (arith, ints)) (omega (arith, ints)) (to_z w64 c.loop-next.value-bits)
    (to_z w64 c.loop-next.from-bits) at level in
    let got : c.value_at_power_in_piece-value.result ≡ to_z w64 c.loop-next.value-bits +ℤ (piece ps k).slope *ℤ
    (end -ℤ to_z w64 c.loop-next.from-bits) = rw ee at c.value_at_power_in_piece-value.ensures in
    rw (ee, to_z-of_z w64 c.value_at_power_in_piece-value.result fr)
    (record {
      some = omega arith;
      from_is = sym (ap (end_at c.args.start.first ps) {x = k + 1} {y = suc k} (omega arith));
      low = omega (arith, ints);
      value_is = got ∙ sym on;
    })

pub value_at_power_in_piece-value-requires-then-next-pieces :
    goal.value_at_power_in_piece-value-requires-then-next-pieces
value_at_power_in_piece-value-requires-then-next-pieces c =
    let was = c.loop-next.invariant in
    let ps = c.args.pieces.now in
    let k = c.loop-next.next in
    let at : to_z w64 c.loop-next.from-bits ≡ end_at c.args.start.first ps k = was.from_is in
    let level : to_z w64 c.loop-next.value-bits ≡ function_of c.args.start ps (to_z w64 c.loop-next.from-bits) =
    was.value_is in
    let ea = to_z-of_z w64 c.args.at c.ranges.at in
    let high : c.args.at ≤ℤ (piece ps k).end = elim c.loop-next-test.branch [
      | then-loop-next-test+else-pieces-next w ↦ omega (arith, ints)
      | else-loop-next-test w ↦ absurd (omega arith)
    ] in
    rw ea
    (can_go c.args.start ps c.requires.slopes c.requires.within k c.if-next-pieces.true c.args.at (omega (arith, ints))
    high (to_z w64 c.loop-next.value-bits) (to_z w64 c.loop-next.from-bits) at level)

pub returns-then-next-pieces-clause-value : goal.returns-then-next-pieces-clause-value
returns-then-next-pieces-clause-value c =
    let was = c.loop-next.invariant in
    let ps = c.args.pieces.now in
    let k = c.loop-next.next in
    let fr : FitsSigned w64 c.value_at_power_in_piece-value-then-next-pieces.result = search rules in
    let at : to_z w64 c.loop-next.from-bits ≡ end_at c.args.start.first ps k = was.from_is in
    let level : to_z w64 c.loop-next.value-bits ≡ function_of c.args.start ps (to_z w64 c.loop-next.from-bits) =
    was.value_is in
    let ea = to_z-of_z w64 c.args.at c.ranges.at in
    let high : c.args.at ≤ℤ (piece ps k).end = elim c.loop-next-test.branch [
      | then-loop-next-test+else-pieces-next w ↦ omega (arith, ints)
      | else-loop-next-test w ↦ absurd (omega arith)
    ] in
    let on = level_from c.args.start ps c.requires.slopes c.requires.within k c.if-next-pieces.true c.args.at
    (omega (arith, ints)) high (to_z w64 c.loop-next.value-bits) (to_z w64 c.loop-next.from-bits) at level in
    let got : c.value_at_power_in_piece-value-then-next-pieces.result ≡ to_z w64 c.loop-next.value-bits +ℤ
    (piece ps k).slope *ℤ
    (c.args.at -ℤ to_z w64 c.loop-next.from-bits) = rw ea at c.value_at_power_in_piece-value-then-next-pieces.ensures in
    to_z-of_z w64 c.value_at_power_in_piece-value-then-next-pieces.result fr ∙ got ∙ sym on

pub returns-then-next-pieces-clause-placed : goal.returns-then-next-pieces-clause-placed
returns-then-next-pieces-clause-placed c =
    let was = c.loop-next.invariant in
    let ea = to_z-of_z w64 c.args.at c.ranges.at in
    record {
      some = was.some;
      from = omega (arith, ints);
      to = λ h. elim c.loop-next-test.branch [
        | then-loop-next-test+else-pieces-next w ↦ omega (arith, ints)
        | else-loop-next-test w ↦ absurd (omega arith)
      ];
      last = λ h. absurd (omega arith);
    }

pub returns-else-next-pieces-clause-value : goal.returns-else-next-pieces-clause-value
returns-else-next-pieces-clause-value c =
    let was = c.loop-next.invariant in
    let ps = c.args.pieces.now in
    let k = c.loop-next.next in
    let end : end_at c.args.start.first ps k ≡ end_at c.args.start.first ps (length ps) =
    ap (end_at c.args.start.first ps) (omega arith) in
    let is : to_z w64 c.loop-next.from-bits ≡ c.args.at =
    (let e = was.from_is in let ea = to_z-of_z w64 c.args.at c.ranges.at in omega (arith, ints)) in
    was.value_is ∙ ap (function_of c.args.start ps) is
