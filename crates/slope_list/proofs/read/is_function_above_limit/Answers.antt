use Rattle.slope_list.proofs.Common.{arith, rules, to_z, FitsSigned, ◌+ℤ◌, ◌<ℤ◌, w64, OnTrue_from, ints, to_z-of_z}
use Rattle.slope_list.proofs.Common.{IsAbove, piece, last_power, function_of, table_of}
use Rattle.slope_list.proofs.Lemmas.{fallen_none, fallen_goes, fallen_on, fallen_amount, fallen_valley, above_all}
use Rattle.slope_list.proofs.read.is_function_above_limit.Goals as goal

pub loop-piece-init : goal.loop-piece-init
loop-piece-init c =
    let f : FitsSigned w64 c.args.start.first = search rules in
    let g : FitsSigned w64 c.args.start.level = search rules in
    rw (to_z-of_z w64 c.args.start.first f, to_z-of_z w64 c.args.start.level g)
    (fallen_none c.args.start c.args.pieces.now c.requires.slopes)

pub value_at_power_in_piece-value-requires : goal.value_at_power_in_piece-value-requires
value_at_power_in_piece-value-requires c =
    let end = (piece c.args.pieces.now c.loop-piece.piece-index).end in
    let fe : FitsSigned w64 end = search rules in
    rw (to_z-of_z w64 end fe) (fallen_goes c.args.start c.args.pieces.now c.requires.slopes c.loop-piece.piece-index _ _
    c.loop-piece.invariant c.requires.within c.loop-piece-test.true)

pub loop-piece-preserved : goal.loop-piece-preserved
loop-piece-preserved c =
    let end = (piece c.args.pieces.now c.loop-piece.piece-index).end in
    let fe : FitsSigned w64 end = search rules in
    let fr : FitsSigned w64 c.value_at_power_in_piece-value.result = search rules in
    let ee = to_z-of_z w64 end fe in
    rw (ee, to_z-of_z w64 c.value_at_power_in_piece-value.result fr)
    (fallen_on c.args.start c.args.pieces.now c.requires.slopes c.loop-piece.piece-index _ _ c.loop-piece.invariant
    c.requires.within c.loop-piece-test.true c.value_at_power_in_piece-value.result
    (rw ee at c.value_at_power_in_piece-value.ensures)
    (omega (arith, ints)))

pub is_shifted_value_above_limit-requires-clause-value : goal.is_shifted_value_above_limit-requires-clause-value
is_shifted_value_above_limit-requires-clause-value c = fallen_amount c.args.start c.args.pieces.now c.requires.slopes
    c.loop-piece.piece-index _ _ c.loop-piece.invariant c.requires.within (omega arith)

pub is_shifted_value_above_limit-requires-2-clause-value : goal.is_shifted_value_above_limit-requires-2-clause-value
is_shifted_value_above_limit-requires-2-clause-value c = fallen_amount c.args.start c.args.pieces.now c.requires.slopes
    c.loop-piece.piece-index _ _ c.loop-piece.invariant c.requires.within (omega arith)

pub returns-then-piece-ge0 : goal.returns-then-piece-ge0
returns-then-piece-ge0 c =
    let v = fallen_valley c.args.start c.args.pieces.now c.requires.slopes c.loop-piece.piece-index _ _
    c.loop-piece.invariant (omega arith) (λ h. omega (arith, ints)) in
    let over : c.args.limit <ℤ (to_z w64 c.loop-piece.value-bits +ℤ c.args.shift) =
    rw (to_z-of_z w64 c.args.shift c.ranges.shift, to_z-of_z w64 c.args.limit c.ranges.limit) at
    (c.is_shifted_value_above_limit.ensures (search rules)) in
    above_all (function_of c.args.start c.args.pieces.now) c.args.start.first
    (last_power c.args.start.first c.args.pieces.now) (to_z w64 c.loop-piece.at-bits) v c.args.shift c.args.limit
    (omega (arith, ints))

pub returns : goal.returns
returns c =
    let v = fallen_valley c.args.start c.args.pieces.now c.requires.slopes c.loop-piece.piece-index _ _
    c.loop-piece.invariant (omega arith) (λ h. absurd (omega arith)) in
    OnTrue_from c.is_shifted_value_above_limit-2.result
    (IsAbove (table_of c.args.start c.args.pieces.now) c.args.shift c.args.limit)
    (λ t.
    let over : c.args.limit <ℤ (to_z w64 c.loop-piece.value-bits +ℤ c.args.shift) =
    rw (to_z-of_z w64 c.args.shift c.ranges.shift, to_z-of_z w64 c.args.limit c.ranges.limit) at
    (c.is_shifted_value_above_limit-2.ensures t) in
    above_all (function_of c.args.start c.args.pieces.now) c.args.start.first
    (last_power c.args.start.first c.args.pieces.now) (to_z w64 c.loop-piece.at-bits) v c.args.shift c.args.limit
    (omega (arith, ints)))
