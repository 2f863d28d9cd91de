use Rattle.slope_list.proofs.Common.{arith, to_z, of_z, w64, FitsSigned, rules, ints, to_z-of_z, piece}
use Rattle.slope_list.proofs.Lemmas.{left, left_steep, part_line, part_placed, part_fewer}
use Rattle.slope_list.proofs.kink.part_less_reserve.Goals as goal
use Rattle.slope_list.proofs.kink.part_less_reserve.Goals.{then-piece-whole, else-piece-whole}

pub returns-clause-line : goal.returns-clause-line
returns-clause-line c = λ start slopes placed.
    let q = c.piece_less_reserve-piece.result in
    let ps = c.args.pieces.now in
    let fe : FitsSigned w64 q.end = search rules in
    let fs : FitsSigned w64 q.slope = search rules in
    let l = left c.args.step c.requires.fair c.args.cursor.at (piece ps c.args.cursor.next) q c.requires.to
    c.piece_less_reserve-piece.ensures in
    rw (to_z-of_z w64 q.end fe, to_z-of_z w64 q.slope fs)
    (part_line ps c.args.step c.args.cursor q c.requires.next l start slopes placed)

pub returns-clause-placed : goal.returns-clause-placed
returns-clause-placed c = λ first slopes placed.
    let q = c.piece_less_reserve-piece.result in
    let ps = c.args.pieces.now in
    let fe : FitsSigned w64 q.end = search rules in
    let l = left c.args.step c.requires.fair c.args.cursor.at (piece ps c.args.cursor.next) q c.requires.to
    c.piece_less_reserve-piece.ensures in
    part_placed ps c.args.step c.args.cursor (record { at = to_z w64 (of_z w64 q.end); next = c.if-piece-whole.next }) q
    c.requires.next l (to_z-of_z w64 q.end fe)
    (λ h. elim c.if-piece-whole.branch [
      | then-piece-whole w ↦ omega arith
      | else-piece-whole w ↦
          absurd (omega (arith, ints))
    ])
    (λ h. elim c.if-piece-whole.branch [
      | then-piece-whole w ↦ absurd (omega (arith, ints))
      | else-piece-whole w ↦
          omega arith
    ])
    first slopes placed

pub returns-clause-fewer : goal.returns-clause-fewer
returns-clause-fewer c =
    let q = c.piece_less_reserve-piece.result in
    let ps = c.args.pieces.now in
    let fe : FitsSigned w64 q.end = search rules in
    let l = left c.args.step c.requires.fair c.args.cursor.at (piece ps c.args.cursor.next) q c.requires.to
    c.piece_less_reserve-piece.ensures in
    part_fewer ps c.args.step c.args.cursor (record { at = to_z w64 (of_z w64 q.end); next = c.if-piece-whole.next }) q
    c.requires.next l (to_z-of_z w64 q.end fe)
    (λ h. elim c.if-piece-whole.branch [
      | then-piece-whole w ↦ omega arith
      | else-piece-whole w ↦
          absurd (omega (arith, ints))
    ])
    (λ h. elim c.if-piece-whole.branch [
      | then-piece-whole w ↦ absurd (omega (arith, ints))
      | else-piece-whole w ↦
          omega arith
    ])

pub returns-clause-steep : goal.returns-clause-steep
returns-clause-steep c =
    let q = c.piece_less_reserve-piece.result in
    let ps = c.args.pieces.now in
    let fs : FitsSigned w64 q.slope = search rules in
    let s = left_steep c.args.step c.requires.fair c.args.cursor.at (piece ps c.args.cursor.next) q c.requires.to
    c.piece_less_reserve-piece.ensures (c.requires.gentle c.args.cursor.next c.requires.next) in
    rw (to_z-of_z w64 q.slope fs) s
