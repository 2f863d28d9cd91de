use Rattle.slope_list.proofs.Common.{kinked, ◌≡◌, subst, sym, arith, ints, ℤ, pos, IsFlat}
use Rattle.slope_list.proofs.Lemmas.{flat_from_line, flat_here}
use Rattle.slope_list.proofs.window.cursor_past_flat_piece.Goals as goal

pub returns-then-part-eq0-clause-flat : goal.returns-then-part-eq0-clause-flat
returns-then-part-eq0-clause-flat c =
    let w = c.args.window.now in
    let k = kinked w.start w.pieces.now w.step in
    let line = c.part_less_reserve-part.ensures.line w.start w.valid.slopes c.requires.placed in
    let none : c.part_less_reserve-part.result.slope ≡ pos 0 = omega (arith, ints) in
    subst (λ (z : ℤ). IsFlat k c.args.cursor.at z) (sym c.part_less_reserve-part.ensures.then)
    (flat_from_line k c.args.cursor.at c.part_less_reserve-part.result.end c.part_less_reserve-part.result.slope
    line none)

pub returns-then-part-eq0-clause-placed : goal.returns-then-part-eq0-clause-placed
returns-then-part-eq0-clause-placed c =
    let w = c.args.window.now in
    c.part_less_reserve-part.ensures.placed w.start.first w.valid.slopes c.requires.placed

pub returns-else-part-eq0-clause-flat : goal.returns-else-part-eq0-clause-flat
returns-else-part-eq0-clause-flat c =
    let w = c.args.window.now in
    flat_here (kinked w.start w.pieces.now w.step) c.args.cursor.at

pub returns-else-cursor-window-clause-flat : goal.returns-else-cursor-window-clause-flat
returns-else-cursor-window-clause-flat c =
    let w = c.args.window.now in
    flat_here (kinked w.start w.pieces.now w.step) c.args.cursor.at
