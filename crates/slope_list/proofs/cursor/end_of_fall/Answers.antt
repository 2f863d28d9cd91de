use Rattle.slope_list.proofs.Common.{sym, subst, ◌∙◌, arith, rules, ℤ, FitsSigned, w64, ints, to_z-of_z, last_power}
use Rattle.slope_list.proofs.Common.{function_of, IsValley}
use Rattle.slope_list.proofs.Lemmas.{valley_at}
use Rattle.slope_list.proofs.cursor.end_of_fall.Goals as goal
use Rattle.slope_list.proofs.cursor.end_of_fall.Goals.{then-loop-next-test+else-pieces-next-lt0, else-loop-next-test}

pub returns-clause-valley : goal.returns-clause-valley
returns-clause-valley c =
    let was = c.loop-next.invariant in
    let f : FitsSigned w64 c.end_of_pieces.result = search rules in
    let g : FitsSigned w64 c.args.start.first = search rules in
    let is = to_z-of_z w64 c.end_of_pieces.result f ∙ (rw (to_z-of_z w64 c.args.start.first g) at
    c.end_of_pieces.ensures) in
    subst (λ (z : ℤ). IsValley (function_of c.args.start c.args.pieces.now) c.args.start.first
    (last_power c.args.start.first c.args.pieces.now) z) (sym is)
    (valley_at c.args.start c.args.pieces.now c.requires.slopes c.loop-next.next was.some was.falls
    (λ h. elim c.loop-next-test.branch [
      | then-loop-next-test+else-pieces-next-lt0 w ↦ omega (arith, ints)
      | else-loop-next-test w ↦ absurd (omega arith)
    ]))
