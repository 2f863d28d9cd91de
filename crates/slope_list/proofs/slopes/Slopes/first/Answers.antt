use Rattle.slope_list.proofs.Common.{take, sym, ap, subst, rules, FitsSigned, w64, to_z-of_z, Table, table_after}
use Rattle.slope_list.proofs.Common.{IsFirst}
use Rattle.slope_list.proofs.slopes.Slopes.first.Goals as goal

pub returns-in-Some : goal.returns-in-Some
returns-in-Some c =
    let self = c.args.self.now in
    let made = c.in-Some.made in
    let slopes = self.valid.slopes made c.in-Some.is in
    let f : FitsSigned w64 made.start.first = search rules in
    let g : FitsSigned w64 made.start.level = search rules in
    let e = ap (table_after self.pieces.items) c.in-Some.is in
    rw (to_z-of_z w64 made.start.first f, to_z-of_z w64 made.start.level g)
    (subst (λ (t : Table). IsFirst t made.start.first made.start.level) (sym e)
    (c.pieces_begin_and_end.ensures.first made.start (take made.used self.pieces.items) slopes))
