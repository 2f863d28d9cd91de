use Rattle.slope_list.proofs.Common.{take, ap, subst, Table, IsEmpty, table_after}
use Rattle.slope_list.proofs.ShownLaws.{never}
use Rattle.slope_list.proofs.slopes.Slopes.is_empty.Goals as goal

pub returns-in-Some : goal.returns-in-Some
returns-in-Some c =
    let self = c.args.self.now in
    let made = c.in-Some.field-0 in
    let slopes = self.valid.slopes made c.in-Some.is in
    let e = ap (table_after self.pieces.items) c.in-Some.is in
    let there = (c.pieces_begin_and_end.ensures.first made.start (take made.used self.pieces.items) slopes).there in
    (λ no. absurd (never no), λ h. let none = subst (λ (t : Table). IsEmpty t) e h made.start.first in cc)
