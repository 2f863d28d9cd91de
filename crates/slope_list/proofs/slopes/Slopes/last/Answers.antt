use Rattle.slope_list.proofs.Common.{◌≡◌, take, sym, ap, ◌∙◌, subst, rules, ℤ, FitsSigned, w64, to_z-of_z, Table}
use Rattle.slope_list.proofs.Common.{last_power, table_after, IsLast}
use Rattle.slope_list.proofs.slopes.Slopes.last.Goals as goal

pub returns-in-Some : goal.returns-in-Some
returns-in-Some c =
    let self = c.args.self.now in
    let made = c.in-Some.made in
    let slopes = self.valid.slopes made c.in-Some.is in
    let f : FitsSigned w64 made.start.first = search rules in
    let g : FitsSigned w64 c.last_power.result = search rules in
    let e = ap (table_after self.pieces.items) c.in-Some.is in
    let last : c.last_power.result ≡ last_power made.start.first (take made.used self.pieces.items) =
    rw (to_z-of_z w64 made.start.first f, c.deref.ensures.value) at c.last_power.ensures in
    subst (λ (z : ℤ). IsLast (table_after self.pieces.items self.made) z)
    (sym (to_z-of_z w64 c.last_power.result g ∙ last))
    (subst (λ (t : Table). IsLast t (last_power made.start.first (take made.used self.pieces.items))) (sym e)
    (c.pieces_begin_and_end.ensures.last made.start (take made.used self.pieces.items) slopes))
