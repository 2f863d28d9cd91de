use Rattle.slope_list.proofs.Common.{take, sym, ap, subst, rules, ℤ, FitsSigned, w64, to_z-of_z, IsStepped, IsSmall}
use Rattle.slope_list.proofs.Common.{Table, table_of, table_after, IsTurn}
use Rattle.slope_list.proofs.ShownLaws.{stepped_nothing}
use Rattle.slope_list.proofs.slopes.Slopes.step.Goals as goal

pub returns-in-None-clause-stepped : goal.returns-in-None-clause-stepped
returns-in-None-clause-stepped c =
    let self = c.args.self.now in
    let e = ap (table_after self.pieces.items) c.in-None.is in
    subst (λ (t : Table). IsStepped c.args.step c.args.curve.now t t) (sym e)
    (stepped_nothing c.args.step c.args.curve.now)

pub write_stepped_pieces-stepped-requires-clause-small : goal.write_stepped_pieces-stepped-requires-clause-small
write_stepped_pieces-stepped-requires-clause-small c =
    let self = c.args.self.now in
    let made = c.in-Some.made in
    let e = ap (table_after self.pieces.items) c.in-Some.is in
    rw (c.deref.ensures.value) (subst (λ (t : Table). IsSmall t) e c.requires.small)

pub returns-clause-turn : goal.returns-clause-turn
returns-clause-turn c = λ y w h.
    let self = c.args.self.now in
    let made = c.in-Some.made in
    let e = ap (table_after self.pieces.items) c.in-Some.is in
    let f : FitsSigned w64 c.write_stepped_pieces-stepped.result.turn = search rules in
    let t : IsTurn c.args.step (table_of made.start (take made.used self.pieces.items))
    c.write_stepped_pieces-stepped.result.turn = rw (c.deref.ensures.value) at
    c.write_stepped_pieces-stepped.ensures.turn in
    subst (λ (z : ℤ). IsTurn c.args.step (table_after self.pieces.items self.made) z)
    (sym (to_z-of_z w64 c.write_stepped_pieces-stepped.result.turn f))
    (subst (λ (k : Table). IsTurn c.args.step k c.write_stepped_pieces-stepped.result.turn) (sym e) t)
