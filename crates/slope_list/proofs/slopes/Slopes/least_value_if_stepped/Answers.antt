use Rattle.slope_list.proofs.Common.{List, MatchOption, None, take, sym, ap, ◌∙◌, subst, rules, with_items_is, places}
use Rattle.slope_list.proofs.Common.{IsStepped, IsSmall, IsLeast, Table, IsEmpty, table_of, table_after, IsTurn}
use Rattle.slope_list.specs.declared.piece.Piece.{Piece}
use Rattle.slope_list.proofs.ShownLaws.{none_at, stepped_nothing, lowest_turned}
use Rattle.slope_list.proofs.slopes.Slopes.least_value_if_stepped.Goals as goal

pub returns-in_default-clause-least : goal.returns-in_default-clause-least
returns-in_default-clause-least c =
    let self = c.args.self.now in
    let nothing : Table = table_after self.pieces.items None in
    let e = ap (table_after self.pieces.items) c.in_default.is in (
      nothing,
      subst (λ (t : Table). IsStepped c.args.step c.args.curve.now t nothing) (sym e)
          (stepped_nothing c.args.step c.args.curve.now),
      none_at,
    )

pub write_stepped_pieces-stepped-requires-clause-small : goal.write_stepped_pieces-stepped-requires-clause-small
write_stepped_pieces-stepped-requires-clause-small c =
    let self = c.args.self.now in
    let e = ap (table_after self.pieces.items) c.in-Some.is in
    rw (c.deref.ensures.value) (subst (λ (t : Table). IsSmall t) e c.requires.small)

pub returns-clause-least : goal.returns-clause-least
returns-clause-least c =
    let self = c.args.self.now in
    let made = c.in-Some.made in
    let before : Table = table_of made.start (take made.used self.pieces.items) in
    let e = ap (table_after self.pieces.items) c.in-Some.is in
    let m = c.write_stepped_pieces-stepped.result.made in
    let out = c.write_stepped_pieces-stepped.new.out in
    let same = c.deref-2.ensures.value ∙ with_items_is c.lengthen_pieces.new.pieces out (search (rules, places)) in
    let step : IsStepped c.args.step c.args.curve.now before (table_after out m) =
    rw (c.deref.ensures.value) at c.write_stepped_pieces-stepped.ensures.stepped in
    let turn : IsTurn c.args.step before c.write_stepped_pieces-stepped.result.turn =
    rw (c.deref.ensures.value) at c.write_stepped_pieces-stepped.ensures.turn in
    let least = subst (λ (xs : List Piece). MatchOption c.least_value_after_step.result (IsEmpty (table_after xs m))
    (λ r. IsLeast (table_after xs m) r.value r.at)) same c.least_value_after_step.ensures.least in
    lowest_turned c.args.step c.args.curve.now (table_after self.pieces.items self.made) (table_after out m)
    c.write_stepped_pieces-stepped.result.turn c.least_value_after_step.result
    (subst (λ (t : Table). IsStepped c.args.step c.args.curve.now t (table_after out m)) (sym e) step) least
    c.least_value_after_step.ensures.turn
    (subst (λ (t : Table). IsTurn c.args.step t c.write_stepped_pieces-stepped.result.turn) (sym e) turn)
