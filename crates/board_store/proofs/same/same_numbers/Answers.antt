use Rattle.board_store.proofs.Common.{sym, ◌∙◌}
use Rattle.std.specs.Cmp.Rules.{signed_items}
use Rattle.board_store.proofs.same.same_numbers.Goals as goal

pub returns : goal.returns
returns c =
    let told = signed_items c.args.a.now c.args.b.now in
    ((λ yes. told.0 (sym c.eq.ensures ∙ yes)), λ same. c.eq.ensures ∙ told.1 same)
