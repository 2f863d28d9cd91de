use Rattle.text_tokens.proofs.Common.{sym, ◌∙◌}
use Rattle.text_tokens.proofs.Lemmas.{cut_up, cut_down}
use Rattle.text_tokens.proofs.decimal.nearest_quotient.Goals as goal

pub returns-then-rounds_up : goal.returns-then-rounds_up
returns-then-rounds_up c = cut_up c.args.negative c.args.digits c.args.unit c.requires.some
    (sym c.rounds_up.ensures ∙ c.if-rounds_up.true)

pub returns-else-rounds_up : goal.returns-else-rounds_up
returns-else-rounds_up c = cut_down c.args.negative c.args.digits c.args.unit c.requires.some
    (sym c.rounds_up.ensures ∙ c.if-rounds_up.false)
