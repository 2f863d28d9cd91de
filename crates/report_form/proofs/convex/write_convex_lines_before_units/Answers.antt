use Rattle.report_form.proofs.Common.{levels_text, searched_text, proposal_of}
use Rattle.report_form.proofs.GrownLemmas.{short_more, writes_exit, writes_then}
use Rattle.report_form.proofs.convex.write_convex_lines_before_units.Goals as goal

pub returns-in_err-write_convex_opening : goal.returns-in_err-write_convex_opening
unfolding searched_text
returns-in_err-write_convex_opening g c =
    writes_exit _ _ c.from_residual.ensures.0
    (short_more _ (levels_text (proposal_of c.args.row.now)) c.in_err-write_convex_opening.ensures.err)

pub returns : goal.returns
unfolding searched_text
returns g c = writes_then _ _ _ c.write_prices_and_totals.ensures c.in_ok-write_convex_opening.ensures.ok
