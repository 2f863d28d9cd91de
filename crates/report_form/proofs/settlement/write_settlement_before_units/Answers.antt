use Rattle.report_form.proofs.Common.{ap, subst, rules, w128, to_z-of_z, FallsShort, Gains, opening_text, levels_text}
use Rattle.report_form.proofs.Common.{priced_text, proposal_of}
use Rattle.report_form.proofs.GrownLemmas.{short_more, writes_exit, writes_then}
use Rattle.report_form.proofs.settlement.write_settlement_before_units.Goals as goal

pub returns-in_err-write_settlement_opening : goal.returns-in_err-write_settlement_opening
unfolding priced_text
returns-in_err-write_settlement_opening g c =
    writes_exit _ _ c.from_residual.ensures.0
    (short_more _ (levels_text (proposal_of c.args.row.now))
    (subst (FallsShort g.S.Sink.held g.S.Sink.faults g.S.Sink.last c.args.out.now c.write_settlement_opening.new.out)
    (ap (opening_text c.args.periods c.args.units) (to_z-of_z w128 c.args.cost (search rules)))
    c.in_err-write_settlement_opening.ensures.err))

pub returns : goal.returns
unfolding priced_text
returns g c =
    writes_then _ _ _ c.write_prices_and_totals.ensures
    (subst (Gains g.S.Sink.held g.S.Sink.faults c.args.out.now c.write_settlement_opening.new.out)
    (ap (opening_text c.args.periods c.args.units) (to_z-of_z w128 c.args.cost (search rules)))
    c.in_ok-write_settlement_opening.ensures.ok)
