use Rattle.hull_report.proofs.Common.{subst, flat_map, Gains, FallsShort, share_text}
use Rattle.hull_report.proofs.Lemmas.{first_of_two, last_of_two, share_lines, mixed_as_told}
use Rattle.hull_report.proofs.convex.write_unit_mixture.Goals as goal

pub returns-in_err-write_mixture_unit : goal.returns-in_err-write_mixture_unit
returns-in_err-write_mixture_unit g c =
    let es = c.args.entries.now in
    first_of_two c.texts_written_in_turn_add_up.ensures _ (flat_map share_text (share_lines es)) _
    c.from_residual.ensures.0
    (subst (FallsShort g.S.Sink.held g.S.Sink.faults g.S.Sink.last c.args.out.now c.write_mixture_unit.new.out)
    (mixed_as_told c.args.name.now es) c.in_err-write_mixture_unit.ensures.err)

pub returns : goal.returns
returns g c =
    let es = c.args.entries.now in
    last_of_two c.texts_written_in_turn_add_up.ensures _ (flat_map share_text (share_lines es)) _
    c.write_mixture_entries.ensures
    (subst (Gains g.S.Sink.held g.S.Sink.faults c.args.out.now c.write_mixture_unit.new.out)
    (mixed_as_told c.args.name.now es) c.in_ok-write_mixture_unit.ensures.ok)
