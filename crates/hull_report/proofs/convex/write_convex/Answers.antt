use Rattle.hull_report.proofs.Common.{subst, rules, w64, w128, to_z-of_z, market_of, settled_of, mixture_of, Gains}
use Rattle.hull_report.proofs.Common.{FallsShort, searched_text, proposal_of}
use Rattle.hull_report.proofs.Lemmas.{first_of_three, second_of_three, last_of_three, whole_search, writes_same}
use Rattle.hull_report.proofs.convex.write_convex.Goals as goal

pub returns-in_err-write_convex_lines_before_units : goal.returns-in_err-write_convex_lines_before_units
returns-in_err-write_convex_lines_before_units g c =
    let n = c.args.numbers in
    let case = c.args.case.now in
    writes_same (whole_search (market_of case) c.args.cost (settled_of c.args.settled.now) (mixture_of
    c.args.mixture.now)
    n.within n.rounds n.made n.bound)
    (first_of_three c.texts_written_in_turn_add_up.ensures _ _ _ _ c.from_residual.ensures.0
    (subst (FallsShort g.S.Sink.held g.S.Sink.faults g.S.Sink.last c.args.out.now
    c.write_convex_lines_before_units.new.out)
    (λ i. searched_text case.periods (c.unit_count.ensures.value i) (to_z-of_z w128 c.args.cost (search rules) i)
    (to_z-of_z w64 n.within (search rules) i) n.rounds n.made (proposal_of c.args.settled.now.row))
    c.in_err-write_convex_lines_before_units.ensures.err))

pub returns-in_err-write_settled_units : goal.returns-in_err-write_settled_units
returns-in_err-write_settled_units g c =
    let n = c.args.numbers in
    let case = c.args.case.now in
    writes_same (whole_search (market_of case) c.args.cost (settled_of c.args.settled.now) (mixture_of
    c.args.mixture.now)
    n.within n.rounds n.made n.bound)
    (second_of_three c.texts_written_in_turn_add_up.ensures _ _ _ _ c.from_residual-in_err-write_settled_units.ensures.0
    c.in_err-write_settled_units.ensures.err
    (subst (Gains g.S.Sink.held g.S.Sink.faults c.args.out.now c.write_convex_lines_before_units.new.out)
    (λ i. searched_text case.periods (c.unit_count.ensures.value i) (to_z-of_z w128 c.args.cost (search rules) i)
    (to_z-of_z w64 n.within (search rules) i) n.rounds n.made (proposal_of c.args.settled.now.row))
    c.in_ok-write_convex_lines_before_units.ensures.ok))

pub returns : goal.returns
returns g c =
    let n = c.args.numbers in
    let case = c.args.case.now in
    let ending = rw (to_z-of_z w128 c.args.cost (search rules), to_z-of_z w128 n.bound (search rules)) at
    c.write_convex_ending.ensures in
    writes_same (whole_search (market_of case) c.args.cost (settled_of c.args.settled.now) (mixture_of
    c.args.mixture.now)
    n.within n.rounds n.made n.bound)
    (last_of_three c.texts_written_in_turn_add_up.ensures _ _ _ _ ending c.in_ok-write_settled_units.ensures.ok
    (subst (Gains g.S.Sink.held g.S.Sink.faults c.args.out.now c.write_convex_lines_before_units.new.out)
    (λ i. searched_text case.periods (c.unit_count.ensures.value i) (to_z-of_z w128 c.args.cost (search rules) i)
    (to_z-of_z w64 n.within (search rules) i) n.rounds n.made (proposal_of c.args.settled.now.row))
    c.in_ok-write_convex_lines_before_units.ensures.ok))
