use Rattle.hull_report.proofs.Common.{arith, rules, w64, to_z-of_z, share_text, share_line, entry_of}
use Rattle.hull_report.proofs.Lemmas.{gains_at_item, exit_at_item, all_items, share_lines, length-shares, entry_at}
use Rattle.hull_report.proofs.convex.write_mixture_entries.Goals as goal

pub returns-in_err-write_mixture_entry : goal.returns-in_err-write_mixture_entry
returns-in_err-write_mixture_entry g c =
    let es = c.args.entries.now in
    let e = c.entry-item.result in
    let here = entry_at es c.loop-entry.entry-index e (omega arith) c.entry-item.is in
    exit_at_item c.texts_written_in_turn_add_up.ensures share_text (share_lines es) c.loop-entry.entry-index
    (share_line (entry_of e)) _
    c.from_residual.ensures.0 here.inside here.is
    (rw (to_z-of_z w64 e.weight (search rules)) at c.in_err-write_mixture_entry.ensures.err) c.loop-entry.invariant

pub loop-entry-preserved : goal.loop-entry-preserved
loop-entry-preserved g c =
    let es = c.args.entries.now in
    let e = c.entry-item.result in
    let here = entry_at es c.loop-entry.entry-index e (omega arith) c.entry-item.is in
    gains_at_item c.texts_written_in_turn_add_up.ensures share_text (share_lines es) c.loop-entry.entry-index
    (share_line (entry_of e))
    here.inside here.is (rw (to_z-of_z w64 e.weight (search rules)) at c.in_ok-write_mixture_entry.ensures.ok)
    c.loop-entry.invariant

pub returns : goal.returns
returns g c =
    let long = length-shares c.args.entries.now in
    all_items share_text (share_lines c.args.entries.now) c.loop-entry.entry-index (omega (arith, long))
    c.loop-entry.invariant
