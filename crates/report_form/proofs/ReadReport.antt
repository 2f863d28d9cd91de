-- A report, read back from its text block by block.
use Rattle.report_form.proofs.Common.{◌≡◌, ℕ, List, ◌++◌, length, sym, ◌∙◌, append_assoc, flat_map, Report}
use Rattle.report_form.proofs.Common.{head_text, rows_text, chosen_text, thermal_text, renewable_text, bid_text}
use Rattle.report_form.proofs.Common.{foot_text, report_text, TextDeterminesReport}
use Rattle.report_form.proofs.ReadLines.{read_head, read_rows, read_chosen, read_units, foot_begins, read_foot}

-- what comes behind the first lines
abbrev rest_text : Report → List ℕ
rest_text r =
    rows_text 1 r.rows
    ++ (chosen_text r.chosen r.value
    ++ (flat_map thermal_text r.thermal ++ (flat_map renewable_text
    r.renewable ++ (flat_map bid_text r.bids ++ foot_text r.surplus r.payments r.gap))))

opened : (r : Report) → report_text r ≡ head_text r.periods r.units r.budget r.ahead r.cost (length r.rows) ++ rest_text
    r
unfolding report_text
opened r = simp append_assoc

pub text_determines : TextDeterminesReport
text_determines a b h k same =
    let head = read_head a.periods a.units a.budget a.ahead (length a.rows) a.cost b.periods b.units b.budget b.ahead
    (length b.rows) b.cost (rest_text a) (rest_text b)
    (sym (opened a) ∙ same ∙ opened b) in
    let rows = read_rows 1 a.rows b.rows _ _ head.0.proposals head.1 in
    let chosen = read_chosen a.chosen b.chosen a.value b.value _ _ rows.1 in
    let units = read_units a.thermal b.thermal a.renewable b.renewable a.bids b.bids _ _ h.renewable k.renewable h.bids
    k.bids (foot_begins a.surplus a.payments a.gap) (foot_begins b.surplus b.payments b.gap) chosen.2 in
    let foot = read_foot a.surplus a.payments a.gap b.surplus b.payments b.gap units.3 in
    λ i. record {
      periods = head.0.periods i;
      units = head.0.units i;
      budget = head.0.budget i;
      ahead = head.0.ahead i;
      cost = head.0.cost i;
      rows = rows.0 i;
      chosen = chosen.0 i;
      value = chosen.1 i;
      thermal = units.0 i;
      renewable = units.1 i;
      bids = units.2 i;
      surplus = foot.0 i;
      payments = foot.1 i;
      gap = foot.2 i;
    }
