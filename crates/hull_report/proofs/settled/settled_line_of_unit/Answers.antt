use Rattle.hull_report.proofs.Common.{pos, sym, ap, ◌∙◌, rules, w64, to_z-of_z, get_or-map, get_or_from_slice_get}
use Rattle.hull_report.proofs.Common.{arith, length-map, schedule_of}
use Rattle.hull_report.specs.SettledText.{no_schedule}
use Rattle.hull_report.proofs.settled.settled_line_of_unit.Goals as goal

pub returns : goal.returns
returns c =
    let s = c.args.settled.now in
    let n = c.args.number in
    let earned = to_z-of_z w64 c.get.result.now (search rules)
    ∙ sym (get_or_from_slice_get s.earned.items n c.get.result.now (pos 0) c.get.ensures.item) in
    let scheduled = to_z-of_z w64 c.get-2.result.now (search rules)
    ∙ sym (get_or_from_slice_get s.settlement.scheduled.items n c.get-2.result.now (pos 0) c.get-2.ensures.item) in
    let payment = to_z-of_z w64 c.get-3.result.now (search rules)
    ∙ sym (get_or_from_slice_get s.settlement.payments.items n c.get-3.result.now (pos 0) c.get-3.ensures.item) in
    let responses = s.responses.responses.items in
    let inside = c.requires.responses in
    let long = length-map responses schedule_of in
    let response = ap schedule_of (sym c.get-response.ensures.value)
    ∙ sym (get_or-map schedule_of responses n c.get-response.result.now no_schedule (omega (arith, inside, long))) in
    λ name i. record {
      name = name;
      earned = earned i;
      scheduled = scheduled i;
      payment = payment i;
      response = response i;
    }
