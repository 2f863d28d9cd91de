use Rattle.report_read.proofs.Common.{sym, ◌∙◌, codes, refl}
use Rattle.report_read.proofs.Lemmas.{flags_are, powers_are}
use Rattle.report_read.proofs.units.read_thermal_response.Goals as goal

pub invariant_of-result : goal.invariant_of-result
invariant_of-result c =
    let on = flags_are (codes "on") c.args.periods c.args.reader.now.rest.now c.in_ok-on.on.items
    c.read_list_line.new.reader.rest.now refl
    c.in_ok-on.ensures in
    let power = powers_are (codes "power") c.args.periods c.read_list_line.new.reader.rest.now c.in_ok-power.power.items
    c.read_list_line-2.new.reader.rest.now refl c.in_ok-power.ensures in
    let reserve = powers_are (codes "reserve") c.args.periods c.read_list_line-2.new.reader.rest.now
    c.in_ok-reserve.reserve.items
    c.read_list_line-3.new.reader.rest.now refl c.in_ok-reserve.ensures in
    record {
      valid = record {
        power = power.length_is ∙ sym on.length_is;
        reserve =
            reserve.length_is ∙ sym on.length_is;
      };
    }
