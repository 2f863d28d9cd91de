use Rattle.report_compare.proofs.Common.{schedule_of}
use Rattle.report_compare.proofs.Lemmas.{thermal_response, other_response}
use Rattle.report_compare.proofs.units.compare_response.Goals as goal

pub returns-in-Thermal : goal.returns-in-Thermal
returns-in-Thermal c =
    rw c.first_wrong_line.ensures
    (thermal_response c.args.first c.args.kind c.same_flags-on.result c.same_powers-power.result
    c.same_powers-reserve.result (schedule_of c.args.mine.now) (schedule_of c.args.right.now)
    c.in-Thermal.is c.same_flags-on.ensures c.same_powers-power.ensures c.same_powers-reserve.ensures)

pub returns-in-Renewable : goal.returns-in-Renewable
returns-in-Renewable c =
    rw c.first_wrong_line-in-Renewable.ensures
    (other_response c.args.first c.args.kind c.same_powers-power.result (schedule_of c.args.mine.now)
    (schedule_of c.args.right.now) c.in-Renewable.is c.same_powers-power.ensures)
