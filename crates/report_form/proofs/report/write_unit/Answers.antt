use Rattle.report_form.proofs.report.write_unit.Goals as goal

pub returns-in-Thermal : goal.returns-in-Thermal
returns-in-Thermal g c = rw c.in-Thermal.is c.write_thermal.ensures

pub returns-in-Renewable : goal.returns-in-Renewable
returns-in-Renewable g c = rw c.in-Renewable.is c.write_always_on_unit_lines.ensures

pub returns-in-Bid : goal.returns-in-Bid
returns-in-Bid g c = rw c.in-Bid.is c.write_always_on_unit_lines-in-Bid.ensures
