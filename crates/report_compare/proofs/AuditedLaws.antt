-- What holds of all that is audited.
use Rattle.report_compare.proofs.Common.{◌≡◌, ◌≤◌, map, length, arith, subst, sym, length-map, market_of, schedules_of}
use Rattle.report_compare.proofs.Common.{IsWorth, report_of, told_of}
use Rattle.report_compare.proofs.RightReports.{counted}
use Rattle.report_compare.proofs.Verdicts.{sum_is_worth}
use Rattle.plain_lists.specs.declared.limits.TheConstants.{MOST_UNITS}
use Rattle.uc_model.specs.BoundLaws.{PlanCostsAreWithin}
use Rattle.unit_program.specs.Tops.{HasSchedules}
use Rattle.report_compare.specs.declared.audited.Audited.{Audited}

pub has_schedules : (a : Audited) → HasSchedules (market_of a.case.now)
has_schedules a = (schedules_of a.plan.now, a.feasible.feasible)

pub few_units : (a : Audited) → a.report.now.units ≤ MOST_UNITS
unfolding report_of
few_units a = a.bounds.units_at_most

pub lines_counted : (a : Audited) → length a.report.now.lines.items ≡ a.report.now.units
unfolding report_of
lines_counted a =
    let n = counted 0 (map told_of a.report.now.lines.items) a.order in
    let long = length-map a.report.now.lines.items told_of in
    let lines = a.bounds.lines in
    omega (arith, n, long, lines)

pub cost_is_worth : PlanCostsAreWithin → (a : Audited) → IsWorth a.cost
cost_is_worth law a =
    let sum = law (market_of a.case.now) (schedules_of a.plan.now) a.case.now.valid a.feasible in
    subst IsWorth (sym a.cost_is) (sum_is_worth _ sum)
