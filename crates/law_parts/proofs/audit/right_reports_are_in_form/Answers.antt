use Rattle.law_parts.proofs.Reports.{in_form}
use Rattle.law_parts.proofs.audit.right_reports_are_in_form.Goals as goal

pub returns : goal.returns
returns c =
    in_form c.units_are_within.ensures c.outputs_are_within.ensures c.earnings_are_within.ensures
    c.power_and_reserve_totals_are_within.ensures c.plan_costs_are_within.ensures c.dual_values_are_within.ensures
    c.payments_are_at_least_zero.ensures c.run_prices_are_within.ensures c.right_report_has_form.ensures
    c.report_payments_make_up_the_gap.ensures
