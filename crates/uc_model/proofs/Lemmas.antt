-- The lemmas that answers cite, passed on from one place.
pub use Rattle.uc_model.proofs.Bounds.{costs_within, earnings_within, width-append, power_costs_within, outputs_within}
pub use Rattle.uc_model.proofs.Bounds.{start_costs_within}
pub use Rattle.uc_model.proofs.Duality.{payments_and_surplus, nothing_paid_back, dual_at_most_cost}
pub use Rattle.uc_model.proofs.Places.{period_lists, within_period, behind_period, unit_numbers-fixed}
pub use Rattle.uc_model.proofs.Places.{unit_numbers-lists, task_numbers-energy, task_numbers-reserve, task_numbers-unit}
pub use Rattle.uc_model.proofs.Places.{get_first_of_two, get_second_of_two, list_numbers-lags, list_numbers-count}
pub use Rattle.uc_model.proofs.Places.{list_numbers-points, list_numbers-marks}
pub use Rattle.uc_model.proofs.PlanShapes.{plan_shape, units_numbered, IsAt, thermal_is_at, renewable_is_at, bid_is_at}
pub use Rattle.uc_model.proofs.TotalBounds.{earned_sums_within, dual_values_within, plan_costs_within}
pub use Rattle.uc_model.proofs.TotalBounds.{demand_worth_within, units_within, totals_within}
