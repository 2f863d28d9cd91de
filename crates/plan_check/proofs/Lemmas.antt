-- The lemmas that answers cite, passed on from one place.
pub use Rattle.plan_check.proofs.ChangeLaws.{min_up-ends, min_up-none, changed_here, changed_back, min_down-ends}
pub use Rattle.plan_check.proofs.ChangeLaws.{min_down-none}
pub use Rattle.plan_check.proofs.CostSums.{product_fits, worth_fits, worth_is, worth_within, bought_within, left_fits}
pub use Rattle.plan_check.proofs.CostSums.{rest_is, rest_within, power_spans, cond_at_most}
pub use Rattle.plan_check.proofs.FindLaws.{flat_map_on, flat_map_first, over_units_first, over_units_none}
pub use Rattle.plan_check.proofs.FindLaws.{NoneBefore-more, all_renewable_is, NoneBefore, thermal_rules}
pub use Rattle.plan_check.proofs.FindLaws.{all_thermal_is, all_bids_is}
pub use Rattle.plan_check.proofs.PlanLaws.{first_thermal, first_renewable, first_bid, first_balance, found_last}
pub use Rattle.plan_check.proofs.PlanLaws.{HasLengths, refusals_are_exact}
pub use Rattle.plan_check.proofs.RunLaws.{stops_from, false_true}
pub use Rattle.plan_check.proofs.ShapeLaws.{covers}
pub use Rattle.plan_check.proofs.SystemLaws.{sum_over-more, sum_over-whole, plan_cost_is, total_power_is}
pub use Rattle.plan_check.proofs.SystemLaws.{total_map-append, unbalanced, total_reserve_is}
pub use Rattle.plan_check.proofs.ToldLaws.{told_none, told_first, some_first}
