-- The lemmas that answers cite, passed on from one place.
pub use Rattle.cost_curve.proofs.BuildLaws.{IsBuilt-start, IsBuilt-edge, IsCostCurve-built, CanEvaluate-curve}
pub use Rattle.cost_curve.proofs.BuildLaws.{length-extended, last_power}
pub use Rattle.cost_curve.proofs.CostLaws.{x_power, line_within, edge_value, edge_limit, product_fits, cost_fits}
pub use Rattle.cost_curve.proofs.CostLaws.{cost_is, near, far, total_fits, total_is}
pub use Rattle.cost_curve.proofs.EdgeLaws.{ordered_powers, IsVertex-next, IsBetter, IsWorse, IsVertex-start}
pub use Rattle.cost_curve.proofs.WayLaws.{IsStart-one, IsWayOn-passes, LeadsOn-first, LeadsOn-takes, LeadsOn-keeps}
pub use Rattle.cost_curve.proofs.WayLaws.{IsWayOn-none, IsStart-keeps, IsStart-takes}
