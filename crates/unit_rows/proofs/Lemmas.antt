-- The lemmas that answers cite, passed on from one place.
pub use Rattle.plain_lists.proofs.ListLaws.{get_set_same, get_set_other, if_some}
pub use Rattle.unit_rows.proofs.BeginLaws.{begun, within_first}
pub use Rattle.unit_rows.proofs.OriginLaws.{begun_right, begun_ripe, none_ripe, put_ripe, IsLeastUpTo, one_more}
pub use Rattle.unit_rows.proofs.OriginLaws.{least_of_origins, none_of_origins, right_more, ripe_later, ripe_or_there}
pub use Rattle.unit_rows.proofs.OriginLaws.{cleared}
pub use Rattle.unit_rows.proofs.RowLaws.{cost_from, cost-is, written_added, written_old}
pub use Rattle.unit_rows.proofs.StartCosts.{start_cost-rises, start_cost-within}
pub use Rattle.unit_rows.proofs.LimitListLaws.{net_beside, net_left, reserve_left, AreLimitsFrom, period_net}
pub use Rattle.unit_rows.proofs.LimitListLaws.{limits_more, limits_whole, price_stored, min_low, period_low}
pub use Rattle.unit_rows.proofs.NetLaws.{known_least, has_least, known_more, none_known}
