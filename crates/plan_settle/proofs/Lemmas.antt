-- The lemmas that answers cite, passed on from one place.
pub use Rattle.plan_check.proofs.UnitsApart.{others, plan_apart, plan_count}
pub use Rattle.plan_settle.proofs.Fixing.{fixing, window_length, market_held, held_limits}
pub use Rattle.plan_settle.proofs.Items.{map_item, map_push, zip_more, zip_whole, on_length, mapped_at}
pub use Rattle.plan_settle.proofs.SideLaws.{own_right, bench_over_given, held_lengths, held_side}
