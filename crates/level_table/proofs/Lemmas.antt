-- The lemmas that answers cite, passed on from one place.
pub use Rattle.level_table.proofs.LeastLaws.{IsLeast-from_list, none_between, least_between_is}
pub use Rattle.level_table.proofs.ValueLaws.{AreWithin-from_limits, added_at, IsSum-from_index}
