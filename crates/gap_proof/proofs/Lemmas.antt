-- The lemmas that answers cite, passed on from one place.
pub use Rattle.gap_proof.proofs.Bounds.{within_both, sum_step}
pub use Rattle.plain_lists.proofs.SignedLaws.{signed_product_within}
pub use Rattle.gap_proof.proofs.Least.{least_one, least_more, least_from, IsLeastBehind}
pub use Rattle.gap_proof.proofs.RangeLaws.{one_bound}
unfoldable pub use Rattle.gap_proof.proofs.RangeLaws.{back_bounds}
pub use Rattle.gap_proof.proofs.RowLists.{drop_at, item_of, row_prices, none_left}
pub use Rattle.gap_proof.proofs.Running.{before_turn, added_more, IsAddedUpTo}
pub use Rattle.gap_proof.proofs.SumLaws.{sums_more, height_size, weight_size, slope_sizes, bound_is, sums_none}
