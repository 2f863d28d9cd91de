-- The lemmas that answers cite, passed on from one place.
pub use Rattle.slope_list.proofs.BlockLaws.{wide_of, end_of-width, on_curve, rise_to, width_to-next, block_power}
pub use Rattle.slope_list.proofs.BlockLaws.{block_more, in_block_at, block_next, cost_in, price_within}
pub use Rattle.slope_list.proofs.DrawLaws.{same_line, drawn_same, drawn_more}
pub use Rattle.slope_list.proofs.CursorLaws.{placed_after, placed_inside, placed_within, level_from, can_go}
pub use Rattle.slope_list.proofs.CursorLaws.{valley_at}
pub use Rattle.slope_list.proofs.KinkLaws.{end_of_valley, within_from_small, kinked_falls, valley_here, valley_end}
pub use Rattle.slope_list.proofs.KinkLaws.{falls_on, left, left_steep, part_line, part_placed, part_fewer}
pub use Rattle.slope_list.proofs.LineLaws.{line_sum, line_product, line_part}
pub use Rattle.slope_list.proofs.PieceLaws.{ends_rise_to, along_first}
pub use Rattle.slope_list.proofs.RunLaws.{gentle_slope, cursor_in, run_falls, run_rises, cursor_coded, turn_coded}
pub use Rattle.slope_list.proofs.RunLaws.{reach_coded, reach_fits, high_near, last_coded, before_both}
pub use Rattle.slope_list.proofs.ProgressLaws.{before_moved, run_power, run_line, run_placed, IsEnded, run_ended}
pub use Rattle.slope_list.proofs.WindowLaws.{line_level_to, fewer_flat, runs_most, nearest_inside, nearer, falling_at}
pub use Rattle.slope_list.proofs.WindowLaws.{flat_at, rising_at, level_joined, flat_from_line, flat_here}
pub use Rattle.slope_list.proofs.OrderLaws.{same_le, le_lt, le_trans, lt_le_trans}
pub use Rattle.slope_list.proofs.WrapLaws.{coded_is, output_total, fits_less, fits_sum, up_coded, down_coded}
pub use Rattle.slope_list.proofs.WrapLaws.{test_true, test_false, coded_up, fits_up, coded}
pub use Rattle.slope_list.proofs.RangeLaws.{pieces_begin, pieces_end}
pub use Rattle.slope_list.proofs.BelowLaws.{reached_amount, goes_on, end_ahead, end_of_one, fewer, under_on}
pub use Rattle.slope_list.proofs.BelowLaws.{shown_under, part, part_value, part_goes, placed_on}
pub use Rattle.slope_list.proofs.ReadLaws.{fallen_none, fallen_goes, fallen_on, fallen_amount, fallen_valley}
pub use Rattle.slope_list.proofs.ReadLaws.{above_all, HasFallen, IsLeastIn-valley, HasNone-on}
pub use Rattle.slope_list.proofs.ConvexLaws.{convex_at, IsConvex-from_places, IsConvex-line, IsConvex-reserve}
pub use Rattle.slope_list.proofs.ConvexLaws.{IsConvex-window, IsConvex-point, IsConvex-same}
pub use Rattle.slope_list.proofs.CurveLaws.{IsConvex-curve_sum, curve_value-there, IsPlace-on_curve}
pub use Rattle.slope_list.proofs.EffectLaws.{point_is_exact, sum_is_exact, curve_sum_is_exact, window_is_exact}
pub use Rattle.slope_list.proofs.EffectLaws.{sum_is_of_values, curve_sum_is_of_values, window_is_of_values}
