use Rattle.uc_model.proofs.Common.{◌≡◌, map, drop, slice_get, flat_map, items_in, period_numbers}
use Rattle.uc_model.proofs.task_numbers.flattened_bid_blocks_number_at.Given as goal

abbrev pub invariant-loop-period : goal.invariant-loop-period
invariant-loop-period l = record {
  rest : slice_get (flat_map period_numbers (map items_in l.b.blocks.items)) l.place ≡ slice_get
      (flat_map period_numbers (map items_in (drop l.period-index l.b.blocks.items))) l.left;
}
