use Rattle.slope_list.proofs.Common.{◌≡◌, ◌+ℤ◌, ◌≤ℤ◌, width_to}
use Rattle.slope_list.proofs.Lemmas.{rise_to}
use Rattle.slope_list.proofs.blocks.cost_and_block_at_power.Given as goal

abbrev pub invariant-loop-index : goal.invariant-loop-index
invariant-loop-index l = record {
  from_is : l.from ≡ l.curve.at +ℤ width_to l.curve.blocks.items l.index;
  value_is : l.value ≡ rise_to l.curve.blocks.items l.index +ℤ l.curve.value;
  low : l.from ≤ℤ l.at;
}
