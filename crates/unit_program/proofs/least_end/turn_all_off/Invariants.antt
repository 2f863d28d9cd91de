use Rattle.unit_program.proofs.Common.{◌≡◌, ℕ, ◌<◌, length, get_or, false}
use Rattle.unit_program.proofs.least_end.turn_all_off.Given as goal

abbrev pub invariant-loop-index : goal.invariant-loop-index
invariant-loop-index l = record {
  length_is : length l.into.response.on.items ≡ length l.fn.into.response.on.items;
  off : (k : ℕ) → k < l.index → get_or l.into.response.on.items k false ≡ false;
  power : (k : ℕ) → k < l.index → get_or l.into.response.power.items k 0 ≡ 0;
  reserve : (k : ℕ) → k < l.index → get_or l.into.response.reserve.items k 0 ≡ 0;
}
