-- The powers and values of a shape are within the limits.
use Rattle.std.proofs.Common.{List}
use Rattle.std.specs.Prelude.{ℤ}
use Rattle.level_table.specs.Values.{table, AreWithin}
use Rattle.slope_list.proofs.Lookup.{within_by_index}
use Rattle.slope_list.specs.Table.{IsWithinLimits}

pub within_limits : (lo : ℤ) (values : List ℤ) → AreWithin lo values → IsWithinLimits (table lo values)
within_limits lo values h = within_by_index (table lo values) h.powers h.amounts
