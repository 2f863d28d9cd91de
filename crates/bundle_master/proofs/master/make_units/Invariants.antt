use Rattle.std.proofs.Common.{◌≡◌, ◌*◌, replicate, vec_capacity}
use Rattle.bundle_master.proofs.master.make_units.Given as goal

abbrev pub invariant-loop : goal.invariant-loop
invariant-loop l = record {
  so_far : l.units.items
      ≡ replicate l.counter (record { count = 0; places = l.sizes.places; rows = 2 * l.sizes.periods });
  room : vec_capacity l.units ≡ l.sizes.thermal;
}
