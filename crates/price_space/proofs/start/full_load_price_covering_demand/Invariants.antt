use Rattle.price_space.proofs.Common.{◌≡◌, ◌*◌, ◌<◌, ◌≤◌, take, pos, ◌<ℤ◌, sum_by}
use Rattle.price_space.proofs.Lemmas.{power_of}
use Rattle.price_space.proofs.start.full_load_price_covering_demand.Given as goal

abbrev pub invariant-loop-unit : goal.invariant-loop-unit
invariant-loop-unit l = record {
  so_far : l.power ≡ sum_by power_of (take l.unit-index l.units);
  too_little : 0 < l.unit-index → pos l.power <ℤ l.short;
  bound : l.power ≤ l.unit-index * 10000000;
}
