use Rattle.price_space.proofs.Common.{◌≡◌, ◌*◌, ◌≤◌, drop, map, pos, ◌+ℤ◌, NamedRenewableUnit, named_renewable_of}
use Rattle.price_space.proofs.Common.{int_at, total}
use Rattle.price_space.proofs.start.greatest_power_of_all_renewables.Given as goal

abbrev pub invariant-loop-named : goal.invariant-loop-named
invariant-loop-named l = record {
  so_far : pos l.power +ℤ total (map (λ (n : NamedRenewableUnit). int_at n.unit.most l.k)
      (map named_renewable_of (drop l.named-index l.case.flat.items)))
      ≡ total (map (λ (n : NamedRenewableUnit). int_at n.unit.most l.k) (map named_renewable_of l.case.flat.items));
  bound : l.power ≤ l.named-index * 1000000000;
}
