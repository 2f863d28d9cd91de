use Rattle.gap_proof.proofs.Common.{◌≡◌, ◌*◌, map, take, total, NamedRenewableUnit, best_sold, IsWithin}
use Rattle.uc_model.specs.PlainCases.{market_of}
use Rattle.gap_proof.proofs.flat.best_earnings_of_all_renewables.Given as goal

abbrev pub invariant-loop-number : goal.invariant-loop-number
invariant-loop-number l = record {
  is : l.sum ≡ total
      (map (λ (n : NamedRenewableUnit). best_sold n.unit l.index l.price) (take l.number (market_of l.case).flat));
  limit : IsWithin (10000000000000000 * l.number) l.sum;
}
