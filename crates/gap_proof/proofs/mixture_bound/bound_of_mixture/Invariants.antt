use Rattle.gap_proof.proofs.Common.{◌≡◌, ◌+◌, ◌*◌, ◌+ℤ◌, sum_below, IsWithin, market_of, prices_of, mixture_cost}
use Rattle.gap_proof.proofs.Common.{most_energy, most_reserve}
use Rattle.gap_proof.specs.Mixtures.{mixture_of}
use Rattle.gap_proof.proofs.mixture_bound.bound_of_mixture.Given as goal

abbrev pub invariant-loop-index : goal.invariant-loop-index
invariant-loop-index l = record {
  is : l.sum ≡ mixture_cost (market_of l.case) (mixture_of l.mixture) +ℤ sum_below l.index
      (λ k. most_energy (market_of l.case) (mixture_of l.mixture) (prices_of l.centre) l.radius k +ℤ most_reserve
      (market_of l.case) (mixture_of l.mixture) (prices_of l.centre) l.radius k);
  limit : IsWithin (7000000000000000000000000000000000 + 500000000000000000000000000000000 * l.index) l.sum;
}
