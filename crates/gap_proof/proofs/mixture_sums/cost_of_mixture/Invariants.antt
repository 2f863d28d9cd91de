use Rattle.gap_proof.proofs.Common.{◌≡◌, ◌*◌, List, take, total, zip_with, IsWithin, Thermal, NamedThermalUnit}
use Rattle.gap_proof.proofs.Common.{cost_of, WeighedSchedule, weighed, market_of}
use Rattle.gap_proof.specs.Mixtures.{mixture_of}
use Rattle.gap_proof.proofs.mixture_sums.cost_of_mixture.Given as goal

abbrev pub invariant-loop-index : goal.invariant-loop-index
invariant-loop-index l = record {
  is : l.sum ≡ total
      (zip_with (λ (n : NamedThermalUnit) (es : List WeighedSchedule). weighed (cost_of (Thermal n.unit)) es)
      (take l.index (market_of l.case).thermal) (mixture_of l.mixture).entries);
  limit : IsWithin (1700000000000000000000000000000 * l.index) l.sum;
}
