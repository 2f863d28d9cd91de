use Rattle.gap_proof.proofs.Common.{◌≡◌, map, take, Thermal, cost_of, thermal_of, weighed}
use Rattle.gap_proof.specs.Mixtures.{entry_of}
use Rattle.gap_proof.proofs.MixtureSumLaws.{IsShare}
use Rattle.gap_proof.proofs.mixture_sums.weighted_cost_of_entries.Given as goal

abbrev pub invariant-loop-entry : goal.invariant-loop-entry
invariant-loop-entry l = record {
  is : l.sum ≡ weighed (cost_of (Thermal (thermal_of l.unit))) (take l.entry-index (map entry_of l.entries));
  limit : IsShare 1700000000000000000 l.entry-index (map entry_of l.entries) l.sum;
}
