use Rattle.gap_proof.proofs.Common.{◌≡◌, suc, pos, ◌*ℤ◌, map, take, total, IsFrom, power_in, reserve_in, weighed}
use Rattle.gap_proof.specs.Mixtures.{entry_of}
use Rattle.gap_proof.proofs.MixtureSumLaws.{weight_of}
use Rattle.gap_proof.proofs.mixture_sums.weighted_output_of_entries.Given as goal

abbrev pub invariant-loop-entry : goal.invariant-loop-entry
invariant-loop-entry l = record {
  power : l.given.power ≡ weighed (λ s. power_in s (suc l.index)) (take l.entry-index (map entry_of l.entries));
  reserve : l.given.reserve ≡ weighed (λ s. reserve_in s (suc l.index)) (take l.entry-index (map entry_of l.entries));
  power_limit : IsFrom (pos 0) (pos 4294967296 *ℤ total (map weight_of (take l.entry-index (map entry_of l.entries))))
      l.given.power;
  reserve_limit : IsFrom (pos 0) (pos 4294967296 *ℤ total (map weight_of (take l.entry-index (map entry_of l.entries))))
      l.given.reserve;
}
