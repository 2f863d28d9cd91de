use Rattle.gap_proof.proofs.Common.{◌≡◌, ◌+◌, drop, market_of}
use Rattle.gap_proof.specs.Mixtures.{mixture_of}
use Rattle.gap_proof.specs.MixtureRefused.{all_entries, mixture_refusals}
use Rattle.gap_proof.proofs.mixture_check.check_all_schedules_of_mixture.Given as goal

abbrev pub invariant-loop-index : goal.invariant-loop-index
invariant-loop-index l =
    mixture_refusals (market_of l.case) (mixture_of l.mixture)
    ≡ all_entries (market_of l.case).periods (l.index + 1) (drop l.index (market_of l.case).thermal)
    (drop l.index (mixture_of l.mixture).entries)
