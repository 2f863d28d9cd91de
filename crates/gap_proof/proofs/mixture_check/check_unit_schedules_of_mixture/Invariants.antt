use Rattle.gap_proof.proofs.Common.{◌≡◌, ◌+◌, map, drop, length, thermal_of}
use Rattle.gap_proof.specs.Mixtures.{entry_of}
use Rattle.gap_proof.specs.MixtureRefused.{entry_refusals}
use Rattle.gap_proof.proofs.mixture_check.check_unit_schedules_of_mixture.Given as goal

abbrev pub invariant-loop-index : goal.invariant-loop-index
invariant-loop-index l =
    entry_refusals (length (thermal_of l.unit).window) l.number (thermal_of l.unit) 1 (map entry_of l.entries)
    ≡ entry_refusals (length (thermal_of l.unit).window) l.number (thermal_of l.unit) (l.index + 1)
    (drop l.index (map entry_of l.entries))
