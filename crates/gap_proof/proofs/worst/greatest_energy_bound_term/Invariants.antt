use Rattle.gap_proof.proofs.Common.{ℕ, ◌-◌, pos, ◌+ℤ◌, ◌-ℤ◌, unsigned_abs, market_of, added}
use Rattle.gap_proof.proofs.Concave.{IsBetweenPlaces}
use Rattle.gap_proof.proofs.worst.greatest_energy_bound_term.Given as goal

abbrev pub invariant-loop-first : goal.invariant-loop-first
invariant-loop-first l =
    IsBetweenPlaces (λ (i : ℕ). added (market_of l.case) l.lack.weight l.lack.power l.lack.index
    (l.prices.low +ℤ pos i))
    (unsigned_abs (l.prices.high -ℤ l.prices.low)) l.first l.last

abbrev pub decreases-loop-first : goal.decreases-loop-first
decreases-loop-first l = l.last - l.first
