use Rattle.task_deal.proofs.Common.{◌≡◌, ℕ, All, length, sum_of, AreParts, HaveTaken, Each, Stands, taken_by}
use Rattle.task_deal.proofs.open.make_steal_permissions_of_all.Given as goal

abbrev pub invariant-loop-out : goal.invariant-loop-out
invariant-loop-out l = (length l.owns.items ≡ length l.shared.thieves.items) ×
    Each (Stands l.shared.thieves.items l.out) 0 (length l.shared.thieves.items) l.owns.items ×
    HaveTaken (λ h. 0) l.initial.owns.items l.owns.items
    × (length l.purses.items ≡ l.out) × All (λ p. AreParts l.shared.thieves.items p.items) l.purses.items ×
    ((h : ℕ → ℕ) → sum_of (λ p. taken_by h p.items) l.purses.items ≡ 0)
