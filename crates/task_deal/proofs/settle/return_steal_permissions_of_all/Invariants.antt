use Rattle.task_deal.proofs.Common.{◌≡◌, ◌+◌, ℕ, All, length, vec_len, sum_of, AreParts, Each, Stands, taken_by}
use Rattle.task_deal.proofs.Common.{own_taken, own_put}
use Rattle.task_deal.proofs.settle.return_steal_permissions_of_all.Given as goal

abbrev pub decreases-loop-purse : goal.decreases-loop-purse
decreases-loop-purse l = vec_len l.purses

abbrev pub invariant-loop-purse : goal.invariant-loop-purse
invariant-loop-purse l = (length l.owns.items ≡ length l.shared.thieves.items) ×
    All (λ p. AreParts l.shared.thieves.items p.items) l.purses.items ×
    Each (Stands l.shared.thieves.items (length l.purses.items)) 0 (length l.shared.thieves.items) l.owns.items
    × ((h : ℕ → ℕ) →
    (sum_of (own_taken h) l.owns.items + sum_of (λ p. taken_by h p.items) l.purses.items ≡ sum_of (own_taken h)
    l.initial.owns.items + sum_of (λ p. taken_by h p.items) l.initial.purses.items) ×
    (sum_of (own_put h) l.owns.items ≡ sum_of (own_put h) l.initial.owns.items))
