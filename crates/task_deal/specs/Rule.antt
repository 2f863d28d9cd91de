-- What a queue's passes know of it.
use Rattle.std.specs.Prelude.{◌≡◌, ℕ, ◌+◌, ◌≤◌, List, [], ◌∷◌, ⊤}
use Rattle.task_deal.specs.declared.rule.Account.{Account}

-- f of each, added up. Of a list of numbers: how much they weigh
abbrev pub sum_of : {X : Type 0} → (X → ℕ) → List X → ℕ
sum_of f [] = 0
sum_of f (x ∷ xs) = f x + sum_of f xs

abbrev pub account : ℕ → List ℕ → List ℕ → Account
account parts put taken = record { parts = parts; put = put; taken = taken }

-- a pass that isn't the owner's has put nothing, and with no part it has taken nothing
abbrev pub IsHelper : Account → Type 0
IsHelper v = (v.put ≡ []) × (v.parts ≡ 0 → v.taken ≡ [])

abbrev pub AreHelpers : List Account → Type 0
AreHelpers [] = ⊤
AreHelpers (v ∷ vs) = IsHelper v × AreHelpers vs

-- The first pass is the owner's: it counts the parts that are out. What it put weighs as much as
-- what was taken and what the queue holds, however numbers are weighed: so each number stands
-- equally often on both sides.
abbrev pub IsFair : List ℕ → List Account → Type 0
IsFair items [] = ⊥
IsFair items (o ∷ vs) =
    (o.parts ≡ sum_of (λ v. v.parts) vs)
    × ((h : ℕ → ℕ) →
    sum_of h o.put ≡ (sum_of h o.taken + sum_of (λ v. sum_of h v.taken) vs) + sum_of h items)
    × AreHelpers vs

-- where no part is out, all that was put was taken
abbrev pub IsSettled : Account → Type 0
IsSettled v = v.parts ≡ 0 → (h : ℕ → ℕ) → sum_of h v.put ≡ sum_of h v.taken

-- no more was taken than put, however numbers are weighed
abbrev pub Fits : Account → Type 0
Fits v = (h : ℕ → ℕ) → sum_of h v.taken ≤ sum_of h v.put
