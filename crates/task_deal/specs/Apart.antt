-- Members, put together and taken apart.
use Rattle.std.specs.Prelude.{◌≡◌, ℕ, List, [], ◌∷◌, ◌++◌}
use Rattle.crossbeam_deque.specs.Injected.{injector_view, IsInjectorPassOf}
use Rattle.crossbeam_deque.specs.declared.injector.Injector.{Injector}
use Rattle.std.specs.declared.alloc.Global.{Global}
use Rattle.task_deal.specs.declared.rule.Account.{Account}
use Rattle.task_deal.specs.declared.seat.Seat.{Seat}
use Rattle.task_deal.specs.declared.member.Member.{Member}
use Rattle.task_deal.specs.Rule.{sum_of}

-- f of each, the last first
abbrev pub backwards : {X Y : Type 0} → (X → Y) → List X → List Y
backwards f [] = []
backwards f (x ∷ xs) = backwards f xs ++ f x ∷ []

-- its pass of the source has one part
abbrev pub HasPart : {P : Type 0} → Injector ℕ Global Account P → Seat → Type 0
HasPart from s = IsInjectorPassOf from s.source × ((injector_view s.source).parts ≡ 1)

-- how much of the source its pass has taken, where numbers are weighed by h
abbrev pub source_taken : {J : Type 0} → (ℕ → ℕ) → Member J → ℕ
source_taken h m = sum_of h (injector_view m.seat.source).taken
