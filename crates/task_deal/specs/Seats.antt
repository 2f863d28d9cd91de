-- What a worker has taken and passed on.
use Rattle.std.specs.Prelude.{◌≡◌, ℕ, ◌+◌, ◌<◌, ◌≤◌, List, length, slice_index_or, Option}
use Rattle.std.specs.Prelude.{MatchOption}
use Rattle.crossbeam_deque.specs.Steals.{MatchSteal}
use Rattle.crossbeam_deque.specs.declared.steal.Steal.{Steal}
use Rattle.crossbeam_deque.specs.Handles.{view, Pass, IsPassOf, worker_deque, stealer_deque}
use Rattle.crossbeam_deque.specs.Handles.{worker_flavor, worker_port, worker_view}
use Rattle.crossbeam_deque.specs.Injected.{injector_view, IsInjectorPassOf}
use Rattle.crossbeam_deque.specs.declared.handles.Stealer.{Stealer}
use Rattle.crossbeam_deque.specs.declared.handles.Worker.{Worker}
use Rattle.std.specs.declared.alloc.Global.{Global}
use Rattle.task_deal.specs.declared.rule.Account.{Account}
use Rattle.task_deal.specs.declared.rule.Shared.{Shared}
use Rattle.task_deal.specs.declared.seat.Seat.{Seat}
use Rattle.task_deal.specs.Rule.{sum_of}

-- how much of it the passes have taken, where numbers are weighed by h
abbrev pub taken_by : (ℕ → ℕ) → List (Pass ℕ Account Global) → ℕ
taken_by h purse = sum_of (λ (p : Pass ℕ Account Global). sum_of h (view p).taken) purse

-- the same of a deque's owner, and how much it has put
abbrev pub own_taken : {Q : Type 0} → (ℕ → ℕ) → Worker ℕ Global Account Q → ℕ
own_taken h w = sum_of h (worker_view w).taken

abbrev pub own_put : {Q : Type 0} → (ℕ → ℕ) → Worker ℕ Global Account Q → ℕ
own_put h w = sum_of h (worker_view w).put

-- what a worker has taken from all queues, and put into its own
abbrev pub gained : (ℕ → ℕ) → Seat → ℕ
gained h s =
    sum_of h (injector_view s.source).taken + (own_taken h s.own + taken_by h s.purse.items)

abbrev pub passed_on : (ℕ → ℕ) → Seat → ℕ
passed_on h s = own_put h s.own

-- what it gained beyond what it passed on
abbrev pub Gains : ((ℕ → ℕ) → ℕ) → Seat → Seat → Type 0
Gains more s t = (h : ℕ → ℕ) → gained h t + passed_on h s ≡ (gained h s + passed_on h t) + more h

-- it gained the number that was found, or nothing
abbrev pub Found : Option ℕ → Seat → Seat → Type 0
Found result s t = MatchOption result (Gains (λ h. 0) s t) (λ x. Gains (λ h. h x) s t)

abbrev pub FoundIn : Steal ℕ → Seat → Seat → Type 0
FoundIn result s t =
    MatchSteal result (Gains (λ h. 0) s t) (Gains (λ h. 0) s t) (λ x. Gains (λ h. h x) s t)

-- a pass of this deque, with one part
abbrev pub IsPart : {A P : Type 0} → Stealer ℕ A Account P → Pass ℕ Account A → Type 0
IsPart thief p = IsPassOf (stealer_deque thief) p × ((view p).parts ≡ 1)

-- a pass for each thief
abbrev pub AreParts : {A P : Type 0} → List (Stealer ℕ A Account P) →
    List (Pass ℕ Account A) → Type 0
AreParts {A} {P} thieves purse =
    (length purse ≡ length thieves)
    × ((j : ℕ) (d : Stealer ℕ A Account P) (e : Pass ℕ Account A) → j < length thieves →
    IsPart (slice_index_or thieves j d) (slice_index_or purse j e))

-- it may take from the source and steal from each deque, and owns its own
pub record IsSeatOf (shared : Shared) (s : Seat) : Type 0 where
  pub source : IsInjectorPassOf shared.source s.source
  pub part : (injector_view s.source).parts ≡ 1
  pub flavor : worker_flavor s.own ≡ 0
  pub port : worker_port s.own ≡ 0
  pub purse : AreParts shared.thieves.items s.purse.items

-- its deque is the same, and as many parts of it are out
pub record SameDeque (s t : Seat) : Type 0 where
  pub deque : worker_deque t.own ≡ worker_deque s.own
  pub parts : (worker_view t.own).parts ≡ (worker_view s.own).parts

-- what a list has at its places from lo to before hi
abbrev pub Each : {X : Type 0} → (ℕ → X → Type 0) → ℕ → ℕ → List X → Type 0
Each {X} P lo hi xs = (i : ℕ) (d : X) → lo ≤ i → i < hi → P i (slice_index_or xs i d)

-- the deque of the thief at i, of which k parts are out
pub record Stands {Q : Type 0} (thieves : List (Stealer ℕ Global Account Q)) (k i : ℕ)
    (w : Worker ℕ Global Account Q) : Type 0 where
  pub flavor : worker_flavor w ≡ 0
  pub port : worker_port w ≡ 0
  pub deque :
      (d : Stealer ℕ Global Account Q) →
      worker_deque w ≡ stealer_deque (slice_index_or thieves i d)
  pub parts : (worker_view w).parts ≡ k

-- the owners took more, and put no more
abbrev pub HaveTaken : {Q : Type 0} → ((ℕ → ℕ) → ℕ) →
    List (Worker ℕ Global Account Q) → List (Worker ℕ Global Account Q) → Type 0
HaveTaken more old new =
    (h : ℕ → ℕ) →
    (sum_of (own_taken h) new ≡ sum_of (own_taken h) old + more h)
    × (sum_of (own_put h) new ≡ sum_of (own_put h) old)
