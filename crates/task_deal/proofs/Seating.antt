-- A worker's seat stays at its queues.
use Rattle.task_deal.proofs.Common.{◌≡◌, ◌≢◌, ℕ, ◌<◌, set, slice_index_or, Option, Some, None, refl, ◌∙◌, sym, ap}
use Rattle.task_deal.proofs.Common.{subst, List, length, ⊎_elim, arith, IsPart, AreParts, IsSeatOf, SameDeque, Gains}
use Rattle.task_deal.proofs.Common.{Found, Seat, Shared, worker_flavor, worker_port, worker_deque, worker_view}
use Rattle.task_deal.proofs.Common.{injector_view, IsInjectorPassOf, SamePass, SameWorker, view, MatchOption, Account}
use Rattle.task_deal.proofs.Common.{account, ordered, ◌++◌, ◌∷◌, []}
use Rattle.crossbeam_deque.specs.Steals.{MatchSteal}
use Rattle.crossbeam_deque.specs.declared.steal.Steal.{Steal}
use Rattle.crossbeam_deque.specs.declared.steal.Steal.TheVariants.{Empty, Success, Retry}
use Rattle.std.proofs.Math.ListN.{length-set}
use Rattle.task_deal.proofs.Gaining.{Deque, SourcePass, Thief, ThiefPass, gains_on, gains_none}
use Rattle.task_deal.proofs.Places.{index_any, index_here, index_else, same_or_not}

pub same_self : (s : Seat) → SameDeque s s
same_self s = record { deque = refl; parts = refl }

pub same_on : (s t u : Seat) → SameDeque s t → SameDeque t u → SameDeque s u
same_on s t u a b = record { deque = b.deque ∙ a.deque; parts = b.parts ∙ a.parts }

pub gains_self : (s : Seat) → Gains (λ h. 0) s s
gains_self s = λ h. omega arith

pub found_on : (s t u : Seat) (r : Option ℕ) → Gains (λ h. 0) s t → Found r t u → Found r s u
found_on s t u None a b = gains_none s t u a b
found_on s t u (Some x) a b = gains_on s t u x a b

-- a pass stands for the one at k
pub parts_set : (thieves : List Thief) (purse : List ThiefPass) (k : ℕ) (p : ThiefPass) → k < length thieves →
    ((d : Thief) → IsPart (slice_index_or thieves k d) p) → AreParts thieves purse → AreParts thieves (set purse k p)
parts_set thieves purse k p le part are = (
  simp length-set are.0,
  λ j d e lt. ⊎_elim
      (λ (same : k ≡ j). subst (λ i. IsPart (slice_index_or thieves i d) (slice_index_or (set purse k p) i e)) same
      (subst (IsPart (slice_index_or thieves k d)) (sym (index_here purse k p e (omega (arith, le, are.0)))) (part d)))
      (λ (apart : k ≢ j). subst (IsPart (slice_index_or thieves j d)) (sym (index_else purse k j p e apart))
      (are.1 j d e lt))
      (same_or_not k j),
)

-- a seat with that pass
pub seated : (shared : Shared) (s t : Seat) (k : ℕ) (p : ThiefPass) (v : Thief) → t.source ≡ s.source →
    t.own ≡ s.own → t.purse.items ≡ set s.purse.items k p → k < length shared.thieves.items →
    slice_index_or shared.thieves.items k v ≡ v → IsPart v p → IsSeatOf shared s →
    IsSeatOf shared t × SameDeque s t
seated shared s t k p v es eo ep le at part is = (
  record {
    source = subst (IsInjectorPassOf shared.source) (sym es) is.source;
    part = ap (λ (q : SourcePass). (injector_view q).parts) es ∙ is.part;
    flavor = ap worker_flavor eo ∙ is.flavor;
    port = ap worker_port eo ∙ is.port;
    purse = subst (AreParts shared.thieves.items) (sym ep) (parts_set shared.thieves.items s.purse.items k p le
        (λ d. subst (λ u. IsPart u p) (sym (index_any shared.thieves.items k d v le ∙ at)) part) is.purse);
  },
  record { deque = ap worker_deque eo; parts = ap (λ (w : Deque). (worker_view w).parts) eo },
)

-- the pass that has stolen is still one of its deque, with one part
pub same_part : (thief : Thief) (p q : ThiefPass) → IsPart thief p → SamePass p q → (view q).parts ≡ (view p).parts →
    IsPart thief q
same_part thief p q is same parts = ((same.0 ∙ is.0.0, same.1 ∙ is.0.1, same.3, same.4), parts ∙ is.1)

-- a seat with the pass of the source that has taken
pub took_seat : (shared : Shared) (s : Seat) (p : SourcePass) → IsSeatOf shared s →
    IsInjectorPassOf shared.source p → (injector_view p).parts ≡ (injector_view s.source).parts →
    IsSeatOf shared (record s { source = p })
took_seat shared s p is of parts =
    record { source = of; part = parts ∙ is.part; flavor = is.flavor; port = is.port; purse = is.purse }

-- its deque is the same whatever its pass of the source is
pub same_own : (r s : Seat) (p : SourcePass) → SameDeque r s → SameDeque r (record s { source = p })
same_own r s p same = record { deque = same.deque; parts = same.parts }

-- a seat whose pass and deque have moved on
moved_seat : (shared : Shared) (s : Seat) (pass : SourcePass) (own : Deque) → IsSeatOf shared s →
    IsInjectorPassOf shared.source pass → SameWorker s.own own →
    (injector_view pass).parts ≡ (injector_view s.source).parts → (worker_view own).parts ≡ (worker_view s.own).parts
    → IsSeatOf shared (record s { source = pass; own = own }) × SameDeque s (record s { source = pass; own = own })
moved_seat shared s pass own is of same a b = (
  record { source = of; part = a ∙ is.part; flavor = same.1 ∙ is.flavor; port = same.2 ∙ is.port; purse = is.purse },
  record { deque = same.0; parts = b },
)

-- a seat after a pop of its own deque
pub popped_seat : (shared : Shared) (s : Seat) (own : Deque) (r : Option ℕ) (lost : Type 0) → IsSeatOf shared s →
    SameWorker s.own own
    → MatchOption r ((worker_view own ≡ worker_view s.own) × lost)
    (λ x. worker_view own ≡ account (worker_view s.own).parts (worker_view s.own).put
    ((worker_view s.own).taken ++ x ∷ []))
    → IsSeatOf shared (record s { own = own }) × SameDeque s (record s { own = own })
popped_seat shared s own None lost is same e =
    moved_seat shared s s.source own is is.source same refl (ap (λ (u : Account). u.parts) e.0)
popped_seat shared s own (Some x) lost is same e =
    moved_seat shared s s.source own is is.source same refl (ap (λ (u : Account). u.parts) e)

-- a seat after a batch of the source
pub fetched_seat : (shared : Shared) (s : Seat) (pass : SourcePass) (own : Deque) (limit : ℕ) → IsSeatOf shared s →
    IsInjectorPassOf shared.source pass → SameWorker s.own own → (r : Steal ℕ) (a : Type 0)
    → MatchSteal r ((injector_view pass ≡ injector_view s.source) × (worker_view own ≡ worker_view s.own) × a)
    ((injector_view pass ≡ injector_view s.source) × (worker_view own ≡ worker_view s.own))
    (λ x. (xs : List ℕ) × (length xs < limit) ×
    (injector_view pass ≡ account (injector_view s.source).parts (injector_view s.source).put
    ((injector_view s.source).taken ++ x ∷ xs)) ×
    (worker_view own ≡ account (worker_view s.own).parts
    ((worker_view s.own).put ++ ordered 0 (worker_flavor s.own) xs) (worker_view s.own).taken))
    → IsSeatOf shared (record s { source = pass; own = own }) × SameDeque s (record s { source = pass; own = own })
fetched_seat shared s pass own limit is of same Empty a e = moved_seat shared s pass own is of same
    (ap (λ (u : Account). u.parts) e.0) (ap (λ (u : Account). u.parts) e.1)
fetched_seat shared s pass own limit is of same Retry a e = moved_seat shared s pass own is of same
    (ap (λ (u : Account). u.parts) e.0) (ap (λ (u : Account). u.parts) e.1)
fetched_seat shared s pass own limit is of same (Success x) a e = moved_seat shared s pass own is of same
    (ap (λ (u : Account). u.parts) e.2) (ap (λ (u : Account). u.parts) e.3)
