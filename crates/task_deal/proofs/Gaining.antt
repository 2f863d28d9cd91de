-- What each way of finding a number gains.
use Rattle.task_deal.proofs.Common.{◌≡◌, ℕ, ◌+◌, List, [], ◌∷◌, ◌++◌, length, ◌<◌, set, slice_index_or, Option, Some}
use Rattle.task_deal.proofs.Common.{None, MatchOption, refl, ap, ◌∙◌, subst, arith, ordered, InjectorPass, Global, Rule}
use Rattle.task_deal.proofs.Common.{Pass, view, worker_view, worker_flavor, injector_view, Account, Seat, sum_of}
use Rattle.task_deal.proofs.Common.{account, Gains, FoundIn}
use Rattle.crossbeam_deque.specs.Steals.{MatchSteal}
use Rattle.crossbeam_deque.specs.declared.steal.Steal.{Steal}
use Rattle.crossbeam_deque.specs.declared.steal.Steal.TheVariants.{Empty, Success, Retry}
use Rattle.crossbeam_deque.specs.declared.handles.Worker.{Worker}
use Rattle.crossbeam_deque.specs.declared.handles.Stealer.{Stealer}
use Rattle.task_deal.proofs.Sums.{sum_of-append, sum_of_set_at}

abbrev pub Deque : Type 0
Deque = Worker ℕ Global Account Rule

abbrev pub Thief : Type 0
Thief = Stealer ℕ Global Account Rule

abbrev pub SourcePass : Type 0
SourcePass = InjectorPass ℕ Account Global

pub taken_more : (h : ℕ → ℕ) (v w : Account) (xs : List ℕ) → w ≡ account v.parts v.put (v.taken ++ xs) →
    sum_of h w.taken ≡ sum_of h v.taken + sum_of h xs
taken_more h v w xs e = ap (λ (u : Account). sum_of h u.taken) e ∙ sum_of-append h v.taken xs

pub put_same : (h : ℕ → ℕ) (v w : Account) (xs : List ℕ) → w ≡ account v.parts v.put (v.taken ++ xs) →
    sum_of h w.put ≡ sum_of h v.put
put_same h v w xs e = ap (λ (u : Account). sum_of h u.put) e

pub put_more : (h : ℕ → ℕ) (v w : Account) (xs : List ℕ) → w ≡ account v.parts (v.put ++ xs) v.taken →
    sum_of h w.put ≡ sum_of h v.put + sum_of h xs
put_more h v w xs e = ap (λ (u : Account). sum_of h u.put) e ∙ sum_of-append h v.put xs

pub taken_same : (h : ℕ → ℕ) (v w : Account) (xs : List ℕ) → w ≡ account v.parts (v.put ++ xs) v.taken →
    sum_of h w.taken ≡ sum_of h v.taken
taken_same h v w xs e = ap (λ (u : Account). sum_of h u.taken) e

-- after a pop of the own deque
pub popped : (s : Seat) (own : Deque) (r : Option ℕ) (lost : Type 0) →
    MatchOption r ((worker_view own ≡ worker_view s.own) × lost)
    (λ x. worker_view own ≡ account (worker_view s.own).parts (worker_view s.own).put
    ((worker_view s.own).taken ++ x ∷ []))
    → MatchOption r (Gains (λ h. 0) s (record s { own = own })) (λ x. Gains (λ h. h x) s (record s { own = own }))
popped s own None lost e =
    λ h.
    let a : sum_of h (worker_view own).taken ≡ sum_of h (worker_view s.own).taken =
    ap (λ (u : Account). sum_of h u.taken) e.0 in
    let b : sum_of h (worker_view own).put ≡ sum_of h (worker_view s.own).put =
    ap (λ (u : Account). sum_of h u.put) e.0 in
    omega (arith, a, b)
popped s own (Some x) lost e =
    λ h. omega (
      arith,
      taken_more h (worker_view s.own) (worker_view own) (x ∷ []) e,
      put_same h (worker_view s.own) (worker_view own) (x ∷ []) e,
    )

unmoved : (s : Seat) (pass : SourcePass) (own : Deque) → injector_view pass ≡ injector_view s.source →
    worker_view own ≡ worker_view s.own → Gains (λ h. 0) s (record s { source = pass; own = own })
unmoved s pass own e f =
    λ h.
    let a : sum_of h (injector_view pass).taken ≡ sum_of h (injector_view s.source).taken =
    ap (λ (u : Account). sum_of h u.taken) e in
    let b : sum_of h (worker_view own).taken ≡ sum_of h (worker_view s.own).taken =
    ap (λ (u : Account). sum_of h u.taken) f in
    let c : sum_of h (worker_view own).put ≡ sum_of h (worker_view s.own).put =
    ap (λ (u : Account). sum_of h u.put) f in
    omega (arith, a, b, c)

-- after a batch of the source
pub fetched : (s : Seat) (pass : SourcePass) (own : Deque) (limit : ℕ) → worker_flavor s.own ≡ 0 →
    (r : Steal ℕ) (a : Type 0)
    → MatchSteal r ((injector_view pass ≡ injector_view s.source) × (worker_view own ≡ worker_view s.own) × a)
    ((injector_view pass ≡ injector_view s.source) × (worker_view own ≡ worker_view s.own))
    (λ x. (xs : List ℕ) × (length xs < limit) ×
    (injector_view pass ≡ account (injector_view s.source).parts (injector_view s.source).put
    ((injector_view s.source).taken ++ x ∷ xs)) ×
    (worker_view own ≡ account (worker_view s.own).parts
    ((worker_view s.own).put ++ ordered 0 (worker_flavor s.own) xs) (worker_view s.own).taken))
    → MatchSteal r (Gains (λ h. 0) s (record s { source = pass; own = own }))
    (Gains (λ h. 0) s (record s { source = pass; own = own }))
    (λ x. Gains (λ h. h x) s (record s { source = pass; own = own }))
fetched s pass own limit fifo Empty a e = unmoved s pass own e.0 e.1
fetched s pass own limit fifo Retry a e = unmoved s pass own e.0 e.1
fetched s pass own limit fifo (Success x) a e = λ h. let xs = e.0 in
    let more = subst (λ k. worker_view own ≡ account (worker_view s.own).parts
    ((worker_view s.own).put ++ ordered 0 k xs) (worker_view s.own).taken) fifo e.3 in
    omega (
      arith,
      taken_more h (injector_view s.source) (injector_view pass) (x ∷ xs) e.2,
      put_more h (worker_view s.own) (worker_view own) xs more,
      taken_same h (worker_view s.own) (worker_view own) xs more,
    )

-- after a take of the source
pub took : (s : Seat) (pass : SourcePass) → (r : Steal ℕ) (a : Type 0)
    → MatchSteal r ((injector_view pass ≡ injector_view s.source) × a) (injector_view pass ≡ injector_view s.source)
    (λ x. injector_view pass ≡ account (injector_view s.source).parts (injector_view s.source).put
    ((injector_view s.source).taken ++ x ∷ []))
    → FoundIn r s (record s { source = pass })
took s pass Empty a e = unmoved s pass s.own e.0 refl
took s pass Retry a e = unmoved s pass s.own e refl
took s pass (Success x) a e = λ h. omega (arith, taken_more h (injector_view s.source) (injector_view pass) (x ∷ []) e)

abbrev pub ThiefPass : Type 0
ThiefPass = Pass ℕ Account Global

-- after a steal by the pass at k
pub stolen : (s : Seat) (t : Seat) (k : ℕ) (p old : ThiefPass) → t.source ≡ s.source → t.own ≡ s.own →
    t.purse.items ≡ set s.purse.items k p → k < length s.purse.items → slice_index_or s.purse.items k old ≡ old →
    (r : Option ℕ)
    → MatchOption r (view p ≡ view old)
    (λ x. view p ≡ account (view old).parts (view old).put ((view old).taken ++ x ∷ []))
    → MatchOption r (Gains (λ h. 0) s t) (λ x. Gains (λ h. h x) s t)
stolen s t k p old es eo ep le at None e = λ h. let F : ThiefPass → ℕ = λ q. sum_of h (view q).taken in
    let a : F p ≡ F old = ap (λ (u : Account). sum_of h u.taken) e in
    omega (
      arith,
      a,
      ap F at,
      sum_of_set_at F s.purse.items k old p le,
      ap (sum_of F) ep,
      ap (λ (q : SourcePass). sum_of h (injector_view q).taken) es,
      ap (λ (q : Deque). sum_of h (worker_view q).taken) eo,
      ap (λ (q : Deque). sum_of h (worker_view q).put) eo,
    )
stolen s t k p old es eo ep le at (Some x) e = λ h. let F : ThiefPass → ℕ = λ q. sum_of h (view q).taken in
    let a : F p ≡ F old + sum_of h (x ∷ []) = taken_more h (view old) (view p) (x ∷ []) e in
    omega (
      arith,
      a,
      ap F at,
      sum_of_set_at F s.purse.items k old p le,
      ap (sum_of F) ep,
      ap (λ (q : SourcePass). sum_of h (injector_view q).taken) es,
      ap (λ (q : Deque). sum_of h (worker_view q).taken) eo,
      ap (λ (q : Deque). sum_of h (worker_view q).put) eo,
    )

pub gains_on : (s t u : Seat) (x : ℕ) → Gains (λ h. 0) s t → Gains (λ h. h x) t u → Gains (λ h. h x) s u
gains_on s t u x a b = λ h. omega (arith, a h, b h)

pub gains_none : (s t u : Seat) → Gains (λ h. 0) s t → Gains (λ h. 0) t u → Gains (λ h. 0) s u
gains_none s t u a b = λ h. omega (arith, a h, b h)

-- what the search for the next number cites
pub ruleset gains = (gains_on, gains_none)
