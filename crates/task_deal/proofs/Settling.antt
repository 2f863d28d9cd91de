-- A pass goes back to its deque.
use Rattle.task_deal.proofs.Common.{◌≡◌, ℕ, ◌+◌, ◌-◌, ◌<◌, ◌≤◌, List, [], ◌∷◌, ◌++◌, length, length-append, set}
use Rattle.task_deal.proofs.Common.{slice_index_or, sym, refl, ap, ◌∙◌, subst, arith, Pass, view, IsPassOf, SameWorker}
use Rattle.task_deal.proofs.Common.{worker_deque, worker_view, Global, Account, sum_of, account, own_taken, own_put}
use Rattle.task_deal.proofs.Common.{taken_by, HaveTaken, Stands, IsPart, AreParts, Each}
use Rattle.task_deal.proofs.Sums.{sum_of-append, sum_of_set_at}
use Rattle.task_deal.proofs.Places.{pick, index_left, index_last}
use Rattle.task_deal.proofs.Gaining.{Deque, Thief, ThiefPass}

-- a pass was taken back into its deque
pub record TakenBack (s t : Deque) (p : ThiefPass) : Type 0 where
  pub own : SameWorker s t
  pub view : worker_view t ≡ account ((worker_view s).parts - (view p).parts) (worker_view s).put
      ((worker_view s).taken ++ (view p).taken)

pub books_set : (more : (ℕ → ℕ) → ℕ) (xs : List Deque) (k : ℕ) (s t : Deque) → k < length xs →
    slice_index_or xs k s ≡ s → ((h : ℕ → ℕ) → (own_taken h t ≡ own_taken h s + more h) × (own_put h t ≡ own_put h s)) →
    HaveTaken more xs (set xs k t)
books_set more xs k s t le at e = λ h. let F : Deque → ℕ = own_taken h in let G : Deque → ℕ = own_put h in (
  omega (arith, sum_of_set_at F xs k s t le, ap F at, (e h).0),
  omega (arith, sum_of_set_at G xs k s t le, ap G at, (e h).1),
)

pub back_books : (s t : Deque) (p : ThiefPass) → TakenBack s t p → (h : ℕ → ℕ) →
    (own_taken h t ≡ own_taken h s + sum_of h (view p).taken) × (own_put h t ≡ own_put h s)
back_books s t p b h = (
  ap (λ (u : Account). sum_of h u.taken) b.view ∙
      sum_of-append h (worker_view s).taken (view p).taken,
  ap (λ (u : Account). sum_of h u.put) b.view,
)

module _ (thieves : List Thief) where
  pub back_stands : (k i : ℕ) (s t : Deque) (p : ThiefPass) → (view p).parts ≡ 1 → TakenBack s t p →
      Stands thieves (k + 1) i s → Stands thieves k i t
  back_stands k i s t p one b is = record {
    flavor = b.own.1 ∙ is.flavor;
    port = b.own.2 ∙ is.port;
    deque = λ d. b.own.0 ∙ is.deque d;
    parts = omega (arith, ap (λ (u : Account). u.parts) b.view, is.parts, one);
  }

  pub its_pass : (k i : ℕ) (s : Deque) (p : Pass ℕ Account Global) → i < length thieves → Stands thieves k i s →
      ((d : Thief) → IsPart (slice_index_or thieves i d) p) → IsPassOf (worker_deque s) p
  its_pass k i s p le is part = let d = pick thieves i le in subst (λ q. IsPassOf q p) (sym (is.deque d)) (part d).0

  pub its_one : (i : ℕ) (p : Pass ℕ Account Global) → i < length thieves →
      ((d : Thief) → IsPart (slice_index_or thieves i d) p) → (view p).parts ≡ 1
  its_one i p le part = (part (pick thieves i le)).1

  pub record Returning (left : ℕ) (seats₀ : List Deque) (purse₀ : List ThiefPass) (seats : List Deque)
      (purse : List ThiefPass) : Type 0 where
    pub count : length seats ≡ length thieves
    pub fits : length purse ≤ length thieves
    pub passes : Each (λ i p. (d : Thief) → IsPart (slice_index_or thieves i d) p) 0 (length purse) purse
    pub low : Each (Stands thieves (left + 1)) 0 (length purse) seats
    pub high : Each (Stands thieves left) (length purse) (length thieves) seats
    pub books : (h : ℕ → ℕ) →
        (sum_of (own_taken h) seats + taken_by h purse ≡ sum_of (own_taken h) seats₀ + taken_by h purse₀) ×
        (sum_of (own_put h) seats ≡ sum_of (own_put h) seats₀)

  pub returning : (left : ℕ) (seats : List Deque) (purse : List ThiefPass) → length seats ≡ length thieves →
      AreParts thieves purse → Each (Stands thieves (left + 1)) 0 (length thieves) seats →
      Returning left seats purse seats purse
  returning left seats purse count parts stand = record {
    count = count;
    fits = omega (arith, parts.0);
    passes = λ i d a b e. parts.1 i e d (omega (arith, b, parts.0));
    low = λ i d a b. stand i d a (omega (arith, b, parts.0));
    high = λ i d a b. absurd (omega (arith, a, b, parts.0));
    books = λ h. (refl, refl);
  }

  pub last_pass : (left : ℕ) (seats₀ : List Deque) (purse₀ : List ThiefPass) (seats : List Deque)
      (purse rest : List ThiefPass) (p : ThiefPass) (k : ℕ) → k ≡ length rest → purse ≡ rest ++ p ∷ [] →
      Returning left seats₀ purse₀ seats purse → (d : Thief) → IsPart (slice_index_or thieves k d) p
  last_pass left seats₀ purse₀ seats purse rest p k at e r d =
      let s = subst (λ l. Returning left seats₀ purse₀ seats l) e r in
      subst (λ n. IsPart (slice_index_or thieves n d) p) (sym at)
      (subst (IsPart (slice_index_or thieves (length rest) d)) (index_last rest p p)
      (s.passes (length rest) p (omega arith) (omega (arith, length-append rest (p ∷ []))) d))

  pub returned : (left : ℕ) (seats₀ : List Deque) (purse₀ : List ThiefPass) (seats seats' : List Deque)
      (purse rest : List ThiefPass) (p : ThiefPass) (k : ℕ) → k ≡ length rest → purse ≡ rest ++ p ∷ [] →
      Returning left seats₀ purse₀ seats purse
      → length seats' ≡ length thieves → Each (Stands thieves (left + 1)) 0 k seats' →
      Each (Stands thieves left) k (length thieves) seats' → HaveTaken (λ h. sum_of h (view p).taken) seats seats' →
      Returning left seats₀ purse₀ seats' rest
  returned left seats₀ purse₀ seats seats' purse rest p k at e r count low high books =
      let s = subst (λ l. Returning left seats₀ purse₀ seats l) e r in record {
        count = count;
        fits = omega (arith, s.fits, length-append rest (p ∷ []));
        passes = λ i d a b t. subst (IsPart (slice_index_or thieves i t)) (index_left rest (p ∷ []) i d b)
            (s.passes i d a (omega (arith, b, length-append rest (p ∷ []))) t);
        low = λ i d a b. low i d a (omega (arith, at, b));
        high = λ i d a b. high i d (omega (arith, at, a)) b;
        books = λ h. (
          omega (
            arith,
            (books h).0,
            (s.books h).0,
            sum_of-append (λ (q : ThiefPass). sum_of h (view q).taken) rest (p ∷ []),
          ),
          (books h).1 ∙ (s.books h).1,
        );
      }
