-- Deques are opened, and passes split off.
use Rattle.task_deal.proofs.Common.{◌≡◌, ℕ, ◌+◌, ◌<◌, ◌≤◌, List, [], ◌∷◌, ◌++◌, length, length-append, slice_index_or}
use Rattle.task_deal.proofs.Common.{sym, refl, ap, ◌∙◌, subst, ⊎_elim, arith, view, IsPassOf, SameWorker, stealer_deque}
use Rattle.task_deal.proofs.Common.{worker_deque, worker_flavor, worker_port, worker_view, Account, Rule, sum_of}
use Rattle.task_deal.proofs.Common.{account, Each, Stands, IsPart, AreParts, HaveTaken, taken_by, own_taken, own_put}
use Rattle.task_deal.proofs.Common.{AreOpen}
use Rattle.task_deal.proofs.Moves.{begins}
use Rattle.task_deal.proofs.Sums.{sum_of_push}
use Rattle.task_deal.proofs.Places.{index_left, index_last, split_le}
use Rattle.task_deal.proofs.Gaining.{Deque, Thief, ThiefPass}

pub opened_none : AreOpen {Q = Rule} [] []
opened_none = record { count = refl; stands = λ i d a b. absurd (omega (arith, b)); books = λ h. (refl, refl) }

pub opened_on : (thieves : List Thief) (owns : List Deque) (t : Thief) (w : Deque) → worker_flavor w ≡ 0 →
    worker_port w ≡ 0 → worker_view w ≡ account 0 [] [] → stealer_deque t ≡ worker_deque w → AreOpen thieves owns →
    AreOpen (thieves ++ t ∷ []) (owns ++ w ∷ [])
opened_on thieves owns t w fifo port new same a =
    let n : length (owns ++ w ∷ []) ≡ length owns + 1 = length-append owns (w ∷ []) in
    let last : Stands (thieves ++ t ∷ []) 0 (length owns) w = record {
      flavor = fifo;
      port = port;
      deque = λ d. sym (ap stealer_deque
          (subst (λ k. slice_index_or (thieves ++ t ∷ []) k d ≡ t) a.count (index_last thieves t d)) ∙ same);
      parts = ap (λ (u : Account). u.parts) new;
    } in record {
      count = omega (arith, a.count, length-append thieves (t ∷ []), n);
      stands = λ i d lo hi. ⊎_elim
          (λ (e : i ≡ length owns). subst (λ k. Stands (thieves ++ t ∷ []) 0 k (slice_index_or (owns ++ w ∷ []) k d))
          (sym e) (subst (Stands (thieves ++ t ∷ []) 0 (length owns)) (sym (index_last owns w d)) last))
          (λ (l : i < length owns).
          let s = a.stands i d lo l in
          subst (Stands (thieves ++ t ∷ []) 0 i) (sym (index_left owns (w ∷ []) i d l))
          (record {
            flavor = s.flavor;
            port = s.port;
            deque = λ e. s.deque e ∙
                sym (ap stealer_deque (index_left thieves (t ∷ []) i e (omega (arith, l, a.count))));
            parts = s.parts;
          }))
          (split_le i (length owns) (omega (arith, hi, n)));
      books = λ h. let F : Deque → ℕ = own_taken h in let G : Deque → ℕ = own_put h in (
        omega (arith, (a.books h).0, sum_of_push F owns w, ap (λ (u : Account). sum_of h u.taken) new),
        omega (arith, (a.books h).1, sum_of_push G owns w, ap (λ (u : Account). sum_of h u.put) new),
      );
    }

module _ (thieves : List Thief) where
  pub fork_stands : (k i : ℕ) (s t : Deque) → SameWorker s t →
      worker_view t ≡ account ((worker_view s).parts + 1) (worker_view s).put (worker_view s).taken →
      Stands thieves k i s → Stands thieves (k + 1) i t
  fork_stands k i s t same new is = record {
    flavor = same.1 ∙ is.flavor;
    port = same.2 ∙ is.port;
    deque =
        λ d. same.0 ∙ is.deque d;
    parts = omega (arith, ap (λ (u : Account). u.parts) new, is.parts);
  }

  pub fork_part : (k i : ℕ) (s : Deque) (p : ThiefPass) → Stands thieves k i s → IsPassOf (worker_deque s) p →
      view p ≡ account 1 [] [] → (d : Thief) → IsPart (slice_index_or thieves i d) p
  fork_part k i s p is of new d = (subst (λ q. IsPassOf q p) (is.deque d) of, ap (λ (u : Account). u.parts) new)

  -- the passes of the deques before `at` are in the purse
  pub record Filling (out at : ℕ) (owns₀ owns : List Deque) (purse : List ThiefPass) : Type 0 where
    pub count : length owns ≡ length thieves
    pub full : length purse ≡ at
    pub passes : (j : ℕ) (e : ThiefPass) → j < at → (d : Thief) →
        IsPart (slice_index_or thieves j d) (slice_index_or purse j e)
    pub low : Each (Stands thieves (out + 1)) 0 at owns
    pub high : Each (Stands thieves out) at (length thieves) owns
    pub books : HaveTaken (λ h. taken_by h purse) owns₀ owns
    pub none : (h : ℕ → ℕ) → taken_by h purse ≡ 0

  pub filling : (out : ℕ) (owns : List Deque) → length owns ≡ length thieves →
      Each (Stands thieves out) 0 (length thieves) owns → Filling out 0 owns owns []
  filling out owns count stand = record {
    count = count;
    full = refl;
    passes = λ j e le. absurd (omega (arith, le));
    low = λ i d a b. absurd (omega (arith, b));
    high = stand;
    books = λ h. (omega arith, refl);
    none = λ h. refl;
  }

  pub filled : (out at : ℕ) (owns₀ owns owns' : List Deque) (purse : List ThiefPass) (p : ThiefPass) →
      Filling out at owns₀ owns purse → length owns' ≡ length thieves →
      Each (Stands thieves (out + 1)) 0 (at + 1) owns' → Each (Stands thieves out) (at + 1) (length thieves) owns'
      → HaveTaken (λ h. 0) owns owns' → ((d : Thief) → IsPart (slice_index_or thieves at d) p) →
      view p ≡ account 1 [] [] → Filling out (at + 1) owns₀ owns' (purse ++ p ∷ [])
  filled out at owns₀ owns owns' purse p a count low high books part new =
      let t : (h : ℕ → ℕ) → taken_by h (purse ++ p ∷ []) ≡ 0 =
      λ h. omega (
        arith,
        sum_of_push (λ (q : ThiefPass). sum_of h (view q).taken) purse p,
        a.none h,
        ap (λ (u : Account). sum_of h u.taken) new,
      ) in record {
        count = count;
        full = omega (arith, a.full, length-append purse (p ∷ []));
        passes = λ j e le d. ⊎_elim
            (λ (is : j ≡ at). subst (λ k. IsPart (slice_index_or thieves k d) (slice_index_or (purse ++ p ∷ []) k e))
            (sym is) (subst (IsPart (slice_index_or thieves at d))
            (sym (subst (λ k. slice_index_or (purse ++ p ∷ []) k e ≡ p) a.full (index_last purse p e))) (part d)))
            (λ (l : j < at). subst (IsPart (slice_index_or thieves j d))
            (sym (index_left purse (p ∷ []) j e (omega (arith, l, a.full)))) (a.passes j e l d))
            (split_le j at (omega (arith, le)));
        low = low;
        high = high;
        books = λ h. (omega (arith, (books h).0, (a.books h).0, t h, a.none h), (books h).1 ∙ (a.books h).1);
        none = t;
      }

  pub purse_full : (out at : ℕ) (owns₀ owns : List Deque) (purse : List ThiefPass) → length thieves ≤ at →
      Filling out at owns₀ owns purse → length purse ≡ length thieves → AreParts thieves purse
  purse_full out at owns₀ owns purse le a e = (e, λ j d p l. a.passes j p (omega (arith, l, le)) d)

-- what the loop that opens deques cites
pub ruleset opens = (opened_none, opened_on, begins)
