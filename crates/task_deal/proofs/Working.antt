-- A worker's account goes on.
use Rattle.task_deal.proofs.Common.{◌≡◌, ℕ, ◌+◌, List, [], ◌∷◌, ◌++◌, ap, ◌∙◌, refl, arith, Shared, Seat, Member}
use Rattle.task_deal.proofs.Common.{sum_of, Gains, IsSeatOf, SameDeque, HasWorked}
use Rattle.task_deal.proofs.Sums.{sum_of-append}
use Rattle.task_deal.proofs.Running.{runs_none, runs_one}

module _ {J W : Type 0} (shared : Shared) (work : J → W) (runs : J → List ℕ) (spare : J → ℕ) where
  pub begun : (s : Member J) → IsSeatOf shared s.seat → HasWorked shared work runs spare s s
  begun s is = record {
    seat = is;
    same = record { deque = refl; parts = refl };
    job = runs_none work runs spare s.job;
    balance = λ h. refl;
  }

  pub ran : (s t : Member J) (u : Seat) (j : J) (x : ℕ) → HasWorked shared work runs spare s t → IsSeatOf shared u →
      SameDeque t.seat u → Gains (λ h. h x) t.seat u
      → work j ≡ work t.job → runs j ≡ runs t.job ++ x ∷ [] → spare j + 1 ≡ spare t.job →
      HasWorked shared work runs spare s (record { job = j; seat = u })
  ran s t u j x a is same gains on more less = record {
    seat = is;
    same = record { deque = same.deque ∙ a.same.deque; parts = same.parts ∙ a.same.parts };
    job = runs_one work runs spare s.job t.job j x a.job on more less;
    balance =
        λ h.
        let m : sum_of h (runs j) ≡ sum_of h (runs t.job) + sum_of h (x ∷ []) =
        ap (sum_of h) more ∙ sum_of-append h (runs t.job) (x ∷ []) in
        omega (arith, a.balance h, gains h, m);
  }

  pub ended : (s t : Member J) (u : Seat) → HasWorked shared work runs spare s t → IsSeatOf shared u →
      SameDeque t.seat u → Gains (λ h. 0) t.seat u →
      HasWorked shared work runs spare s (record { job = t.job; seat = u })
  ended s t u a is same gains = record {
    seat = is;
    same = record { deque = same.deque ∙ a.same.deque; parts = same.parts ∙ a.same.parts };
    job = a.job;
    balance = λ h. omega (arith, a.balance h, gains h);
  }
