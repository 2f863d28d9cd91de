-- The accounts leave the first job room for what is left, and come out at the end.
use Rattle.task_deal.proofs.Common.{◌≡◌, ℕ, zero, suc, ◌+◌, ◌<◌, ◌≤◌, List, [], ◌∷◌, length, length-append, set}
use Rattle.task_deal.proofs.Common.{slice_index_or, refl, ap, ◌∙◌, subst, arith, All, AllZip, worker_view, SameWorker}
use Rattle.task_deal.proofs.Common.{Account, sum_of, Fits, IsSettled, below, HasRun, Each, Stands, own_taken, own_put}
use Rattle.task_deal.proofs.Common.{RanTaken, IsEmptied, run_sum, Ledger}
use Rattle.task_deal.proofs.Sums.{sum_of_set_at}
use Rattle.task_deal.proofs.Gaining.{Deque, Thief}
use Rattle.task_deal.proofs.Running.{runs_on, weighs, spared}
use Rattle.task_deal.proofs.Draining.{sum_of_ones}

abbrev one : ℕ → ℕ
one = λ _. 1

length_below : (n : ℕ) → length (below n) ≡ n
length_below zero = refl
length_below (suc n) = omega (arith, length_below n, length-append (below n) (n ∷ []))

fits_sum : (h : ℕ → ℕ) (owns : List Deque) → All (λ w. Fits (worker_view w)) owns →
    sum_of (own_taken h) owns ≤ sum_of (own_put h) owns
fits_sum h [] fits = omega arith
fits_sum h (w ∷ ws) fits =
    omega (arith, fits 0 w (omega arith) h, fits_sum h ws (λ k d le. fits (suc k) d (omega (arith, le))))

fits_at : (h : ℕ → ℕ) (owns : List Deque) (i : ℕ) (d : Deque) → i < length owns → All (λ w. Fits (worker_view w)) owns →
    sum_of (own_taken h) owns + own_put h (slice_index_or owns i d) ≤ sum_of (own_put h) owns + own_taken h
    (slice_index_or owns i d)
fits_at h [] i d le fits = absurd (omega (arith, le))
fits_at h (w ∷ ws) zero d le fits = omega (arith, fits_sum h ws (λ k e l. fits (suc k) e (omega (arith, l))))
fits_at h (w ∷ ws) (suc i) d le fits =
    omega (
      arith,
      fits 0 w (omega arith) h,
      fits_at h ws i d (omega (arith, le)) (λ k e l. fits (suc k) e (omega (arith, l))),
    )

pub even_sum : (h : ℕ → ℕ) (owns : List Deque) →
    ((i : ℕ) (d : Deque) → i < length owns → IsEmptied (slice_index_or owns i d)) →
    sum_of (own_put h) owns ≡ sum_of (own_taken h) owns
even_sum h [] all = refl
even_sum h (w ∷ ws) all =
    omega (arith, all 0 w (omega arith) h, even_sum h ws (λ i d le. all (suc i) d (omega (arith, le))))

pub length_set : {X : Type 0} (xs : List X) (i : ℕ) (w : X) → length (set xs i w) ≡ length xs
length_set [] i w = refl
length_set (x ∷ xs) zero w = refl
length_set (x ∷ xs) (suc i) w = ap suc (length_set xs i w)

pub set_each : {X : Type 0} (P : ℕ → X → Type 0) (xs : List X) (i : ℕ) (w : X) → i < length xs → P i w →
    ((k : ℕ) (d : X) → k < length xs → P k (slice_index_or xs k d)) → (k : ℕ) (d : X) → k < length xs →
    P k (slice_index_or (set xs i w) k d)
set_each P [] i w le here all k d l = absurd (omega (arith, le))
set_each P (x ∷ xs) zero w le here all zero d l = here
set_each P (x ∷ xs) zero w le here all (suc k) d l = all (suc k) d l
set_each P (x ∷ xs) (suc i) w le here all zero d l = all zero d l
set_each P (x ∷ xs) (suc i) w le here all (suc k) d l =
    set_each (λ m. P (suc m)) xs i w (omega (arith, le)) here (λ m e b. all (suc m) e (omega (arith, b))) k d
    (omega (arith, l))

pub check_stands : (thieves : List Thief) (owns : List Deque) (i : ℕ) (w w' : Deque) → i < length owns →
    slice_index_or owns i w ≡ w → SameWorker w w' → worker_view w' ≡ worker_view w →
    Each (Stands thieves 0) 0 (length owns) owns → Each (Stands thieves 0) 0 (length (set owns i w')) (set owns i w')
check_stands thieves owns i w w' le at same seen all =
    let st : Stands thieves 0 i w = subst (Stands thieves 0 i) at (all i w (omega arith) le) in
    let st' : Stands thieves 0 i w' = record {
      flavor = same.1 ∙ st.flavor;
      port = same.2 ∙ st.port;
      deque =
          λ d. same.0 ∙ st.deque d;
      parts = ap (λ (u : Account). u.parts) seen ∙ st.parts;
    } in
    λ k d b c. set_each (Stands thieves 0) owns i w' le st' (λ m e l. all m e (omega arith) l) k d
    (omega (arith, c, length_set owns i w'))

module _ {J W : Type 0} (work : J → W) (runs : J → List ℕ) (spare : J → ℕ) where
  keeps_sum : (h : ℕ → ℕ) (first now : List J) → AllZip (HasRun work runs spare) first now →
      sum_of (run_sum runs h) first ≤ sum_of (run_sum runs h) now
  keeps_sum h [] [] keeps = omega arith
  keeps_sum h [] (y ∷ ys) keeps = absurd keeps
  keeps_sum h (x ∷ xs) [] keeps = absurd keeps
  keeps_sum h (x ∷ xs) (y ∷ ys) keeps = omega (arith, weighs work runs spare h x y keeps.0, keeps_sum h xs ys keeps.1)

  keeps_set : (first now : List J) (y y' : J) → 0 < length now → slice_index_or now 0 y ≡ y →
      HasRun work runs spare y y' → AllZip (HasRun work runs spare) first now →
      AllZip (HasRun work runs spare) first (set now 0 y')
  keeps_set first [] y y' some at job keeps = absurd (omega (arith, some))
  keeps_set [] (k ∷ ks) y y' some at job keeps = absurd keeps
  keeps_set (j ∷ js) (k ∷ ks) y y' some at job keeps =
      (runs_on work runs spare j y y' (subst (HasRun work runs spare j) at keeps.0) job, keeps.1)

  -- room for one deque's rest
  pub room_own : (thieves : List Thief) (tasks : ℕ) (first now : List J) (v : Account) (owns : List Deque) (i : ℕ)
      (d : Deque) (j : J) → i < length owns → 0 < length now → Fits v →
      Ledger work runs spare thieves tasks first now v owns
      → length (worker_view (slice_index_or owns i d)).put ≤ length
      (worker_view (slice_index_or owns i d)).taken + spare (slice_index_or now 0 j)
  room_own thieves tasks first [] v owns i d j le some fits a = absurd (omega (arith, some))
  room_own thieves tasks [] (y ∷ ys) v owns i d j le some fits a = absurd a.jobs
  room_own thieves tasks (x ∷ xs) (y ∷ ys) v owns i d j le some fits a =
      let w = slice_index_or owns i d in
      let t : sum_of one v.put ≡ tasks = ap (sum_of one) a.put ∙ (sum_of_ones (below tasks) ∙ length_below tasks) in
      omega (
        arith,
        a.balance one,
        fits one,
        t,
        fits_at one owns i d le a.fits,
        keeps_sum one xs ys a.jobs.1,
        spared work runs spare x y a.jobs.0,
        a.spares 0 x (omega arith),
        sum_of_ones (runs x),
        sum_of_ones (runs y),
        sum_of_ones (worker_view w).put,
        sum_of_ones (worker_view w).taken,
      )

  -- room for the source's rest
  pub room_source : (thieves : List Thief) (tasks : ℕ) (first now : List J) (v : Account) (owns : List Deque) (j : J) →
      0 < length now → Ledger work runs spare thieves tasks first now v owns
      → length v.put ≤ length v.taken + spare (slice_index_or now 0 j)
  room_source thieves tasks first [] v owns j some a = absurd (omega (arith, some))
  room_source thieves tasks [] (y ∷ ys) v owns j some a = absurd a.jobs
  room_source thieves tasks (x ∷ xs) (y ∷ ys) v owns j some a =
      let t : sum_of one v.put ≡ tasks = ap (sum_of one) a.put ∙ (sum_of_ones (below tasks) ∙ length_below tasks) in
      omega (
        arith,
        a.balance one,
        t,
        fits_sum one owns a.fits,
        keeps_sum one xs ys a.jobs.1,
        spared work runs spare x y a.jobs.0,
        a.spares 0 x (omega arith),
        sum_of_ones (runs x),
        sum_of_ones (runs y),
        sum_of_ones v.put,
        sum_of_ones v.taken,
      )

  -- one deque was drained by the first job
  pub ledger_own : (thieves : List Thief) (tasks : ℕ) (first now : List J) (v : Account) (owns : List Deque) (i : ℕ)
      (w w' : Deque) (y y' : J) → i < length owns → 0 < length now → slice_index_or owns i w ≡ w →
      slice_index_or now 0 y ≡ y → SameWorker w w' → (worker_view w').parts ≡ 0 → IsSettled (worker_view w')
      → HasRun work runs spare y y' → RanTaken runs (worker_view w) (worker_view w') y y' →
      Ledger work runs spare thieves tasks first now v owns →
      Ledger work runs spare thieves tasks first (set now 0 y') v (set owns i w')
  ledger_own thieves tasks first now v owns i w w' y y' le some at at₀ same none all job books a =
      let st : Stands thieves 0 i w = subst (Stands thieves 0 i) at (a.stands i w (omega arith) le) in
      let st' : Stands thieves 0 i w' = record {
        flavor = same.1 ∙ st.flavor;
        port = same.2 ∙ st.port;
        deque =
            λ d. same.0 ∙ st.deque d;
        parts = none;
      } in
      let len : length (set owns i w') ≡ length owns = length_set owns i w' in record {
        stands = λ k d b c. set_each (Stands thieves 0) owns i w' le st' (λ m e l. a.stands m e (omega arith) l) k d
            (omega (arith, c, len));
        fits = λ k d c. set_each (λ _ u. Fits (worker_view u)) owns i w' le (λ h. omega (arith, all none h))
            (λ m e l. a.fits m e l) k d (omega (arith, c, len));
        parts = a.parts;
        put = a.put;
        balance = λ h.
            let F : Deque → ℕ = own_taken h in let G : Deque → ℕ = own_put h in
            let R : J → ℕ = run_sum runs h in
            let p : G w' ≡ G w = ap (sum_of h) books.put in
            omega (
              arith,
              a.balance h,
              books.ran h,
              p,
              sum_of_set_at F owns i w w' le,
              sum_of_set_at G owns i w w' le,
              ap F at,
              ap G at,
              sum_of_set_at R now 0 y y' some,
              ap R at₀,
            );
        jobs = keeps_set first now y y' some at₀ job a.jobs;
        spares = a.spares;
      }

  -- the source was drained by the first job
  pub ledger_source : (thieves : List Thief) (tasks : ℕ) (first now : List J) (v v' : Account) (owns : List Deque)
      (y y' : J) → 0 < length now → slice_index_or now 0 y ≡ y → v'.parts ≡ 0 → IsSettled v'
      → HasRun work runs spare y y' → RanTaken runs v v' y y' → Ledger work runs spare thieves tasks first now v owns →
      Ledger work runs spare thieves tasks first (set now 0 y') v' owns
  ledger_source thieves tasks first now v v' owns y y' some at₀ none all job books a = record {
    stands = a.stands;
    fits = a.fits;
    parts = none;
    put = books.put ∙ a.put;
    balance = λ h. let R : J → ℕ = run_sum runs h in
        omega (arith, a.balance h, books.ran h, sum_of_set_at R now 0 y y' some, ap R at₀);
    jobs = keeps_set first now y y' some at₀ job a.jobs;
    spares = a.spares;
  }

  -- at the end
  pub comes_out : (thieves : List Thief) (tasks : ℕ) (first now : List J) (v : Account) (owns : List Deque) →
      Ledger work runs spare thieves tasks first now v owns → IsSettled v →
      ((h : ℕ → ℕ) → sum_of (own_put h) owns ≡ sum_of (own_taken h) owns)
      → (h : ℕ → ℕ) → sum_of (run_sum runs h) now ≡ sum_of (run_sum runs h) first + sum_of h (below tasks)
  comes_out thieves tasks first now v owns a all own h =
      let p : sum_of h v.put ≡ sum_of h (below tasks) = ap (sum_of h) a.put in
      omega (arith, a.balance h, all a.parts h, own h, p)
