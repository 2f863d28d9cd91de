-- What the members did, as what jobs, deques and purses did.
use Rattle.task_deal.proofs.Common.{◌≡◌, ℕ, ◌+◌, ◌<◌, ◌≤◌, List, [], ◌∷◌, ◌++◌, length, slice_index_or, take, drop}
use Rattle.task_deal.proofs.Common.{append-nil, sym, refl, ap, ◌∙◌, subst, arith, All, AllZip, Global, take-length}
use Rattle.task_deal.proofs.Common.{length_all_zip, worker_view, worker_deque, worker_flavor, worker_port, Account}
use Rattle.task_deal.proofs.Common.{Shared, Member, backwards, HasPart, source_taken, below, HasRun, Ledger, run_sum}
use Rattle.task_deal.proofs.Common.{HasWorked, sum_of, Fits, Each, Stands, AreParts, HaveTaken, IsSeatOf, own_taken}
use Rattle.task_deal.proofs.Common.{own_put, taken_by, gained}
use Rattle.std.specs.declared.vec.Vec.{Vec}
use Rattle.std.proofs.Math.ListN.{drop_of_length-le}
use Rattle.task_deal.proofs.Backs.{sum_of_back}
use Rattle.task_deal.proofs.Gaining.{Deque, Thief, ThiefPass}
use Rattle.task_deal.proofs.Zips.{all_of_back, back_of_all, length_back, zip_at, zip_back, zip_second, zip_each}
use Rattle.task_deal.proofs.Zips.{zip_balance}

abbrev pub Purse : Type 0
Purse = Vec ThiefPass Global

-- the worker of the thief at each place is its owner's
owner_of : (thieves : List Thief) (k n : ℕ) (owns : List Deque) → length owns ≡ n → Each (Stands thieves k) 0 n owns →
    All (λ w. (worker_flavor w ≡ 0) × (worker_port w ≡ 0)) owns
owner_of thieves k n owns count all = λ i d le. let s = all i d (omega arith) (omega (arith, le, count)) in
    (s.flavor, s.port)

-- the members are made of these jobs, deques and purses
pub record AreOf {J : Type 0} (ms : List (Member J)) (jobs : List J) (owns : List Deque) (purses : List Purse) : Type
    0 where
  pub jobs_are : backwards (λ m. m.job) ms ≡ jobs
  pub owns_are : backwards (λ m. m.seat.own) ms ≡ owns
  pub purses_are : backwards (λ m. m.seat.purse) ms ≡ purses

pub members_count : {J : Type 0} (ms : List (Member J)) (jobs : List J) (owns : List Deque) (purses : List Purse) →
    AreOf ms jobs owns purses → (length jobs ≡ length ms) × (length owns ≡ length ms) × (length purses ≡ length ms)
members_count ms jobs owns purses are = (
  sym (ap length are.jobs_are) ∙ length_back (λ m. m.job) ms,
  sym (ap length are.owns_are) ∙ length_back (λ m. m.seat.own) ms,
  sym (ap length are.purses_are) ∙ length_back (λ m. m.seat.purse) ms,
)

-- a list that was written as a whole
pub whole : {X : Type 0} (n : ℕ) (xs ys : List X) → n ≡ length xs → length ys ≡ length xs →
    take n (ys ++ drop (length ys) xs) ≡ ys
whole n xs ys count same =
    let none : drop (length ys) xs ≡ [] = drop_of_length-le xs (omega (arith, same)) in
    let all : n ≡ length ys = omega (arith, count, same) in
    ap (take n) (ap (λ l. ys ++ l) none ∙ append-nil ys) ∙ (ap (λ k. take k ys) all ∙ take-length ys)

pub made_of : {J : Type 0} (l ms : List (Member J)) (jobs : List J) (owns : List Deque) (purses : List Purse) → l ≡ ms →
    jobs ≡ backwards (λ m. m.job) l → owns ≡ backwards (λ m. m.seat.own) l → purses ≡ backwards (λ m. m.seat.purse) l →
    AreOf ms jobs owns purses
made_of l ms jobs owns purses e j o p = record {
  jobs_are = ap (backwards (λ m. m.job)) (sym e) ∙ sym j;
  owns_are = ap (backwards (λ m. m.seat.own)) (sym e) ∙ sym o;
  purses_are = ap (backwards (λ m. m.seat.purse)) (sym e) ∙ sym p;
}

-- how much the passes of a purse have taken
abbrev pub purse_taken : (ℕ → ℕ) → Purse → ℕ
purse_taken h p = taken_by h p.items

module _ {J W : Type 0} (shared : Shared) (work : J → W) (runs : J → List ℕ) (spare : J → ℕ) where
  -- each member may begin
  pub ready : (tasks k n : ℕ) (ms : List (Member J)) (jobs : List J) (owns : List Deque) (purses : List Purse) →
      AreOf ms jobs owns purses → All (λ m. HasPart shared.source m.seat) ms → All (λ j. tasks ≤ spare j) jobs →
      length owns ≡ n → Each (Stands shared.thieves.items k) 0 n owns →
      All (λ p. AreParts shared.thieves.items p.items) purses
      → All (λ m. IsSeatOf shared m.seat × (tasks ≤ spare m.job)) ms
  ready tasks k n ms jobs owns purses are parts room count stand passes =
      let room' = all_of_back (λ j. tasks ≤ spare j) (λ m. m.job) ms
      (subst (All (λ j. tasks ≤ spare j)) (sym are.jobs_are) room) in
      let owner : Deque → Type 0 = λ w. (worker_flavor w ≡ 0) × (worker_port w ≡ 0) in
      let own = all_of_back owner (λ m. m.seat.own) ms
      (subst (All owner) (sym are.owns_are) (owner_of shared.thieves.items k n owns count stand)) in
      let purse = all_of_back (λ p. AreParts shared.thieves.items p.items) (λ m. m.seat.purse) ms
      (subst (All (λ p. AreParts shared.thieves.items p.items)) (sym are.purses_are) passes) in
      λ i d le. (
        record {
          source = (parts i d le).0;
          part = (parts i d le).1;
          flavor = (own i d le).0;
          port =
              (own i d le).1;
          purse = purse i d le;
        },
        room' i d le,
      )

  abbrev pub Worked : Member J → Member J → Type 0
  Worked s t = HasWorked shared work runs spare s t

  pub worked : (seen ss ts : List (Member J)) → seen ≡ ss → length ts ≡ length seen →
      ((i : ℕ) (d : Member J) → i < length seen → Worked (slice_index_or seen i d) (slice_index_or ts i d)) →
      AllZip Worked ss ts
  worked seen ss ts e count at = subst (λ l. AllZip Worked l ts) e (zip_at Worked seen ts count at)

  pub parts_left : (ss ts : List (Member J)) → AllZip Worked ss ts → All (λ m. HasPart shared.source m.seat) ts
  parts_left ss ts zip = zip_second Worked (λ m. HasPart shared.source m.seat) (λ s t a. (a.seat.source, a.seat.part))
      ss ts zip

  -- a deque stays where it is, with as many parts out
  record GoesOn (v w : Deque) : Type 0 where
    pub flavor : worker_flavor w ≡ 0
    pub port : worker_port w ≡ 0
    pub deque : worker_deque w ≡ worker_deque v
    pub parts : (worker_view w).parts ≡ (worker_view v).parts

  sum_gained : (h : ℕ → ℕ) (ms : List (Member J)) →
      sum_of (λ m. gained h m.seat) ms ≡ sum_of (source_taken h)
      ms + (sum_of (λ m. own_taken h m.seat.own) ms + sum_of (λ m. purse_taken h m.seat.purse) ms)
  sum_gained h [] = refl
  sum_gained h (m ∷ ms) = omega (arith, sum_gained h ms)

  module _ (ss ts : List (Member J)) (jobs jobs' : List J) (owns owns' : List Deque) (purses purses' : List Purse)
      (a : AreOf ss jobs owns purses) (b : AreOf ts jobs' owns' purses') (zip : AllZip Worked ss ts) where
    pub same_count : length ts ≡ length ss
    same_count = sym (length_all_zip Worked ss ts zip)

    pub jobs_ran : AllZip (HasRun work runs spare) jobs jobs'
    jobs_ran = subst (AllZip (HasRun work runs spare) jobs) b.jobs_are
        (subst (λ l. AllZip (HasRun work runs spare) l (backwards (λ m. m.job) ts)) a.jobs_are
        (zip_back Worked (HasRun work runs spare) (λ m. m.job) (λ s t w. w.job) ss ts zip))

    pub owns_stand : (k n : ℕ) → length owns ≡ n → Each (Stands shared.thieves.items k) 0 n owns →
        Each (Stands shared.thieves.items k) 0 n owns'
    owns_stand k n count all =
        let goes = zip_back Worked GoesOn (λ m. m.seat.own)
        (λ s t w. record {
          flavor = w.seat.flavor;
          port = w.seat.port;
          deque = w.same.deque;
          parts =
              w.same.parts;
        }) ss ts zip in
        let goes' : AllZip GoesOn owns owns' = subst (AllZip GoesOn owns) b.owns_are
        (subst (λ l. AllZip GoesOn l (backwards (λ m. m.seat.own) ts)) a.owns_are goes) in
        λ i d lo hi. zip_each GoesOn (Stands shared.thieves.items k)
        (λ i v w on is. record {
          flavor = on.flavor;
          port = on.port;
          deque = λ e. on.deque ∙ is.deque e;
          parts =
              on.parts ∙ is.parts;
        }) owns owns' goes' (λ j e l r. all j e l (omega (arith, r, count))) i d lo
        (omega (arith, hi, count))

    pub purses_left : All (λ p. AreParts shared.thieves.items p.items) purses'
    purses_left = subst (All (λ p. AreParts shared.thieves.items p.items)) b.purses_are
        (back_of_all (λ p. AreParts shared.thieves.items p.items) (λ m. m.seat.purse) ts
        (zip_second Worked (λ m. AreParts shared.thieves.items m.seat.purse.items) (λ s t w. w.seat.purse) ss ts zip))

    -- what all jobs ran is what all members took and didn't put
    pub all_balance : (h : ℕ → ℕ) → sum_of (source_taken h) ss ≡ 0 → sum_of (own_taken h) owns ≡ 0 →
        sum_of (own_put h) owns ≡ 0 → sum_of (purse_taken h) purses ≡ 0
        → sum_of (run_sum runs h) jobs' + sum_of (own_put h)
        owns' ≡ (sum_of (run_sum runs h) jobs + sum_of (source_taken h) ts)
        + (sum_of (own_taken h) owns' + sum_of (purse_taken h) purses')
    all_balance h source own put purse =
        let b₀ = zip_balance Worked (λ m. run_sum runs h m.job) (λ m. gained h m.seat) (λ m. own_put h m.seat.own)
        (λ s t w. w.balance h) ss ts zip in
        let taken : Deque → ℕ = own_taken h in
        let puts : Deque → ℕ = own_put h in
        omega (
          arith,
          b₀,
          sum_gained h ss,
          sum_gained h ts,
          source,
          own,
          put,
          purse,
          sym (ap (sum_of (run_sum runs h)) a.jobs_are) ∙ sum_of_back (run_sum runs h) (λ (m : Member J). m.job) ss,
          sym (ap (sum_of (run_sum runs h)) b.jobs_are) ∙ sum_of_back (run_sum runs h) (λ (m : Member J). m.job) ts,
          sym (ap (sum_of taken) a.owns_are) ∙ sum_of_back taken (λ (m : Member J). m.seat.own) ss,
          sym (ap (sum_of taken) b.owns_are) ∙ sum_of_back taken (λ (m : Member J). m.seat.own) ts,
          sym (ap (sum_of puts) a.owns_are) ∙ sum_of_back puts (λ (m : Member J). m.seat.own) ss,
          sym (ap (sum_of puts) b.owns_are) ∙ sum_of_back puts (λ (m : Member J). m.seat.own) ts,
          sym (ap (sum_of (purse_taken h)) a.purses_are) ∙
              sum_of_back (purse_taken h) (λ (m : Member J). m.seat.purse) ss,
          sym (ap (sum_of (purse_taken h)) b.purses_are) ∙
              sum_of_back (purse_taken h) (λ (m : Member J). m.seat.purse) ts,
        )

    -- after the purses went back and each deque was looked at
    pub ledger_begins : (tasks : ℕ) (settled checked : List Deque) (v : Account) → v.parts ≡ 0 → v.put ≡ below tasks →
        ((h : ℕ → ℕ) → sum_of h v.taken ≡ sum_of (source_taken h) ts) → ((h : ℕ → ℕ) → sum_of (source_taken h) ss ≡ 0) →
        ((h : ℕ → ℕ) → (sum_of (own_taken h) owns ≡ 0) × (sum_of (own_put h) owns ≡ 0)) →
        ((h : ℕ → ℕ) → sum_of (purse_taken h) purses ≡ 0)
        → HaveTaken (λ h. sum_of (purse_taken h) purses') owns' settled → HaveTaken (λ h. 0) settled checked →
        Each (Stands shared.thieves.items 0) 0 (length checked) checked → All (λ w. Fits (worker_view w)) checked →
        All (λ j. tasks ≤ spare j) jobs
        → Ledger work runs spare shared.thieves.items tasks jobs jobs' v checked
    ledger_begins tasks settled checked v none put source before fresh idle back looked stands fits room = record {
      stands = stands;
      fits = fits;
      parts = none;
      put = put;
      balance = λ h. omega (
        arith,
        all_balance h (before h) (fresh h).0 (fresh h).1 (idle h),
        source h,
        (back h).0,
        (back h).1,
        (looked h).0,
        (looked h).1,
      );
      jobs = jobs_ran;
      spares = room;
    }
