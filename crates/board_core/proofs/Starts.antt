-- A board without events.
use Rattle.board_core.proofs.Common.{◌≡◌, ℕ, zero, suc, ◌+◌, ◌-◌, ◌<◌, ◌≤◌, ℤ, pos, Bool, true, false, cond, Option}
use Rattle.board_core.proofs.Common.{Some, None, List, [], ◌∷◌, length, map, take, get_or, refl, sym, ap, ◌∙◌, arith}
use Rattle.board_core.proofs.Common.{false≢true, nat_tests, ints, ext_get_or, get_or-map, get_or-replicate, get_or-take}
use Rattle.board_core.proofs.Common.{length-map, length-replicate, length-take-le, sum_by-replicate, fill_by_all}
use Rattle.board_core.proofs.Common.{length-map-range_with_len, get_or-map-range_with_len, list_all, range_with_len}
use Rattle.board_core.proofs.Common.{is_some, min, not, nat_le, replicate, slice_index, Setup, Answer, no_answer}
use Rattle.board_core.proofs.Common.{rules_of, schedules_in, earned_in, RoundLaws, Rules, Posts, posts, is_closed}
use Rattle.board_core.proofs.Common.{answers, closed_front, rows_of, rows_to, opened_of, opened_in, prices_at, AnyUnit}
use Rattle.board_core.proofs.Common.{Thermal, Flat, Bid, PriceLists, Schedule, units, unit_count, supply_in, Proposal}
use Rattle.board_core.proofs.Common.{start_prices, opening_prices_of, next_prices, no_prices, reserve_in, int_at, total}
use Rattle.board_core.proofs.Common.{zip_with, total_power, total_reserve, task_number, LedgerValue, blank, task_count}
use Rattle.board_core.proofs.Common.{bit, sum_up, unset, supply_to, reserve_to, sums_of, fronts_of, IsLedger, IsBoard}
use Rattle.board_core.proofs.Common.{IsSetup}
use Rattle.board_core.proofs.Advances.{choose_true}
use Rattle.board_core.proofs.Claims.{some_units}
use Rattle.board_core.proofs.Opened.{IsOpened}

abbrev none : Posts Answer
none = posts []

-- no proposal is closed where there is a unit
not_closed : (b : Setup) (n : ℕ) → 1 ≤ unit_count b.market → is_closed (rules_of b) none n ≡ false
not_closed b n some = first (unit_count b.market) some
  where
    first : (k : ℕ) → 1 ≤ k → list_all (λ u. is_some (none n u)) (range_with_len 0 k) ≡ false
    first zero h = absurd (omega (arith, h))
    first (suc k) h = refl

-- ---- totals of no answers

abbrev nothing : (a n : ℕ) → List Answer
nothing a n = map (λ (u : ℕ). no_answer) (range_with_len a n)

no_supply : (u : AnyUnit) (k : ℕ) → supply_in u no_answer.schedule (suc k) ≡ pos 0
no_supply (Thermal g) k = refl
no_supply (Flat r) k = refl
no_supply (Bid b) k = omega (arith, ints)

no_sum : (z : AnyUnit → Schedule → ℤ) → ((u : AnyUnit) → z u no_answer.schedule ≡ pos 0) →
    (us : List AnyUnit) (a n : ℕ) → total (zip_with z us (schedules_in (nothing a n))) ≡ pos 0
no_sum z h [] a n = refl
no_sum z h (u ∷ us) a zero = refl
no_sum z h (u ∷ us) a (suc n) = let e = h u in let r = no_sum z h us (a + 1) n in omega (arith, ints, e, r)

no_earned : (a n : ℕ) → total (earned_in (nothing a n)) ≡ pos 0
no_earned a zero = refl
no_earned a (suc n) = let r = no_earned (a + 1) n in omega (arith, ints, r)

zeros : (f : ℕ → ℤ) (n : ℕ) → ((k : ℕ) → f k ≡ pos 0) → map f (range_with_len 0 n) ≡ replicate n (pos 0)
zeros f n h =
    sym (fill_by_all f (replicate n (pos 0)) n (pos 0) (length-replicate n (pos 0))
    (λ k lt. get_or-replicate n k (pos 0) (pos 0) lt ∙ sym (h k)))

none_answered : (a n : ℕ) → sum_up (map (λ (u : ℕ). bit false) (range_with_len a n)) ≡ 0
none_answered a zero = refl
none_answered a (suc n) = let r = none_answered (a + 1) n in omega (arith, r)

all_false : (n i : ℕ) → get_or (replicate n false) i false ≡ false
all_false zero i = refl
all_false (suc n) zero = refl
all_false (suc n) (suc i) = all_false n i

pub all_unset : (n : ℕ) → unset (replicate n false) ≡ n
all_unset n = let e = sum_by-replicate (λ (t : Bool). bit (not t)) n false in omega (arith, e)

module _ (b : Setup) (laws : RoundLaws b) (S : IsSetup b) (l : LedgerValue)
    (O : IsOpened (start_prices b.market) b.budget (min b.budget b.ahead) l) where
  abbrev g : Rules PriceLists Proposal Answer
  g = rules_of b

  abbrev T : ℕ
  T = b.market.periods

  long : length (start_prices b.market) ≡ T
  long = length-map-range_with_len _ 0 T

  front_zero : 0 ≡ closed_front g none
  front_zero = (laws.front none).is 0 (omega arith) (λ k h. absurd (omega (arith, h)))
      (λ h. not_closed b 1 (some_units b S))

  rows_none : [] ≡ rows_of g none
  rows_none = ap (rows_to g none) front_zero

  opened_first : min b.budget b.ahead ≡ opened_of g none
  opened_first =
      let e : opened_in g [] ≡ opened_of g none = ap (λ (xs : List Proposal). opened_in g xs) rows_none in
      let f : opened_in g [] ≡ min b.budget b.ahead = omega arith in
      sym f ∙ e

  is_ledger : IsLedger b l
  is_ledger =
      let c = O.closed in let o = O.opened in
      record {
        count = O.count;
        closed = omega (arith, c);
        opened = omega (arith, o);
        horizon = λ k d lt. O.horizon k d (let n = O.count in omega (arith, lt, n)) ∙ long;
      }

  opening_price : (k : ℕ) → k < min b.budget b.ahead →
      prices_at g none (suc k) ≡ opening_prices_of (start_prices b.market) (suc k)
  opening_price k h =
      let test : nat_le (suc k) b.ahead ≡ true = within (suc k) b.ahead (omega (arith, h)) in
      choose_true (nat_le (suc k) b.ahead) (opening_prices_of (start_prices b.market) (suc k))
      (next_prices b.market b.cost (rows_to g none (suc k - b.ahead))) test
    where
      within : (n m : ℕ) → n ≤ m → nat_le n m ≡ true
      within n m i = grind (arith, nat_tests)

  prices_first : (fronts_of l).prices ≡ map (prices_at g none) (range_with_len 1 (opened_of g none))
  prices_first =
      let n = min b.budget b.ahead in
      let c = O.count in
      let o = O.opened in
      let all = map (λ (r : Proposal). r.prices) l.proposals in
      let wide : length all ≡ b.budget = length-map l.proposals (λ (r : Proposal). r.prices) ∙ c in
      same_from (take l.opened all) n (length-take-le l.opened all (omega (arith, wide, o)) ∙ o)
      (λ k h.
      get_or-take l.opened all k no_prices (omega (arith, h, o))
      ∙ get_or-map (λ (r : Proposal). r.prices) l.proposals k (blank 0) no_prices (omega (arith, h, c))
      ∙ O.prices k (blank 0) h ∙ sym (opening_price k h))
      ∙ ap (λ (m : ℕ). map (prices_at g none) (range_with_len 1 m)) opened_first
    where
      same_from : (xs : List PriceLists) (n : ℕ) → length xs ≡ n →
          ((k : ℕ) → k < n → get_or xs k no_prices ≡ prices_at g none (suc k)) →
          xs ≡ map (prices_at g none) (range_with_len 1 n)
      same_from xs n e h =
          ext_get_or no_prices xs (map (prices_at g none) (range_with_len 1 n))
          (e ∙ sym (length-map-range_with_len (prices_at g none) 1 n))
          (λ i lt. h i (omega (arith, lt, e)) ∙
          sym (get_or-map-range_with_len (prices_at g none) 1 n i (suc i) no_prices (omega (arith, lt, e))
          (omega arith)))

  supply_first : (k : ℕ) → k < b.budget → get_or (sums_of l).supply k [] ≡ supply_to b none (suc k)
  supply_first k h =
      let c = O.count in
      get_or-map (λ (r : Proposal). r.supply) l.proposals k (blank 0) [] (omega (arith, h, c))
      ∙ O.supply k (blank 0) h ∙ ap (λ (n : ℕ). replicate n (pos 0)) long
      ∙ sym (zeros (total_power (units b.market) (schedules_in (answers g none (suc k)))) T
      (λ j. no_sum (λ u s. supply_in u s (suc j)) (λ u. no_supply u j) (units b.market) 0 (unit_count b.market)))

  reserve_first : (k : ℕ) → k < b.budget → get_or (sums_of l).reserve k [] ≡ reserve_to b none (suc k)
  reserve_first k h =
      let c = O.count in
      get_or-map (λ (r : Proposal). r.reserve) l.proposals k (blank 0) [] (omega (arith, h, c))
      ∙ O.reserve k (blank 0) h ∙ ap (λ (n : ℕ). replicate n (pos 0)) long
      ∙ sym (zeros (total_reserve (units b.market) (schedules_in (answers g none (suc k)))) T
      (λ j. no_sum (λ u s. reserve_in s (suc j)) (λ u. refl) (units b.market) 0 (unit_count b.market)))

  pub starts : (kept : List Answer) → length kept ≡ task_count b →
      IsBoard b [] (record {
        takers = [];
        marks = replicate (task_count b) false;
        kept = kept;
        counts =
            replicate b.budget 0;
        halted = replicate b.callers false;
        any_halt = false;
      }) l
  starts kept size = record {
    setup = S;
    legal = tt;
    takers_are = record { count = omega arith; each = λ n u low high i. refl };
    marks_are = record {
      marks_count = length-replicate (task_count b) false;
      kept_count = size;
      each = λ n u low high i.
          let j = task_number (unit_count b.market) n u in
          sym (ap (λ (t : Bool). cond {A = Option (ℕ × Answer)} t (Some (slice_index [] j, get_or kept j no_answer))
          None) (all_false (task_count b) j));
      claimed = λ i e. absurd (false≢true (sym (all_false (task_count b) i) ∙ e));
    };
    tallies = record {
      counts_count = length-replicate b.budget 0;
      earned_count = ap (λ (xs : List ℤ). length xs) O.earned ∙ length-replicate b.budget (pos 0);
      supply_count = length-map l.proposals (λ (r : Proposal). r.supply) ∙ O.count;
      reserve_count = length-map l.proposals (λ (r : Proposal). r.reserve) ∙ O.count;
      counts_are = λ k h. get_or-replicate b.budget k 0 0 h ∙ sym (none_answered 0 (unit_count b.market));
      earned_are = λ k h. ap (λ (xs : List ℤ). int_at xs k) O.earned ∙ get_or-replicate b.budget k (pos 0) (pos 0) h ∙
          sym (no_earned 0 (unit_count b.market));
      supply_are = supply_first;
      reserve_are = reserve_first;
    };
    ledger = is_ledger;
    rounds = record { rows_are = ap (λ (n : ℕ). take n l.proposals) O.closed ∙ rows_none; prices_are = prices_first };
    halts = record {
      count = length-replicate b.callers false;
      each = λ c h. get_or-replicate b.callers c false false h;
      some = refl;
    };
  }
