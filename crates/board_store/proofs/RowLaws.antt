-- The rows of a legal history are right, and where it is finished they are the whole run.
use Rattle.board_store.proofs.Common.{◌≡◌, ℕ, zero, suc, ◌+◌, ◌-◌, ◌<◌, ◌≤◌, Bool, true, false, inl, inr, Option}
use Rattle.board_store.proofs.Common.{Some, List, [], ◌∷◌, ◌++◌, length, map, take, get_or, refl, sym, ap, subst}
use Rattle.board_store.proofs.Common.{arith, rules, length-append, false≢true, cases_lt, leb-true, length-map}
use Rattle.board_store.proofs.Common.{slice_get_within, prefix_len_passes, prefix_len_stops, AllZip, range_with_len}
use Rattle.board_store.proofs.Common.{option_map_or, not, slice_get, IsTrue, IsFalse, Rules, Event, Posts, posts}
use Rattle.board_store.proofs.Common.{is_closed, answer_at, answers, rows_to, prices_at, closed_front, rows_of}
use Rattle.board_store.proofs.Common.{free_front, opened, is_finished, AnyUnit, Thermal, Flat, Bid, PriceLists}
use Rattle.board_store.proofs.Common.{Schedule, Market, NamedThermalUnit, NamedRenewableUnit, NamedBidUnit, units}
use Rattle.board_store.proofs.Common.{unit_count, IsBest, IsTop, earnings, Proposal, no_prices, price_rule}
use Rattle.board_store.proofs.Common.{is_settled, Fits, IsNextRow, AreRightRows, IsRun, Setup, Answer, row_of}
use Rattle.board_store.proofs.Common.{rules_of, schedules_in, earned_in, IsRight, IsLegalFor}
use Rattle.board_store.proofs.Common.{EachRowHasAnswerOfEachUnit}
use Rattle.board_store.proofs.Common.{FinishedHistoryIsWholeRun, FinishedHasRow, FinishedStays}
use Rattle.board_store.proofs.Common.{AnswersOfHistoryFitTheirTasks}
use Rattle.board_store.proofs.Answered.{all_answer}
use Rattle.board_store.proofs.Fronts.{front_le}
use Rattle.board_store.proofs.PostsKept.{post_of, rows_length, rows_take, row_at, front_closed}
use Rattle.board_store.proofs.Stays.{finished_stays, goes_after}

pub units_length : (m : Market) → length (units m) ≡ unit_count m
units_length m =
    let ts = map (λ (n : NamedThermalUnit). Thermal n.unit) m.thermal in
    let fs = map (λ (n : NamedRenewableUnit). Flat n.unit) m.flat in
    let bs = map (λ (n : NamedBidUnit). Bid n.unit) m.bids in
    let a = length-map m.thermal (λ (n : NamedThermalUnit). Thermal n.unit) in
    let b = length-map m.flat (λ (n : NamedRenewableUnit). Flat n.unit) in
    let c = length-map m.bids (λ (n : NamedBidUnit). Bid n.unit) in
    omega (arith, length-append (ts ++ fs) bs, length-append ts fs, a, b, c)

-- items that a function gives at the places of a list
pub zip_range : {X Y Z : Type 0} (Q : X → Z → Type 0) (z : Y → Z) (f : ℕ → Y) (xs : List X) (a n : ℕ) → length xs ≡ n →
    ((k : ℕ) (x : X) → slice_get xs k ≡ Some x → Q x (z (f (a + k)))) → AllZip Q xs (map z (map f (range_with_len a n)))
zip_range Q z f [] a zero h each = tt
zip_range Q z f [] a (suc n) h each = absurd (omega (arith, h))
zip_range Q z f (x ∷ xs) a zero h each = absurd (omega (arith, h))
zip_range {X} {Y} {Z} Q z f (x ∷ xs) a (suc n) h each =
    let e : a + 0 ≡ a = omega arith in (
      subst (λ (k : ℕ). Q x (z (f k))) e (each 0 x refl),
      zip_range Q z f xs (a + 1) n (omega (arith, h)) (λ k y i.
          let s : a + suc k ≡ (a + 1) + k = omega arith in subst (λ (j : ℕ). Q y (z (f j))) s (each (suc k) y i)),
    )

not_true : (b : Bool) → not b ≡ true → IsFalse b
not_true true h = absurd (false≢true h)
not_true false h = search rules

not_false : (b : Bool) → not b ≡ false → IsTrue b
not_false true h = search rules
not_false false h = absurd (false≢true (sym h))

pub same_some : {X : Type 0} (o : Option X) (x y : X) → o ≡ Some x → o ≡ Some y → x ≡ y
same_some o x y h i = (cc)

module _ (fits : AnyUnit → PriceLists → Schedule → Type 0)
    (best : (u : AnyUnit) (π : PriceLists) (s : Schedule) → fits u π s → IsBest u π s) where
  module _ (b : Setup) (h : List (Event Answer)) (ahead : 1 ≤ b.ahead) (legal : IsLegalFor fits b h) where
    abbrev g : Rules PriceLists Proposal Answer
    g = rules_of b

    abbrev p : Posts Answer
    p = posts h

    -- the answer of a task of a closed proposal
    answer_is : (n u : ℕ) (x : AnyUnit) → is_closed g p n ≡ true → slice_get (units b.market) u ≡ Some x →
        fits x (prices_at g p n) (answer_at g p n u).schedule ×
        (earnings x (prices_at g p n) (answer_at g p n u).schedule ≡ (answer_at g p n u).earned)
    answer_is n u x closed is =
        let w = slice_get_within (units b.market) u x is in
        let inside : u < unit_count b.market = omega (arith, w, units_length b.market) in
        let post = post_of g p n u closed inside in
        let right =
        (all_answer g (IsRight fits b.market) (row_of b.market no_prices []) h legal n u post.0 post.1).fit in
        let same = same_some (slice_get (units b.market) u) right.unit x right.is is in
        let there : answer_at g p n u ≡ post.0.1 =
        ap (λ (o : Option (ℕ × Answer)). option_map_or (λ (y : ℕ × Answer). y.1) o g.missing) post.1 in
        subst (λ (a : Answer). fits x (prices_at g p n) a.schedule ×
        (earnings x (prices_at g p n) a.schedule ≡ a.earned)) (sym there)
        (subst (λ (v : AnyUnit). fits v (prices_at g p n) post.0.1.schedule ×
        (earnings v (prices_at g p n) post.0.1.schedule ≡ post.0.1.earned)) same (right.fit, right.earned))

    answers_fit : (n : ℕ) → is_closed g p n ≡ true →
        AllZip (λ u s. fits u (prices_at g p n) s) (units b.market) (schedules_in (answers g p n))
    answers_fit n closed =
        zip_range (λ u s. fits u (prices_at g p n) s) (λ (a : Answer). a.schedule) (answer_at g p n) (units b.market) 0
        (unit_count b.market) (units_length b.market)
        (λ k x is. let e : k ≡ 0 + k = omega arith in
        subst (λ (j : ℕ). fits x (prices_at g p n) (answer_at g p n j).schedule) e (answer_is n k x closed is).0)

    tops_are : (n : ℕ) → is_closed g p n ≡ true →
        AllZip (λ u e. IsTop u (prices_at g p n) e) (units b.market) (earned_in (answers g p n))
    tops_are n closed =
        zip_range (λ u e. IsTop u (prices_at g p n) e) (λ (a : Answer). a.earned) (answer_at g p n) (units b.market) 0
        (unit_count b.market) (units_length b.market)
        (λ k x is.
        let a = answer_is n k x closed is in
        let top : IsTop x (prices_at g p n) (answer_at g p n k).earned =
        record {
          schedule = (answer_at g p n k).schedule;
          best =
              best x (prices_at g p n) (answer_at g p n k).schedule a.0;
          earns = a.1;
        } in
        let e : k ≡ 0 + k = omega arith in
        subst (λ (j : ℕ). IsTop x (prices_at g p n) (answer_at g p n j).earned) e top)

    -- the row of a closed proposal is right after the rows before it
    next_row : (n : ℕ) → is_closed g p (suc n) ≡ true →
        IsNextRow fits b.market b.cost b.ahead (rows_to g p n)
        (row_of b.market (prices_at g p (suc n)) (answers g p (suc n)))
    next_row n closed = record {
      prices = subst (λ (k : ℕ). prices_at g p (suc n) ≡ price_rule b.market b.cost b.ahead
          (take (suc k - b.ahead) (rows_to g p n)) (suc k)) (sym (rows_length g p n))
          (sym (ap (λ (before : List Proposal). price_rule b.market b.cost b.ahead before (suc n))
          (rows_take g p n (suc n - b.ahead) (omega (arith, ahead)))));
      value = record { tops = earned_in (answers g p (suc n)); best = tops_are (suc n) closed; is = refl };
      schedules = schedules_in (answers g p (suc n));
      answers = answers_fit (suc n) closed;
      totals = record { supply = refl; reserve = refl };
    }

    pub right_rows : AreRightRows fits b.market b.cost b.ahead (rows_of g p)
    right_rows = record {
      each = λ k d i.
          let inside : k < closed_front g p = omega (arith, i, rows_length g p (closed_front g p)) in
          subst (λ (r : Proposal). IsNextRow fits b.market b.cost b.ahead (take k (rows_of g p)) r)
          (sym (row_at g ahead p (closed_front g p) k d inside))
          (subst (λ (before : List Proposal). IsNextRow fits b.market b.cost b.ahead before
          (row_of b.market (prices_at g p (suc k)) (answers g p (suc k))))
          (sym (rows_take g p (closed_front g p) k (omega (arith, inside))))
          (next_row k (front_closed g p k inside)));
    }

    -- the last closed proposal was open for work when its tasks were posted
    front_was_open : 1 ≤ unit_count b.market → closed_front g p ≤ opened g p
    front_was_open some =
        elim (cases_lt 0 (closed_front g p)) [
          | inr none ↦ omega (arith, none)
          | inl more ↦
              let k = closed_front g p - 1 in
              let e : suc k ≡ closed_front g p = omega (arith, more) in
              let post = post_of g p (suc k) 0 (front_closed g p k (omega (arith, more))) some in
              let open_ = (all_answer g (IsRight fits b.market) (row_of b.market no_prices []) h legal (suc k) 0 post.0
              post.1).open_ in
              omega (arith, open_, e)
        ]

    whole_run : 1 ≤ unit_count b.market → is_finished g p ≡ true →
        IsRun fits b.market b.cost b.budget b.ahead (rows_of g p)
    whole_run some finished =
        let long = rows_length g p (closed_front g p) in
        let within = front_le (is_closed g p) b.budget in
        record {
          right = right_rows;
          within = omega (arith, long, within);
          open_so_far = λ k d i.
              not_true (is_settled b.market b.cost (get_or (rows_of g p) k d))
              (prefix_len_passes (λ (r : Proposal). not (is_settled b.market b.cost r)) (rows_of g p) k d
              (omega (arith, i, long, front_was_open some)));
          whole =
              let enough = leb-true (opened g p) (closed_front g p) finished in
              elim (cases_lt (b.ahead + free_front g p) b.budget) [
                | inr all ↦ inl (omega (arith, enough, all, long, within))
                | inl less ↦
                    let stops : free_front g p < length (rows_of g p) = omega (arith, enough, less, ahead, long) in
                    inr (
                      free_front g p,
                      omega (arith, enough, less, long),
                      stops,
                      λ d.
                          not_false (is_settled b.market b.cost (get_or (rows_of g p) (free_front g p) d))
                          (prefix_len_stops (λ (r : Proposal). not (is_settled b.market b.cost r)) (rows_of g p) d
                          stops),
                    )
              ];
        }

  pub finished_is_run : FinishedHistoryIsWholeRun fits
  finished_is_run b h ahead some legal finished = whole_run b h ahead legal some finished

-- an answer is best, whether each best one fits or the least alone
pub fits_is_best : (u : AnyUnit) (π : PriceLists) (s : Schedule) → Fits u π s → IsBest u π s
fits_is_best u π s h = assumption h

pub run_fits : FinishedHistoryIsWholeRun Fits
run_fits = finished_is_run Fits fits_is_best

pub stays_finished : FinishedStays Fits
stays_finished b h later legal fin =
    finished_stays (rules_of b) (IsRight Fits b.market) h later
    (goes_after (rules_of b) (IsRight Fits b.market) [] h later legal) fin

pub has_row : FinishedHasRow
has_row s ahead some finished =
    let g = rules_of s.setup in
    let p = posts s.events in
    let enough = leb-true (opened g p) (closed_front g p) finished in
    omega (arith, enough, ahead, some, rows_length g p (closed_front g p))

pub answers_fit_now : AnswersOfHistoryFitTheirTasks
answers_fit_now b h n u x legal is =
    let a = all_answer (rules_of b) (IsRight Fits b.market) (row_of b.market no_prices []) h legal n u x is in
    record { from_one = a.from_one; open_ = a.open_; unit = a.unit; right = a.fit }

-- a row is made of an answer for each unit, at the prices of its proposal
pub rows_are_made : EachRowHasAnswerOfEachUnit
rows_are_made b h ahead k d inside =
    let g = rules_of b in
    let low : k < closed_front g (posts h) =
    omega (arith, inside, rows_length g (posts h) (closed_front g (posts h))) in
    record {
      made = row_at g ahead (posts h) (closed_front g (posts h)) k d low;
      each = λ u unit. post_of g (posts h) (suc k) u (front_closed g (posts h) k low) unit;
    }
