-- How large the totals, the earnings and the value of a proposal can be, whether all of its answers are there or not;
-- and
-- that no row's value is above the cost of a feasible plan.
use Rattle.board_store.proofs.Common.{◌≡◌, ℕ, zero, suc, ◌+◌, ◌-◌, ◌*◌, ◌<◌, Bool, true, false, cond, Option, Some}
use Rattle.board_store.proofs.Common.{None, ℤ, pos, neg_ℤ, ◌+ℤ◌, ◌-ℤ◌, ◌*ℤ◌, ◌≤ℤ◌, List, [], ◌∷◌, map, length, get_or}
use Rattle.board_store.proofs.Common.{refl, sym, ◌∙◌, subst, arith, ints, length-map, All-map}
use Rattle.board_store.proofs.Common.{All-replicate, length-range_with_len, slice_get_within, slice_get-get_or}
use Rattle.board_store.proofs.Common.{get_or_from_slice_get, AllZip, range_with_len, option_map_or, nat_le, slice_get}
use Rattle.board_store.proofs.Common.{AnyUnit, Bid, PriceLists, Schedule, Market, units, unit_count, GivesWithin}
use Rattle.board_store.proofs.Common.{DualIsAtMostCost, IsFrom, IsUnit, IsTotal, IsHorizon, IsMarket, ArePrices}
use Rattle.board_store.proofs.Common.{price_limit, Proposal, start_prices, opening_prices_of, stepped_prices, move_of}
use Rattle.board_store.proofs.Common.{squared_length, energy_direction, reserve_direction, age, no_prices}
use Rattle.board_store.proofs.Common.{next_prices, Fits, int_at, total, floor_div, clamped, total_power}
use Rattle.board_store.proofs.Common.{total_reserve, IsWithin, clamped_from, Setup, Answer, no_answer, rules_of}
use Rattle.board_store.proofs.Common.{row_of, schedules_in, earned_in, IsRight, IsLegalHistory, Rules, Event, Posts}
use Rattle.board_store.proofs.Common.{posts, prices_at, answer_at, answers, rows_of, rows_to}
use Rattle.board_store.specs.Bounds.{AreWithin, IsRowWithin, RowsOfHistoryAreWithinLimits, RowsAreAtMostCost}
use Rattle.board_store.proofs.Answered.{all_answer}
use Rattle.board_store.proofs.PostsKept.{rows_length}
use Rattle.board_store.proofs.OwnTasks.{own_horizon, own_reserve_horizon, not_le_lt}
use Rattle.board_store.proofs.RowLaws.{units_length, zip_range, same_some, fits_is_best, right_rows, rows_are_made}
use Rattle.board_store.proofs.UnitBounds.{ModelLaws, no_output, earnings_within, lengths_of}

-- numbers of a range within a bound
range_within : (c : ℕ) (z : Answer → ℤ) (f : ℕ → Answer) (a n : ℕ) → ((k : ℕ) → k < a + n → IsWithin c (z (f k))) →
    IsWithin (n * c) (total (map z (map f (range_with_len a n))))
range_within c z f a zero each = record { at_least = omega (arith, ints); at_most = omega (arith, ints) }
range_within c z f a (suc n) each =
    let here = each a (omega arith) in
    let rest = range_within c z f (a + 1) n (λ k i. each k (omega (arith, i))) in
    let hl = here.at_least in
    let hm = here.at_most in
    let rl = rest.at_least in
    let rm = rest.at_most in
    record { at_least = omega (arith, ints, hl, rl); at_most = omega (arith, ints, hm, rm) }

-- ---- the units of a case

unit_limited : ModelLaws → (m : Market) → IsMarket m → (u : ℕ) (x : AnyUnit) → slice_get (units m) u ≡ Some x → IsUnit x
unit_limited laws m limits u x is =
    subst IsUnit (get_or_from_slice_get (units m) u x x is)
    (laws.units m limits u x (slice_get_within (units m) u x is))

-- ---- prices

module _ (m : Market) (horizon : IsHorizon m.periods) where
  opening_prices : (n : ℕ) → length (opening_prices_of (start_prices m) n).energy ≡ m.periods →
      length (opening_prices_of (start_prices m) n).reserve ≡ m.periods →
      ArePrices (opening_prices_of (start_prices m) n)
  opening_prices n e r = record {
    lengths = e ∙ sym r;
    horizon = subst IsHorizon (sym e) horizon;
    energy = All-map (IsFrom (neg_ℤ price_limit) price_limit)
        (λ (s : ℤ). clamped (neg_ℤ price_limit) price_limit (floor_div (s *ℤ pos (7 + n)) 8)) (start_prices m)
        (λ k d i. clamped_from (neg_ℤ price_limit) price_limit
        (floor_div (get_or (start_prices m) k d *ℤ pos (7 + n)) 8) (omega (arith, ints)));
    reserve = All-replicate (IsFrom (pos 0) price_limit) (length (start_prices m)) (pos 0)
        (record { at_least = omega (arith, ints); at_most = omega (arith, ints) });
  }

  -- where a step leads before it is kept within its limits
  abbrev moved_energy : ℤ → ℕ → Proposal → ℕ → ℤ
  moved_energy cost k r j = int_at r.prices.energy j +ℤ move_of (cost -ℤ r.value) (squared_length m r) k
      (energy_direction m r j)

  abbrev moved_reserve : ℤ → ℕ → Proposal → ℕ → ℤ
  moved_reserve cost k r j = int_at r.prices.reserve j +ℤ move_of (cost -ℤ r.value) (squared_length m r) k
      (reserve_direction m r j)

  stepped_are : (cost : ℤ) (k : ℕ) (r : Proposal) → length (stepped_prices m cost k r).energy ≡ m.periods →
      length (stepped_prices m cost k r).reserve ≡ m.periods → ArePrices (stepped_prices m cost k r)
  stepped_are cost k r e q = record {
    lengths = e ∙ sym q;
    horizon = subst IsHorizon (sym e) horizon;
    energy = All-map (IsFrom (neg_ℤ price_limit) price_limit)
        (λ (j : ℕ). clamped (neg_ℤ price_limit) price_limit (moved_energy cost k r j)) (range_with_len 0 m.periods)
        (λ j d i. clamped_from (neg_ℤ price_limit) price_limit
        (moved_energy cost k r (get_or (range_with_len 0 m.periods) j d)) (omega (arith, ints)));
    reserve = All-map (IsFrom (pos 0) price_limit) (λ (j : ℕ). clamped (pos 0) price_limit (moved_reserve cost k r j))
        (range_with_len 0 m.periods)
        (λ j d i. clamped_from (pos 0) price_limit (moved_reserve cost k r (get_or (range_with_len 0 m.periods) j d))
        (omega (arith, ints)));
  }

  next_are : (cost : ℤ) (rows : List Proposal) → 0 < length rows → length (next_prices m cost rows).energy ≡ m.periods →
      length (next_prices m cost rows).reserve ≡ m.periods → ArePrices (next_prices m cost rows)
  next_are cost [] some e q = absurd (omega (arith, some))
  next_are cost (r ∷ rows) some e q =
      let last = slice_get-get_or (r ∷ rows) (length (r ∷ rows) - 1) r (omega arith) in
      let from : Option Proposal → PriceLists =
      λ o. option_map_or (stepped_prices m cost (age (r ∷ rows))) o no_prices in
      subst (λ (o : Option Proposal). length (from o).energy ≡ m.periods → length (from o).reserve ≡ m.periods →
      ArePrices (from o)) (sym last)
      (stepped_are cost (age (r ∷ rows)) (get_or (r ∷ rows) (length (r ∷ rows) - 1) r)) e q

-- the prices of a proposal are prices
pub own_are_prices : (b : Setup) (p : Posts Answer) (n : ℕ) → IsMarket b.market → ArePrices (prices_at (rules_of b) p n)
own_are_prices b p n limits = choose (nat_le n b.ahead) refl (own_horizon b p n) (own_reserve_horizon b p n)
  where
    choose : (t : Bool) → nat_le n b.ahead ≡ t →
        length (cond t (opening_prices_of (start_prices b.market) n)
        (next_prices b.market b.cost (rows_to (rules_of b) p (n - b.ahead)))).energy ≡ b.market.periods →
        length (cond t (opening_prices_of (start_prices b.market) n)
        (next_prices b.market b.cost (rows_to (rules_of b) p (n - b.ahead)))).reserve ≡ b.market.periods →
        ArePrices (cond t (opening_prices_of (start_prices b.market) n)
        (next_prices b.market b.cost (rows_to (rules_of b) p (n - b.ahead))))
    choose true is e r = opening_prices b.market limits.horizon n e r
    choose false is e r =
        let past = not_le_lt n b.ahead is in
        next_are b.market limits.horizon b.cost (rows_to (rules_of b) p (n - b.ahead))
        (omega (arith, past, rows_length (rules_of b) p (n - b.ahead))) e r

-- ---- totals of a proposal

module _ (laws : ModelLaws) (b : Setup) (h : List (Event Answer)) (limits : IsMarket b.market)
    (legal : IsLegalHistory b h) (n : ℕ) where
  abbrev m : Market
  m = b.market

  abbrev g : Rules PriceLists Proposal Answer
  g = rules_of b

  abbrev π : PriceLists
  π = prices_at g (posts h) n

  -- what an answer gives and earns, also one that is missing
  record IsSmall (x : AnyUnit) (a : Answer) : Type 0 where
    output : (k : ℕ) → GivesWithin x a.schedule k
    earned : IsWithin 5040000000000000000 a.earned

  missing_is_small : (x : AnyUnit) → IsSmall x no_answer
  missing_is_small x = record {
    output = λ k. no_output x no_answer.schedule k refl refl;
    earned =
        record { at_least = omega (arith, ints); at_most = omega (arith, ints) };
  }

  posted_is_small : (u : ℕ) (x : AnyUnit) (y : ℕ × Answer) → slice_get (units m) u ≡ Some x → posts h n u ≡ Some y →
      IsSmall x y.1
  posted_is_small u x y is post =
      let right = (all_answer g (IsRight Fits m) (row_of m no_prices []) h legal n u y post).fit in
      let same = same_some (slice_get (units m) u) right.unit x right.is is in
      let best = fits_is_best right.unit π y.1.schedule right.fit in
      let feasible = best.feasible in
      let limited = unit_limited laws m limits u right.unit right.is in
      subst (λ (z : AnyUnit). IsSmall z y.1) same (record {
        output = λ k. laws.outputs right.unit y.1.schedule (length π.energy) limited feasible k;
        earned = subst (λ (e : ℤ). IsWithin 5040000000000000000 e) right.earned
            (earnings_within laws right.unit π y.1.schedule (length π.energy) limited
            (own_are_prices b (posts h) n limits) feasible refl);
      })

  answer_is_small : (u : ℕ) (x : AnyUnit) → slice_get (units m) u ≡ Some x → IsSmall x (answer_at g (posts h) n u)
  answer_is_small u x is = choose (posts h n u) refl
    where
      choose : (o : Option (ℕ × Answer)) → posts h n u ≡ o →
          IsSmall x (option_map_or (λ (y : ℕ × Answer). y.1) o no_answer)
      choose None post = missing_is_small x
      choose (Some y) post = posted_is_small u x y is post

  abbrev given : List Schedule
  given = schedules_in (answers g (posts h) n)

  all_units : (Q : AnyUnit → Schedule → Type 0) → ((x : AnyUnit) (a : Answer) → IsSmall x a → Q x a.schedule) →
      AllZip Q (units m) given
  all_units Q each =
      zip_range Q (λ (a : Answer). a.schedule) (answer_at g (posts h) n) (units m) 0 (unit_count m) (units_length m)
      (λ k x is.
      let e : k ≡ 0 + k = omega arith in
      subst (λ (j : ℕ). Q x (answer_at g (posts h) n j).schedule) e
      (each x (answer_at g (posts h) n k) (answer_is_small k x is)))

  all_within : (k : ℕ) → IsTotal (total_power (units m) given k) × IsTotal (total_reserve (units m) given k)
  all_within = laws.totals m given limits (all_units (λ u s. (k : ℕ) → GivesWithin u s k) (λ x a s. s.output))

  earned_within : IsWithin 100000000000000000000000 (total (earned_in (answers g (posts h) n)))
  earned_within =
      let r =
      range_within 5040000000000000000 (λ (a : Answer). a.earned) (answer_at g (posts h) n) 0 (unit_count m)
      (λ k i.
      let inside : k < length (units m) = omega (arith, i, units_length m) in
      let d : AnyUnit = Bid (record { blocks = [] }) in
      (answer_is_small k (get_or (units m) k d) (slice_get-get_or (units m) k d inside)).earned) in
      let rl = r.at_least in
      let rm = r.at_most in
      let tc = limits.thermal_count in
      let fc = limits.flat_count in
      let bc = limits.bid_count in
      record { at_least = omega (arith, ints, rl, tc, fc, bc); at_most = omega (arith, ints, rm, tc, fc, bc) }

  pub totals_within : AreWithin b h n
  totals_within = record { supply = λ k. (all_within k).0; reserve = λ k. (all_within k).1; earned = earned_within }

  abbrev row : Proposal
  row = row_of m π (answers g (posts h) n)

  row_within : IsRowWithin m row
  row_within =
      let w = laws.worth m π limits (own_are_prices b (posts h) n limits) (own_horizon b (posts h) n) in
      let e = earned_within in
      let wl = w.at_least in
      let wm = w.at_most in
      let el = e.at_least in
      let em = e.at_most in
      record {
        prices = own_are_prices b (posts h) n limits;
        horizon = own_horizon b (posts h) n;
        supply_length = length-map (range_with_len 0 m.periods) _ ∙ length-range_with_len 0 m.periods;
        reserve_length = length-map (range_with_len 0 m.periods) _ ∙ length-range_with_len 0 m.periods;
        supply = All-map (IsWithin 10000000000000) (total_power (units m) given) (range_with_len 0 m.periods)
            (λ k d i. (all_within _).0);
        reserve = All-map (IsWithin 10000000000000) (total_reserve (units m) given) (range_with_len 0 m.periods)
            (λ k d i. (all_within _).1);
        value = record {
          at_least = omega (arith, ints, wm, em, wl, el);
          at_most =
              omega (arith, ints, wm, em, wl, el);
        };
      }

-- ---- rows

pub rows_are_within : ModelLaws → RowsOfHistoryAreWithinLimits
rows_are_within laws b h limits ahead legal k d inside =
    subst (λ (r : Proposal). IsRowWithin b.market r) (sym (rows_are_made b h ahead k d inside).made)
    (row_within laws b h limits legal (suc k))

pub rows_are_at_most_cost : ModelLaws → DualIsAtMostCost → RowsAreAtMostCost
rows_are_at_most_cost laws dual b h limits ahead legal plan cost k d inside =
    let within = rows_are_within laws b h limits ahead legal k d inside in
    let next = (right_rows Fits fits_is_best b h ahead legal).each k d inside in
    let r = get_or (rows_of (rules_of b) (posts h)) k d in
    let low : (j : ℕ) → j < b.market.periods → pos 0 ≤ℤ int_at r.prices.reserve j = λ j i.
    (within.prices.reserve j (pos 0) (let a = within.prices.lengths in let n = within.horizon in
    omega (arith, i, a, n))).at_least in
    subst (λ (c : ℤ). r.value ≤ℤ c) (sym cost)
    (dual b.market b.plan r.prices r.value plan (record { horizon = within.horizon; reserve = low }) next.value)

-- the lists of an answer are as long as those of its prices
pub fit_lengths : (x : AnyUnit) (ρ : PriceLists) (s : Schedule) → Fits x ρ s →
    (length s.on ≡ length ρ.energy) × (length s.power ≡ length ρ.energy) × (length s.reserve ≡ length ρ.energy)
fit_lengths x ρ s fit = lengths_of x s (length ρ.energy) (fits_is_best x ρ s fit).feasible
