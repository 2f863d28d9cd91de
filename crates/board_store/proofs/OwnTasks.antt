-- The board's own tasks: prices and units over the horizon, and what a post whose task nowhere differs from the board's
-- own
-- tells.
use Rattle.board_store.proofs.Common.{◌≡◌, ℕ, zero, suc, ◌-◌, ◌<◌, ℤ, pos, Bool, true, false, cond, Option, Some}
use Rattle.board_store.proofs.Common.{None, List, [], ◌∷◌, ◌++◌, length, map, get_or, refl, sym, ap, ◌∙◌, subst}
use Rattle.board_store.proofs.Common.{arith, nat_tests, length-map, length-replicate, All-append, All-map}
use Rattle.board_store.proofs.Common.{length-map-range_with_len, slice_get_within, slice_get-get_or}
use Rattle.board_store.proofs.Common.{get_or_from_slice_get, All, AllZip, option_map_or, nat_le, slice_get, AnyUnit}
use Rattle.board_store.proofs.Common.{Thermal, Flat, Bid, PriceLists, Schedule, Market, NamedThermalUnit}
use Rattle.board_store.proofs.Common.{NamedRenewableUnit, NamedBidUnit, units, unit_count, earnings, IsMarket}
use Rattle.board_store.proofs.Common.{Proposal, start_prices, opening_prices_of, stepped_prices, age, no_prices}
use Rattle.board_store.proofs.Common.{next_prices, Fits, IsFeasible, IsFeasiblePlan, task_numbers, Setup, Answer}
use Rattle.board_store.proofs.Common.{rules_of, IsRight, own_numbers, differs_from, Posts, prices_at, rows_to}
use Rattle.board_store.proofs.Common.{difference, IsOver, IsTask}
use Rattle.board_store.proofs.PostsKept.{rows_length}
use Rattle.board_store.proofs.RowLaws.{units_length}
use Rattle.board_store.proofs.SameTask.{no_first, same_task}

-- ---- prices

record IsFor (periods : ℕ) (π : PriceLists) : Type 0 where
  pub energy : length π.energy ≡ periods
  pub reserve : length π.reserve ≡ periods

start_length : (m : Market) → length (start_prices m) ≡ m.periods
start_length m = length-map-range_with_len _ 0 m.periods

opening_for : (m : Market) (n : ℕ) → IsFor m.periods (opening_prices_of (start_prices m) n)
opening_for m n = record {
  energy = length-map (start_prices m) _ ∙ start_length m;
  reserve =
      length-replicate (length (start_prices m)) (pos 0) ∙ start_length m;
}

stepped_for : (m : Market) (cost : ℤ) (k : ℕ) (r : Proposal) → IsFor m.periods (stepped_prices m cost k r)
stepped_for m cost k r =
    record { energy = length-map-range_with_len _ 0 m.periods; reserve = length-map-range_with_len _ 0 m.periods }

next_for : (m : Market) (cost : ℤ) (rows : List Proposal) → 0 < length rows → IsFor m.periods (next_prices m cost rows)
next_for m cost [] some = absurd (omega (arith, some))
next_for m cost (r ∷ rows) some =
    let last = slice_get-get_or (r ∷ rows) (length (r ∷ rows) - 1) r (omega arith) in
    subst (λ (o : Option Proposal). IsFor m.periods
    (option_map_or (stepped_prices m cost (age (r ∷ rows))) o no_prices)) (sym last)
    (stepped_for m cost (age (r ∷ rows)) (get_or (r ∷ rows) (length (r ∷ rows) - 1) r))

pub not_le_lt : (n m : ℕ) → nat_le n m ≡ false → m < n
not_le_lt n m h = grind (arith, nat_tests)

module _ (b : Setup) (p : Posts Answer) where
  prices_for : (n : ℕ) → IsFor b.market.periods (prices_at (rules_of b) p n)
  prices_for n = choose (nat_le n b.ahead) refl
    where
      choose : (t : Bool) → nat_le n b.ahead ≡ t →
          IsFor b.market.periods (cond t (opening_prices_of (start_prices b.market) n)
          (next_prices b.market b.cost (rows_to (rules_of b) p (n - b.ahead))))
      choose true is = opening_for b.market n
      choose false is =
          let past = not_le_lt n b.ahead is in
          next_for b.market b.cost (rows_to (rules_of b) p (n - b.ahead))
          (omega (arith, past, rows_length (rules_of b) p (n - b.ahead)))

  -- the prices of a proposal are over the horizon
  pub own_horizon : (n : ℕ) → length (prices_at (rules_of b) p n).energy ≡ b.market.periods
  own_horizon n = (prices_for n).energy

  pub own_reserve_horizon : (n : ℕ) → length (prices_at (rules_of b) p n).reserve ≡ b.market.periods
  own_reserve_horizon n = (prices_for n).reserve

-- ---- units

units_over : (m : Market) → IsMarket m → All (IsOver m.periods) (units m)
units_over m limits =
    let t = limits.thermal in let f = limits.flat in let d = limits.bids in
    let ts = map (λ (n : NamedThermalUnit). Thermal n.unit) m.thermal in
    let fs = map (λ (n : NamedRenewableUnit). Flat n.unit) m.flat in
    let bs = map (λ (n : NamedBidUnit). Bid n.unit) m.bids in
    All-append (IsOver m.periods) (ts ++ fs) bs
    (All-append (IsOver m.periods) ts fs
    (All-map (IsOver m.periods) (λ (n : NamedThermalUnit). Thermal n.unit) m.thermal (λ k n i. (t k n i).1))
    (All-map (IsOver m.periods) (λ (n : NamedRenewableUnit). Flat n.unit) m.flat
    (λ k n i. let r = f k n i in let e = r.0.lengths in (r.1, sym e ∙ r.1))))
    (All-map (IsOver m.periods) (λ (n : NamedBidUnit). Bid n.unit) m.bids (λ k n i. (d k n i).1))

pub unit_over : (m : Market) → IsMarket m → (u : ℕ) (x : AnyUnit) → slice_get (units m) u ≡ Some x → IsOver m.periods x
unit_over m limits u x is =
    subst (IsOver m.periods) (get_or_from_slice_get (units m) u x x is)
    (units_over m limits u x (slice_get_within (units m) u x is))

-- the board's own tasks are tasks over the horizon
pub own_task : (b : Setup) (p : Posts Answer) (n u : ℕ) (x : AnyUnit) → IsMarket b.market →
    slice_get (units b.market) u ≡ Some x → IsTask (prices_at (rules_of b) p n) x
own_task b p n u x limits is = record {
  reserve = own_reserve_horizon b p n ∙ sym (own_horizon b p n);
  over = subst (λ (k : ℕ). IsOver k x) (sym (own_horizon b p n)) (unit_over b.market limits u x is);
}

-- a feasible plan has a schedule for each unit
planned : {X Y : Type 0} (Q : X → Y → Type 0) (xs : List X) (ys : List Y) (k : ℕ) (x : X) → AllZip Q xs ys →
    slice_get xs k ≡ Some x → (y : Y) × Q x y
planned Q [] [] k x all is = (cc)
planned Q [] (y ∷ ys) k x all is = absurd all
planned Q (z ∷ xs) [] k x all is = absurd all
planned {X} Q (z ∷ xs) (y ∷ ys) zero x all is = let e : z ≡ x = (cc) in (y, subst (λ (w : X). Q w y) e all.0)
planned Q (z ∷ xs) (y ∷ ys) (suc k) x all is = planned Q xs ys k x all.1 is

pub plan_has_schedule : (m : Market) (plan : List Schedule) (u : ℕ) (x : AnyUnit) → IsFeasiblePlan m plan →
    slice_get (units m) u ≡ Some x → (s : Schedule) × IsFeasible x m.periods s
plan_has_schedule m plan u x h is = planned (λ v s. IsFeasible v m.periods s) (units m) plan u x h.feasible is

-- ---- posts of such tasks

-- a task of a unit of the case that nowhere differs from the board's own is the board's own
pub record IsOwn (b : Setup) (p : Posts Answer) (n u : ℕ) (ρ : PriceLists) (x : AnyUnit) : Type 0 where
  pub prices : prices_at (rules_of b) p n ≡ ρ
  pub unit : slice_get (units b.market) u ≡ Some x

pub same_is_own : (b : Setup) (p : Posts Answer) (n u : ℕ) (ρ : PriceLists) (x : AnyUnit) → IsMarket b.market →
    IsTask ρ x → u < unit_count b.market →
    differs_from b u ρ x (prices_at (rules_of b) p n) ≡ None → IsOwn b p n u ρ x
same_is_own b p n u ρ x limits task inside none =
    let π = prices_at (rules_of b) p n in
    let y = get_or (units b.market) u x in
    let is = slice_get-get_or (units b.market) u x (omega (arith, inside, units_length b.market)) in
    let own : own_numbers b u π ≡ task_numbers π y =
    ap (λ (o : Option AnyUnit). option_map_or (task_numbers π) o []) is in
    let none2 : difference (task_numbers π y) (task_numbers ρ x) ≡ None =
    subst (λ (xs : List ℤ). difference xs (task_numbers ρ x) ≡ None) own none in
    let same = same_task π ρ y x (own_task b p n u y limits is) task
    (no_first (task_numbers π y) (task_numbers ρ x) none2) in
    record { prices = same.0; unit = is ∙ ap (λ (z : AnyUnit). Some z) same.1 }

pub right_of : (b : Setup) (p : Posts Answer) (n u : ℕ) (ρ : PriceLists) (x : AnyUnit) (a : Answer) →
    IsOwn b p n u ρ x → Fits x ρ a.schedule → earnings x ρ a.schedule ≡ a.earned →
    IsRight Fits b.market u (prices_at (rules_of b) p n) a
right_of b p n u ρ x a own fit earned =
    subst (λ (π : PriceLists). IsRight Fits b.market u π a) (sym own.prices)
    (record { unit = x; is = own.unit; fit = fit; earned = earned })
