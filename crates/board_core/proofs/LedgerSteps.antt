-- What closing and opening a proposal leaves of a ledger.
use Rattle.board_core.proofs.Common.{◌≡◌, ℕ, suc, ◌+◌, ◌-◌, ◌<◌, ◌≤◌, ◌⊎◌, ℤ, ◌-ℤ◌, Bool, true, false, ◌&&◌, inl, inr}
use Rattle.board_core.proofs.Common.{List, [], ◌∷◌, ◌++◌, length, map, take, get_or, refl, sym, ap, ◌∙◌, subst, arith}
use Rattle.board_core.proofs.Common.{set, length-set, length-map, get_or-map, map-set, set-get_or, get_or-set_same}
use Rattle.board_core.proofs.Common.{get_or-set_other, get_or-take, take-set-le, take_more_set, nat_tests, All, not}
use Rattle.board_core.proofs.Common.{Setup, is_last_settled, PriceLists, Proposal, next_prices, no_prices, int_at}
use Rattle.board_core.proofs.Common.{worth_of_demand, LedgerValue, with_prices, with_value, sums_of, fronts_of}
use Rattle.board_core.proofs.Common.{IsLedger, Sums, Fronts, row_in, with_row, is_due, opens, with_opened}
use Rattle.board_core.proofs.Advances.{choose_true, choose_false}
use Rattle.board_core.proofs.Fronts.{rows_count, prices_count}
use Rattle.board_core.proofs.Rows.{same_proposal}

same_or : (x y : ℕ) → (x ≡ y) ⊎ (x ≡ y → ⊥)
same_or x y = grind arith

pub map_unchanged : {Y : Type 0} (f : Proposal → Y) (xs : List Proposal) (i : ℕ) (r d : Proposal) → i < length xs →
    f r ≡ f (get_or xs i d) → map f (set xs i r) ≡ map f xs
map_unchanged {Y} f xs i r d lt e =
    map-set f xs i r ∙ ap (λ (y : Y). set (map f xs) i y) (e ∙ sym (get_or-map f xs i d (f d) lt)) ∙
    set-get_or (map f xs) i (f d)

all_set : (P : Proposal → Type 0) (xs : List Proposal) (i : ℕ) (r : Proposal) → All P xs → P r → All P (set xs i r)
all_set P xs i r h p k d lt = elim (same_or k i) [
  | inl e ↦ subst (λ (j : ℕ). P (get_or (set xs i r) j d)) (sym e)
      (subst P (sym (get_or-set_same xs i r d (let l = length-set xs i r in omega (arith, lt, l, e)))) p)
  | inr f ↦ subst P (sym (get_or-set_other xs i k r d f)) (h k d (let l = length-set xs i r in omega (arith, lt, l)))
]

pub same_sums : (e e2 : List ℤ) (s s2 r r2 : List (List ℤ)) → e2 ≡ e → s2 ≡ s → r2 ≡ r →
    (let x : Sums = record { earned = e2; supply = s2; reserve = r2 } in
    let y : Sums = record { earned = e; supply = s; reserve = r } in x ≡ y)
same_sums e e2 s s2 r r2 f g h =
    ap (λ (z : List ℤ). let x : Sums = record { earned = z; supply = s2; reserve = r2 } in x) f
    ∙ ap (λ (z : List (List ℤ)). let x : Sums = record { earned = e; supply = z; reserve = r2 } in x) g
    ∙ ap (λ (z : List (List ℤ)). let x : Sums = record { earned = e; supply = s; reserve = z } in x) h

pub same_fronts : (a c : List Proposal) (x y : List PriceLists) → a ≡ c → x ≡ y →
    (let p : Fronts = record { rows = a; prices = x } in let q : Fronts = record { rows = c; prices = y } in p ≡ q)
same_fronts a c x y e f =
    ap (λ (z : List Proposal). let p : Fronts = record { rows = z; prices = x } in p) e
    ∙ ap (λ (z : List PriceLists). let p : Fronts = record { rows = c; prices = z } in p) f

-- a ledger in which one proposal was written
pub record IsWritten (l l2 : LedgerValue) (i : ℕ) (r : Proposal) : Type 0 where
  pub proposals : l2.proposals ≡ set l.proposals i r
  pub earned : l2.earned ≡ l.earned

module _ (b : Setup) (l l2 : LedgerValue) (L : IsLedger b l) (i : ℕ) (r d : Proposal) (lt : i < length l.proposals)
    (W : IsWritten l l2 i r) where
  abbrev old : Proposal
  old = get_or l.proposals i d

  pub mapped : {Y : Type 0} (f : Proposal → Y) → f r ≡ f old → map f l2.proposals ≡ map f l.proposals
  mapped f e = ap (map f) W.proposals ∙ map_unchanged f l.proposals i r d lt e

  pub sums_same : r.supply ≡ old.supply → r.reserve ≡ old.reserve → sums_of l2 ≡ sums_of l
  sums_same e f =
      same_sums l.earned l2.earned (sums_of l).supply (sums_of l2).supply (sums_of l).reserve (sums_of l2).reserve
      W.earned
      (mapped (λ (p : Proposal). p.supply) e) (mapped (λ (p : Proposal). p.reserve) f)

  pub is_ledger : length r.prices.energy ≡ b.market.periods → l2.closed ≤ b.budget → l2.opened ≤ b.budget →
      IsLedger b l2
  is_ledger over closed opened = record {
    count = ap (λ (xs : List Proposal). length xs) W.proposals ∙ length-set l.proposals i r ∙ L.count;
    closed = closed;
    opened = opened;
    horizon = subst (λ (xs : List Proposal). All (λ (p : Proposal). length p.prices.energy ≡ b.market.periods) xs)
        (sym W.proposals)
        (all_set (λ (p : Proposal). length p.prices.energy ≡ b.market.periods) l.proposals i r L.horizon over);
  }

module _ (b : Setup) (l l2 : LedgerValue) (L : IsLedger b l) (v : ℤ) (d : Proposal) (more : l.closed < l.opened) where
  at_ : l.closed < length l.proposals
  at_ = let n = L.count in let m = L.opened in omega (arith, n, m, more)

  abbrev was : Proposal
  was = get_or l.proposals l.closed d

  module _ (W : IsWritten l l2 l.closed (with_value was v)) (closed : l2.closed ≡ l.closed + 1)
      (opened : l2.opened ≡ l.opened) (is : v ≡ worth_of_demand b.market was.prices -ℤ int_at l.earned l.closed) where
    abbrev s : Sums
    s = sums_of l

    abbrev f : Fronts
    f = fronts_of l

    price_was : get_or f.prices l.closed no_prices ≡ was.prices
    price_was =
        get_or-take l.opened (map (λ (p : Proposal). p.prices) l.proposals) l.closed no_prices more
        ∙ get_or-map (λ (p : Proposal). p.prices) l.proposals l.closed d no_prices at_

    row_is : with_value was v ≡ row_in b.market s (get_or f.prices l.closed no_prices) (suc l.closed)
    row_is =
        let e : suc l.closed - 1 ≡ l.closed = omega arith in
        same_proposal was.prices (get_or f.prices l.closed no_prices) v
        (worth_of_demand b.market (get_or f.prices l.closed no_prices) -ℤ int_at l.earned (suc l.closed - 1))
        was.supply (get_or s.supply (suc l.closed - 1) []) was.reserve (get_or s.reserve (suc l.closed - 1) [])
        (sym price_was)
        (is ∙ ap (λ (π : PriceLists). worth_of_demand b.market π -ℤ int_at l.earned l.closed) (sym price_was)
        ∙ ap (λ (k : ℕ). worth_of_demand b.market (get_or f.prices l.closed no_prices) -ℤ int_at l.earned k) (sym e))
        (sym (get_or-map (λ (p : Proposal). p.supply) l.proposals l.closed d [] at_) ∙
        ap (λ (k : ℕ). get_or s.supply k []) (sym e))
        (sym (get_or-map (λ (p : Proposal). p.reserve) l.proposals l.closed d [] at_) ∙
        ap (λ (k : ℕ). get_or s.reserve k []) (sym e))

    rows_are : (fronts_of l2).rows ≡ with_row b.market s f
    rows_are =
        ap (λ (k : ℕ). take k l2.proposals) closed
        ∙ ap (take (l.closed + 1)) W.proposals
        ∙ take_more_set l.proposals l.closed (with_value was v) at_
        ∙ ap (λ (r : Proposal). f.rows ++ r ∷ []) row_is
        ∙ ap (λ (k : ℕ). f.rows ++ row_in b.market s (get_or f.prices k no_prices) (suc k) ∷ [])
        (sym (rows_count b l L))

    prices_are : (fronts_of l2).prices ≡ f.prices
    prices_are =
        ap (λ (k : ℕ). take k (map (λ (p : Proposal). p.prices) l2.proposals)) opened
        ∙ ap (take l.opened) (mapped b l l2 L l.closed (with_value was v) d at_ W (λ (p : Proposal). p.prices) refl)

    pub closed_fronts : fronts_of l2 ≡ record { rows = with_row b.market s f; prices = f.prices }
    closed_fronts = same_fronts (fronts_of l2).rows (with_row b.market s f) (fronts_of l2).prices f.prices rows_are
        prices_are

    pub closed_sums : sums_of l2 ≡ s
    closed_sums = sums_same b l l2 L l.closed (with_value was v) d at_ W refl refl

    pub closed_ledger : IsLedger b l2
    closed_ledger =
        let n = L.opened in
        is_ledger b l l2 L l.closed (with_value was v) d at_ W (L.horizon l.closed d at_)
        (omega (arith, closed, more, n)) (omega (arith, opened, n))

module _ (b : Setup) (l l2 : LedgerValue) (L : IsLedger b l) (π : PriceLists) (d : Proposal)
    (room : l.opened < b.budget) (before : l.closed ≤ l.opened) where
  place_ : l.opened < length l.proposals
  place_ = let n = L.count in omega (arith, n, room)

  abbrev was2 : Proposal
  was2 = get_or l.proposals l.opened d

  module _ (W : IsWritten l l2 l.opened (with_prices was2 π)) (closed : l2.closed ≡ l.closed)
      (opened : l2.opened ≡ l.opened + 1) (over : length π.energy ≡ b.market.periods) where
    pub opened_fronts : fronts_of l2 ≡ record { rows = (fronts_of l).rows; prices = (fronts_of l).prices ++ π ∷ [] }
    opened_fronts =
        same_fronts (fronts_of l2).rows (fronts_of l).rows (fronts_of l2).prices ((fronts_of l).prices ++ π ∷ [])
        (ap (λ (k : ℕ). take k l2.proposals) closed ∙ ap (take l.closed) W.proposals ∙
        take-set-le l.closed l.proposals l.opened (with_prices was2 π) before)
        (ap (λ (k : ℕ). take k (map (λ (p : Proposal). p.prices) l2.proposals)) opened
        ∙ ap (λ (xs : List Proposal). take (l.opened + 1) (map (λ (p : Proposal). p.prices) xs)) W.proposals
        ∙ ap (take (l.opened + 1)) (map-set (λ (p : Proposal). p.prices) l.proposals l.opened (with_prices was2 π))
        ∙ take_more_set (map (λ (p : Proposal). p.prices) l.proposals) l.opened π
        (omega (arith, place_, length-map l.proposals (λ (p : Proposal). p.prices))))

    pub opened_sums : sums_of l2 ≡ sums_of l
    opened_sums = sums_same b l l2 L l.opened (with_prices was2 π) d place_ W refl refl

    pub opened_ledger : IsLedger b l2
    opened_ledger = let n = L.closed in is_ledger b l l2 L l.opened (with_prices was2 π) d place_ W over
        (omega (arith, closed, n)) (omega (arith, opened, room))

pub due_says : (b : Setup) (closed opened : ℕ) → is_due b closed opened ≡ true →
    (opened + 1 ≡ closed + b.ahead) × (opened < b.budget)
due_says b closed opened h = grind (arith, nat_tests)

-- whether one more proposal opens, by whether one is due
opens_where_due : (b : Setup) (l : LedgerValue) (L : IsLedger b l) (due : Bool) → is_due b l.closed l.opened ≡ due →
    opens b (fronts_of l) ≡ (due && not (is_last_settled b.market b.cost (fronts_of l).rows))
opens_where_due b l L due h =
    ap (λ (k : ℕ). is_due b k (length (fronts_of l).prices) && not (is_last_settled b.market b.cost (fronts_of l).rows))
    (rows_count b l L)
    ∙ ap (λ (k : ℕ). is_due b l.closed k && not (is_last_settled b.market b.cost (fronts_of l).rows))
    (prices_count b l L)
    ∙ ap (λ (t : Bool). t && not (is_last_settled b.market b.cost (fronts_of l).rows)) h

-- the rows call for one more proposal
pub opens_it : (b : Setup) (l : LedgerValue) (L : IsLedger b l) → is_due b l.closed l.opened ≡ true →
    not (is_last_settled b.market b.cost (fronts_of l).rows) ≡ true → opens b (fronts_of l) ≡ true
opens_it b l L due free = opens_where_due b l L true due ∙ free

-- none is due
pub is_early : (b : Setup) (l : LedgerValue) (L : IsLedger b l) → is_due b l.closed l.opened ≡ false →
    opens b (fronts_of l) ≡ false
is_early b l L due = opens_where_due b l L false due

-- or the last row is settled
pub is_over : (b : Setup) (l : LedgerValue) (L : IsLedger b l) → is_due b l.closed l.opened ≡ true →
    not (is_last_settled b.market b.cost (fronts_of l).rows) ≡ false → opens b (fronts_of l) ≡ false
is_over b l L due settled = opens_where_due b l L true due ∙ settled

pub with_one : (b : Setup) (f : Fronts) (π : PriceLists) → opens b f ≡ true → π ≡ next_prices b.market b.cost f.rows →
    record { rows = f.rows; prices = f.prices ++ π ∷ [] } ≡ with_opened b f
with_one b f π t e =
    same_fronts f.rows f.rows (f.prices ++ π ∷ []) (with_opened b f).prices refl
    (ap (λ (x : PriceLists). f.prices ++ x ∷ []) e ∙
    sym (choose_true (opens b f) (f.prices ++ next_prices b.market b.cost f.rows ∷ []) f.prices t))

pub with_none : (b : Setup) (f : Fronts) → opens b f ≡ false → f ≡ with_opened b f
with_none b f t = same_fronts f.rows f.rows f.prices (with_opened b f).prices refl
    (sym (choose_false (opens b f) (f.prices ++ next_prices b.market b.cost f.rows ∷ []) f.prices t))
