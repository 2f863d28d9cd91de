-- How many proposals are closed and how many are open, and the answers of those that are closed.
use Rattle.board_core.proofs.Common.{◌≡◌, ℕ, suc, ◌-◌, ◌<◌, ◌≤◌, Bool, true, false, cond, Option, Some, None, List}
use Rattle.board_core.proofs.Common.{length, map, get_or, sym, ap, ◌∙◌, subst, arith, length-map, length-take-le}
use Rattle.board_core.proofs.Common.{length-map-range_with_len, option_map_or, slice_index, Setup, Answer, no_answer}
use Rattle.board_core.proofs.Common.{rules_of, RoundLaws, Rules, Event, Posts, posts, is_closed, answer_at, row_by}
use Rattle.board_core.proofs.Common.{closed_front, rows_of, opened, prices_at, PriceLists, unit_count, Proposal}
use Rattle.board_core.proofs.Common.{task_number, LedgerValue, Lists, fronts_of, IsLedger, AreRounds, IsBoard}
use Rattle.board_core.proofs.Lists.{place_before}

-- the answer of a mark
marked : (t : Bool) (c : ℕ) (a : Answer) (x : ℕ × Answer) →
    cond {A = Option (ℕ × Answer)} t (Some (c, a)) None ≡ Some x → a ≡ x.1
marked true c a x e = (cc)
marked false c a x e = (cc)

module _ (b : Setup) (l : LedgerValue) (L : IsLedger b l) where
  pub rows_count : length (fronts_of l).rows ≡ l.closed
  rows_count = let n = L.count in let m = L.closed in length-take-le l.closed l.proposals (omega (arith, n, m))

  pub prices_count : length (fronts_of l).prices ≡ l.opened
  prices_count =
      let n = L.count in let m = L.opened in
      length-take-le l.opened (map (λ (r : Proposal). r.prices) l.proposals)
      (omega (arith, n, m, length-map l.proposals (λ (r : Proposal). r.prices)))

  module _ (p : Posts Answer) (R : AreRounds b (fronts_of l) p) where
    pub closed_is : RoundLaws b → l.closed ≡ closed_front (rules_of b) p
    closed_is laws = sym rows_count ∙ ap (λ (xs : List Proposal). length xs) R.rows_are ∙
        (laws.rows (row_by (rules_of b) p)).count (closed_front (rules_of b) p)

    pub opened_is : l.opened ≡ opened (rules_of b) p
    opened_is = sym prices_count ∙ ap (λ (xs : List PriceLists). length xs) R.prices_are ∙
        length-map-range_with_len (prices_at (rules_of b) p) 1 (opened (rules_of b) p)

module _ (b : Setup) (h : List (Event Answer)) (x : Lists) (l : LedgerValue) (I : IsBoard b h x l) where
  abbrev g : Rules PriceLists Proposal Answer
  g = rules_of b

  pub rows_few : length (fronts_of l).rows ≤ 10000
  rows_few = let n = rows_count b l I.ledger in let m = I.ledger.closed in let k = I.setup.budget in
      omega (arith, n, m, k)

  module _ (laws : RoundLaws b) (n u : ℕ) (one : 1 ≤ n) (within : n ≤ length (rows_of g (posts h)))
      (inside : u < unit_count b.market) where
    low : n ≤ closed_front g (posts h)
    low = let e = (laws.rows (row_by g (posts h))).count (closed_front g (posts h)) in omega (arith, within, e)

    in_budget : n ≤ b.budget
    in_budget = let e = closed_is b l I.ledger (posts h) I.rounds laws in let m = I.ledger.closed in
        omega (arith, low, e, m)

    pub kept_inside : task_number (unit_count b.market) n u < length x.kept
    kept_inside = let p = place_before (unit_count b.market) b.budget n u one in_budget inside in
        let c = I.marks_are.kept_count in omega (arith, p, c)

    pub kept_is : get_or x.kept (task_number (unit_count b.market) n u) no_answer ≡ answer_at g (posts h) n u
    kept_is =
        let k = n - 1 in
        let e : suc k ≡ n = omega (arith, one) in
        let closed = subst (λ (j : ℕ). is_closed g (posts h) j ≡ true) e
        ((laws.front (posts h)).closed k (omega (arith, low, one))) in
        let post = laws.posted (posts h) n u closed inside in
        let i = task_number (unit_count b.market) n u in
        let m = sym (I.marks_are.each n u one in_budget inside) ∙ post.1 in
        marked (get_or x.marks i false) (slice_index x.takers i) (get_or x.kept i no_answer) post.0 m
        ∙ sym (ap (λ (o : Option (ℕ × Answer)). option_map_or (λ (y : ℕ × Answer). y.1) o no_answer) post.1)
