-- The rounds of a board with one more post.
use Rattle.board_core.proofs.Common.{◌≡◌, ℕ, suc, ◌+◌, ◌-◌, ◌<◌, ◌≤◌, ℤ, ◌-ℤ◌, Bool, true, false, cond, ◌==◌, inl, inr}
use Rattle.board_core.proofs.Common.{List, [], ◌∷◌, ◌++◌, length, map, take, get_or, refl, sym, ap, ◌∙◌, subst, arith}
use Rattle.board_core.proofs.Common.{set, get_or-take, length-take-le, list_any-append, All, list_any, range_with_len}
use Rattle.board_core.proofs.Common.{slice_index, Setup, Answer, IsRight, IsLegalHistory, rules_of, earned_in, Extends}
use Rattle.board_core.proofs.Common.{RoundLaws, BoardLaws, IsSum, Rules, Event, Taken, Closing, Posts, posts, holders}
use Rattle.board_core.proofs.Common.{with_post, is_closed, answers, row_by, rows_by, rows_to, prices_by, prices_at}
use Rattle.board_core.proofs.Common.{closed_front, rows_of, opened, opened_in, is_halt, is_halt_of, IsPost, IsNext}
use Rattle.board_core.proofs.Common.{post_event, IsRowBelow, PriceLists, unit_count, Proposal, Fits, int_at, total}
use Rattle.board_core.proofs.Common.{worth_of_demand, task_number, LedgerValue, Lists, supply_to, reserve_to, sums_of}
use Rattle.board_core.proofs.Common.{fronts_of, AreTakers, AreMarks, AreTallies, AreRounds, AreHalts, IsLedger, IsBoard}
use Rattle.board_core.proofs.Common.{Sums, Fronts, is_full, row_in, IsRound, IsSetup}
use Rattle.board_core.proofs.Claims.{some_units}
use Rattle.board_core.proofs.Fronts.{opened_is, rows_count}
use Rattle.board_core.proofs.Halts.{or_false}
use Rattle.board_core.proofs.Lists.{map_range_same}
use Rattle.board_core.proofs.PostLists.{IsHeldTask, closed_counts, marks_more}
use Rattle.board_core.proofs.Rows.{same_proposal}

module _ (b : Setup) (laws : RoundLaws b) (counts : List ℕ) (s : Sums) (q : Posts Answer)
    (T : AreTallies b counts s q) where
  abbrev g : Rules PriceLists Proposal Answer
  g = rules_of b

  abbrev m : ℕ
  m = unit_count b.market

  abbrev make : PriceLists → ℕ → Proposal
  make = row_in b.market s

  pub full_is_closed : (k : ℕ) → k < b.budget → is_full m counts (suc k) ≡ is_closed g q (suc k)
  full_is_closed k h =
      let e : suc k - 1 ≡ k = omega arith in
      ap (λ (j : ℕ). slice_index counts j == m) e ∙ ap (λ (x : ℕ). x == m) (T.counts_are k h) ∙
      sym (closed_counts b q (suc k))

  made_alike : (k : ℕ) (π : PriceLists) → k < b.budget → row_by g q π (suc k) ≡ make π (suc k)
  made_alike k π h =
      let e : suc k - 1 ≡ k = omega arith in
      same_proposal π π (worth_of_demand b.market π -ℤ total (earned_in (answers g q (suc k))))
      (worth_of_demand b.market π -ℤ int_at s.earned (suc k - 1))
      (supply_to b q (suc k)) (get_or s.supply (suc k - 1) []) (reserve_to b q (suc k))
      (get_or s.reserve (suc k - 1) []) refl
      (ap (λ (z : ℤ). worth_of_demand b.market π -ℤ z) (sym (T.earned_are k h) ∙ ap (int_at s.earned) (sym e)))
      (sym (T.supply_are k h) ∙ ap (λ (j : ℕ). get_or s.supply j []) (sym e))
      (sym (T.reserve_are k h) ∙ ap (λ (j : ℕ). get_or s.reserve j []) (sym e))

  rows_alike : (n : ℕ) → n ≤ b.budget → rows_to g q n ≡ rows_by g make n
  rows_alike n h = (laws.rows (row_by g q)).same make n (λ k π i. made_alike k π (omega (arith, i, h)))

  prices_alike : (n : ℕ) → n ≤ b.budget → prices_at g q n ≡ prices_by g make n
  prices_alike n h = ap (λ (xs : List Proposal). g.price xs n) (rows_alike (n - b.ahead) (omega (arith, h)))

  -- rounds of fewer posts, seen with these tallies
  pub rounds_in : (p : Posts Answer) (f : Fronts) → Extends p q → AreRounds b f p → IsRound b m counts s f
  rounds_in p f more R =
      let cf = closed_front g p in
      let front = laws.front p in
      let stays = laws.stays p q more in
      let le = front.within in
      let low = front.free in
      let long : length f.rows ≡ cf = ap (λ (xs : List Proposal). length xs) R.rows_are ∙
      (laws.rows (row_by g p)).count cf in
      record {
        within = omega (arith, long, le);
        full = λ k h. full_is_closed k (omega (arith, h, long, le)) ∙
            stays.closed (suc k) (front.closed k (omega (arith, h, long)));
        rows_are = R.rows_are ∙ sym (stays.rows cf (omega arith)) ∙ rows_alike cf le ∙ ap (rows_by g make) (sym long);
        prices_are = R.prices_are
            ∙ map_range_same (prices_at g p) (prices_by g make) 1 (opened g p) (λ k low high.
            ap (λ (xs : List Proposal). g.price xs k) (sym (stays.rows (k - b.ahead) (omega (arith, high, low))) ∙
            rows_alike (k - b.ahead) (omega (arith, high, low, le))))
            ∙ ap (λ (xs : List Proposal). map (prices_by g make) (range_with_len 1 (opened_in g xs))) (sym R.rows_are);
      }

  -- rounds up to the first proposal that isn't closed are all
  pub rounds_out : (f : Fronts) → IsRound b m counts s f →
      (length f.rows < b.budget → is_full m counts (suc (length f.rows)) ≡ false) → AreRounds b f q
  rounds_out f R stop =
      let n = length f.rows in
      let le = R.within in
      let whole : n ≡ closed_front g q = (laws.front q).is n le
      (λ k h. sym (full_is_closed k (omega (arith, h, le))) ∙ R.full k h)
      (λ h. sym (full_is_closed n h) ∙ stop h) in
      let all : f.rows ≡ rows_of g q = R.rows_are ∙ sym (rows_alike n le) ∙ ap (rows_to g q) whole in
      record {
        rows_are = all;
        prices_are = R.prices_are
            ∙ sym (map_range_same (prices_at g q) (prices_by g make) 1 (opened_in g f.rows)
            (λ k low high. prices_alike k (omega (arith, high))))
            ∙ ap (λ (xs : List Proposal). map (prices_at g q) (range_with_len 1 (opened_in g xs))) all;
      }

  -- the rows of proposals from 1 on that are full
  pub full_rows : (n : ℕ) → n ≤ b.budget → ((k : ℕ) → k < n → is_full m counts (suc k) ≡ true) →
      (n ≤ closed_front g q) × (rows_by g make n ≡ take n (rows_of g q))
  full_rows n le full =
      let most = (laws.front q).most n le (λ k h. sym (full_is_closed k (omega (arith, h, le))) ∙ full k h) in
      (most, sym (rows_alike n le) ∙ sym ((laws.rows (row_by g q)).front (closed_front g q) n most))

-- ---- what a legal history says of its rows and sums

module _ (laws : BoardLaws) (b : Setup) (h : List (Event Answer)) (S : IsSetup b) (legal : IsLegalHistory b h)
    (counts : List ℕ) (s : Sums) (T : AreTallies b counts s (posts h)) where
  pub sums_small : (k : ℕ) → k < b.budget → IsSum (int_at s.earned k)
  sums_small k lt = subst IsSum (sym (T.earned_are k lt)) (laws.totals_are_within b h S.market legal (suc k)).earned

  row_below : (k : ℕ) (d : Proposal) → k < length (rows_of (rules_of b) (posts h)) →
      IsRowBelow b.market b.cost (get_or (rows_of (rules_of b) (posts h)) k d)
  row_below k d lt =
      let r = laws.rows_are_within b h S.market S.some_ahead legal k d lt in
      record {
        row = record { horizon = r.horizon; supply = r.supply; reserve = r.reserve };
        value = r.value;
        at_most = laws.rows_are_at_most_cost b h S.market S.some_ahead legal S.feasible S.cost k d lt;
      }

  pub rows_below : (n : ℕ) → n ≤ b.budget → ((k : ℕ) → k < n → is_full (unit_count b.market) counts (suc k) ≡ true) →
      All (IsRowBelow b.market b.cost) (rows_by (rules_of b) (row_in b.market s) n)
  rows_below n le full =
      let g2 = rules_of b in
      let xs = rows_of g2 (posts h) in
      let both = full_rows b (laws.of b) counts s (posts h) T n le full in
      let low = both.0 in
      let long = ((laws.of b).rows (row_by g2 (posts h))).count (closed_front g2 (posts h)) in
      subst (λ (ys : List Proposal). All (IsRowBelow b.market b.cost) ys) (sym both.1) (λ k d lt.
      let size = length-take-le n xs (omega (arith, low, long)) in
      subst (IsRowBelow b.market b.cost) (sym (get_or-take n xs k d (omega (arith, lt, size))))
      (row_below k d (omega (arith, lt, size, low, long))))

-- ---- one more post

module _ (laws : BoardLaws) (b : Setup) (h : List (Event Answer)) (x : Lists) (l : LedgerValue) (I : IsBoard b h x l)
    (c n u : ℕ) (a : Answer) (H : IsHeldTask b h l c n u) (caller : c < b.callers)
    (right : IsRight Fits b.market u (prices_at (rules_of b) (posts h) n) a) where
  abbrev gg : Rules PriceLists Proposal Answer
  gg = rules_of b

  abbrev p : Posts Answer
  p = posts h

  abbrev q : Posts Answer
  q = with_post p c n u a

  abbrev event : Event Answer
  event = post_event gg p c n u a

  abbrev h2 : List (Event Answer)
  h2 = h ++ event ∷ []

  is_post : IsPost gg (IsRight Fits b.market) p (holders h) c n u a
  is_post = record {
    from_one = H.one;
    open_ = let w = H.within in let e = opened_is b l I.ledger p I.rounds in omega (arith, w, e);
    unit = H.inside;
    held_by = H.held;
    first = H.none_yet;
    fit = right;
  }

  next_is : IsNext gg (IsRight Fits b.market) h event
  next_is = choose (is_closed gg q n) refl
    where
      choose : (t : Bool) → is_closed gg q n ≡ t →
          IsNext gg (IsRight Fits b.market) h (cond t (Closing c n u a) (Taken c n u a))
      choose true e = (caller, is_post, e)
      choose false e = (caller, is_post, e)

  pub legal_post : IsLegalHistory b h2
  legal_post = laws.next_is_legal b h event I.legal next_is

  pub posts_are : posts h2 ≡ q
  posts_are = choose (is_closed gg q n)
    where
      choose : (t : Bool) → posts (h ++ cond t (Closing c n u a) (Taken c n u a) ∷ []) ≡ q
      choose true = (laws.one_event h (Closing c n u a)).posts_are
      choose false = (laws.one_event h (Taken c n u a)).posts_are

  holders_are : holders h2 ≡ holders h
  holders_are = choose (is_closed gg q n)
    where
      choose : (t : Bool) → holders (h ++ cond t (Closing c n u a) (Taken c n u a) ∷ []) ≡ holders h
      choose true = (laws.one_event h (Closing c n u a)).holders_are
      choose false = (laws.one_event h (Taken c n u a)).holders_are

  halts_are : AreHalts b x.halted x.any_halt h2
  halts_are = choose (is_closed gg q n)
    where
      choose : (t : Bool) → AreHalts b x.halted x.any_halt (h ++ cond t (Closing c n u a) (Taken c n u a) ∷ [])
      choose true = record {
        count = I.halts.count;
        each = λ d j. I.halts.each d j ∙
            sym (list_any-append (is_halt_of d) h (Closing c n u a ∷ []) ∙ or_false (list_any (is_halt_of d) h));
        some = I.halts.some ∙ sym (list_any-append is_halt h (Closing c n u a ∷ []) ∙ or_false (list_any is_halt h));
      }
      choose false = record {
        count = I.halts.count;
        each = λ d j. I.halts.each d j ∙
            sym (list_any-append (is_halt_of d) h (Taken c n u a ∷ []) ∙ or_false (list_any (is_halt_of d) h));
        some = I.halts.some ∙ sym (list_any-append is_halt h (Taken c n u a ∷ []) ∙ or_false (list_any is_halt h));
      }

  pub extends : Extends p q
  extends = (laws.one_post p c n u a).extends

  -- a proposal that is full was open
  pub full_was_open : (counts : List ℕ) (s : Sums) → AreTallies b counts s q → (k : ℕ) → k < b.budget →
      is_full (unit_count b.market) counts (suc k) ≡ true → k < l.opened
  full_was_open counts s T k i full =
      let closed : is_closed gg q (suc k) ≡ true = sym (full_is_closed b (laws.of b) counts s q T k i) ∙ full in
      let y = (laws.of b).posted q (suc k) 0 closed (some_units b I.setup) in
      let e = opened_is b l I.ledger p I.rounds in
      let within = H.within in
      elim ((laws.one_post p c n u a).cases (suc k) 0 y.0 y.1) [
        | inl was ↦ let o = (laws.answers_fit b h (suc k) 0 y.0 I.legal was).open_ in omega (arith, o, e)
        | inr new ↦ let z = new.0 in omega (arith, z, within)
      ]

  abbrev posted_lists : Lists
  posted_lists = record x {
    marks = set x.marks (task_number (unit_count b.market) n u) true;
    kept = set x.kept (task_number (unit_count b.market) n u) a;
    counts = set x.counts (n - 1) (get_or x.counts (n - 1) 0 + 1);
  }

  pub posted : (l3 : LedgerValue) → IsLedger b l3 → AreTallies b posted_lists.counts (sums_of l3) q →
      IsRound b (unit_count b.market) posted_lists.counts (sums_of l3) (fronts_of l3) →
      (l3.closed < b.budget → is_full (unit_count b.market) posted_lists.counts (suc l3.closed) ≡ false) →
      IsBoard b h2 posted_lists l3
  posted l3 L T R done =
      let e = rows_count b l3 L in
      let stop : length (fronts_of l3).rows < b.budget →
      is_full (unit_count b.market) posted_lists.counts (suc (length (fronts_of l3).rows)) ≡ false =
      λ i. subst (λ (k : ℕ). is_full (unit_count b.market) posted_lists.counts (suc k) ≡ false) (sym e)
      (done (omega (arith, i, e))) in
      record {
        setup = I.setup;
        legal = legal_post;
        takers_are = subst (AreTakers b x.takers) (sym holders_are) I.takers_are;
        marks_are = subst (AreMarks b posted_lists.marks x.takers posted_lists.kept) (sym posts_are)
            (marks_more b h x l I c n u a H);
        tallies = subst (AreTallies b posted_lists.counts (sums_of l3)) (sym posts_are) T;
        ledger = L;
        rounds = subst (AreRounds b (fronts_of l3)) (sym posts_are)
            (rounds_out b (laws.of b) posted_lists.counts (sums_of l3) q T (fronts_of l3) R stop);
        halts = halts_are;
      }
