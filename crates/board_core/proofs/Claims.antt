-- What a claim answers, and that the lists go on with it.
use Rattle.board_core.proofs.Common.{◌≡◌, ℕ, zero, suc, ◌+◌, ◌-◌, ◌*◌, ◌/◌, ◌%◌, ◌<◌, ◌≤◌, ◌⊎◌, Bool, true, false, cond}
use Rattle.board_core.proofs.Common.{◌&&◌, ◌==◌, inl, inr, Option, Some, None, List, [], ◌∷◌, ◌++◌, length, map, get_or}
use Rattle.board_core.proofs.Common.{refl, sym, ap, ◌∙◌, subst, arith, eq-eqb, length-append, le-leb, lt-leb, nat_tests}
use Rattle.board_core.proofs.Common.{get_or-map, get_or-take, get_or-map-range_with_len, list_any-append}
use Rattle.board_core.proofs.Common.{slice_get_past, slice_get-get_or, list_any, slice_get, slice_index_or, Setup}
use Rattle.board_core.proofs.Common.{Answer, no_answer, rules_of, BoardLaws, Rules, Event, Given, sooner, only_at}
use Rattle.board_core.proofs.Common.{posts, holders, closed_front, opened, is_finished, prices_at, is_halt, is_halt_of}
use Rattle.board_core.proofs.Common.{Holders, Finished, Halted, GivenTask, NotYet, claim_reply, PriceLists, unit_count}
use Rattle.board_core.proofs.Common.{Proposal, no_prices, task_number, LedgerValue, Lists, task_count, sums_of}
use Rattle.board_core.proofs.Common.{fronts_of, AreTakers, mark, AreMarks, AreTallies, AreRounds, IsBoard, IsSetup}
use Rattle.board_store.specs.Words.{IsHeld, IsGoing, ClaimSays}
use Rattle.board_core.proofs.Fronts.{closed_is, opened_is}
use Rattle.board_core.proofs.Halts.{or_false}
use Rattle.board_core.proofs.Lists.{place_before, place_same}

slice_get-snoc : {X : Type 0} (xs : List X) (x : X) (i : ℕ) →
    slice_get (xs ++ x ∷ []) i ≡ sooner (slice_get xs i) (cond (i == length xs) (Some x) None)
slice_get-snoc [] x zero = refl
slice_get-snoc {X} [] x (suc i) =
    let e : (suc i == 0) ≡ false = grind (arith, nat_tests) in
    ap (λ (b : Bool). cond {A = Option X} b (Some x) None) (sym e)
slice_get-snoc (y ∷ ys) x zero = refl
slice_get-snoc {X} (y ∷ ys) x (suc i) =
    let e : (i == length ys) ≡ (suc i == suc (length ys)) = grind (arith, nat_tests) in
    slice_get-snoc ys x i ∙ ap (λ (b : Bool). sooner (slice_get ys i) (cond b (Some x) None)) e

same_test : (units n u m v : ℕ) → 0 < n → 0 < m → u < units → v < units →
    (n == m && u == v) ≡ (task_number units m v == task_number units n u)
same_test units n u m v a b i j =
    elim (cases_same (task_number units m v) (task_number units n u)) [
      | inl e ↦
          let s = place_same units m v n u b a j i e in
          let s0 = s.0 in let s1 = s.1 in
          let l : (n == m && u == v) ≡ true = grind (arith, nat_tests) in
          l ∙ sym (eq-eqb (task_number units m v) (task_number units n u) e)
      | inr f ↦
          let l : (n == m && u == v) ≡ false =
          not_both n m u v (λ x y. f (ap (λ (k : ℕ). task_number units k v) (sym x) ∙
          ap (λ (k : ℕ). task_number units n k) (sym y))) in
          let r : (task_number units m v == task_number units n u) ≡ false = grind (arith, nat_tests, f) in
          l ∙ sym r
    ]
  where
    cases_same : (x y : ℕ) → (x ≡ y) ⊎ (x ≡ y → ⊥)
    cases_same x y = grind arith

    not_both : (n m u v : ℕ) → (n ≡ m → u ≡ v → ⊥) → (n == m && u == v) ≡ false
    not_both n m u v f = grind (arith, nat_tests, f)

pub some_units : (b : Setup) → IsSetup b → 1 ≤ unit_count b.market
some_units b S = let s = S.market.some_unit in omega (arith, s)

abbrev pub given_lists : Lists → ℕ → Lists
given_lists x c = record x { takers = x.takers ++ c ∷ [] }

module _ (b : Setup) (h : List (Event Answer)) (x : Lists) (l : LedgerValue) (I : IsBoard b h x l) where
  abbrev g : Rules PriceLists Proposal Answer
  g = rules_of b

  abbrev units : ℕ
  units = unit_count b.market

  o_is : l.opened ≡ opened g (posts h)
  o_is = opened_is b l I.ledger (posts h) I.rounds

  -- the prices of an open proposal
  pub price_is : (k : ℕ) (d : Proposal) → k < l.opened → (get_or l.proposals k d).prices ≡ prices_at g (posts h) (k + 1)
  price_is k d i =
      let n = I.ledger.count in let m = I.ledger.opened in
      let o = o_is in
      sym (get_or-map (λ (r : Proposal). r.prices) l.proposals k d no_prices (omega (arith, i, n, m)))
      ∙ sym (get_or-take l.opened (map (λ (r : Proposal). r.prices) l.proposals) k no_prices i)
      ∙ ap (λ (xs : List PriceLists). get_or xs k no_prices) I.rounds.prices_are
      ∙ get_or-map-range_with_len (prices_at g (posts h)) 1 (opened g (posts h)) k (k + 1) no_prices
      (omega (arith, i, o)) (omega arith)

  module _ (laws : BoardLaws) where
    c_is : l.closed ≡ closed_front g (posts h)
    c_is = closed_is b l I.ledger (posts h) I.rounds (laws.of b)

    says : ClaimSays g h
    says = laws.claims_mean b h

    pub claim_finished : l.opened ≤ l.closed → claim_reply g h ≡ Finished
    claim_finished i = let o = o_is in let c = c_is in
        says.finished.1 (le-leb (opened g (posts h)) (closed_front g (posts h)) (omega (arith, i, o, c)))

    not_finished : l.closed < l.opened → is_finished g (posts h) ≡ false
    not_finished i = let o = o_is in let c = c_is in
        lt-leb (opened g (posts h)) (closed_front g (posts h)) (omega (arith, i, o, c))

    pub claim_halted : l.closed < l.opened → x.any_halt ≡ true → claim_reply g h ≡ Halted
    claim_halted i halt = says.halted.1 (not_finished i, sym I.halts.some ∙ halt)

    going : l.closed < l.opened → x.any_halt ≡ false → IsGoing g h
    going i calm = (not_finished i, sym I.halts.some ∙ calm)

    abbrev count : ℕ
    count = length x.takers

    held_before : (m v k : ℕ) → 0 < m → m ≤ b.budget → v < units → m ≤ k → k * units ≤ count → IsHeld g (holders h) m v
    held_before m v k low high i within before =
        let p = place_before units k m v low within i in (
          get_or x.takers (task_number units m v) 0,
          I.takers_are.each m v low high i ∙
              slice_get-get_or x.takers (task_number units m v) 0 (omega (arith, p, before)),
        )

    abbrev before : ℕ
    before = count / units

    abbrev unit : ℕ
    unit = count % units

    split : before * units + unit ≡ count
    split = let u = some_units b I.setup in omega (arith, u)

    pub unit_within : unit < units
    unit_within = let u = some_units b I.setup in omega (arith, u)

    number_is : task_number units (before + 1) unit ≡ count
    number_is =
        let e : before + 1 - 1 ≡ before = omega arith in
        ap (λ (k : ℕ). k * units + unit) e ∙ split

    in_budget : (m : ℕ) → m ≤ l.opened → m ≤ b.budget
    in_budget m h = let e = I.ledger.opened in omega (arith, h, e)

    pub claim_not_yet : l.closed < l.opened → x.any_halt ≡ false → l.opened ≤ before → claim_reply g h ≡ NotYet
    claim_not_yet i calm none =
        let o = o_is in
        let s = split in
        says.not_yet.1 (
          going i calm,
          λ m v t.
              let w = t.open_ in
              held_before m v before t.from_one (in_budget m (omega (arith, w, o))) t.unit (omega (arith, w, none, o))
              (omega (arith, s)),
        )

    module _ (more : before < l.opened) where
      task_free : holders h (before + 1) unit ≡ None
      task_free =
          I.takers_are.each (before + 1) unit (omega arith) (in_budget (before + 1) (omega (arith, more))) unit_within
          ∙ ap (λ (k : ℕ). slice_get x.takers k) number_is ∙ slice_get_past x.takers count (omega arith)

      here_held : (v : ℕ) → v < unit → IsHeld g (holders h) (before + 1) v
      here_held v j =
          let w = unit_within in
          let e : before + 1 - 1 ≡ before = omega arith in
          let q : task_number units (before + 1) v ≡ before * units + v = ap (λ (k : ℕ). k * units + v) e in
          let s = split in (
            get_or x.takers (task_number units (before + 1) v) 0,
            I.takers_are.each (before + 1) v (omega arith) (in_budget (before + 1) (omega (arith, more)))
                (omega (arith, w, j))
                ∙ slice_get-get_or x.takers (task_number units (before + 1) v) 0 (omega (arith, q, s, j)),
          )

      pub claim_given : l.closed < l.opened → x.any_halt ≡ false → claim_reply g h ≡ GivenTask (before + 1) unit
      claim_given i calm =
          let o = o_is in
          (says.given (before + 1) unit).1 (
            going i calm,
            record {
              task = record { from_one = omega arith; open_ = omega (arith, more, o); unit = unit_within };
              free = task_free;
              lower_proposals = λ k v low t. let s = split in
                  held_before k v before t.from_one (in_budget k (omega (arith, low, more))) t.unit (omega (arith, low))
                  (omega (arith, s));
              lower_units = here_held;
            },
          )

      -- ---- one more claim

      pub count_within : count < task_count b
      count_within =
          let p = place_before units b.budget (before + 1) unit (omega arith)
          (in_budget (before + 1) (omega (arith, more))) unit_within in
          let s = number_is in
          omega (arith, p, s)

      takers_more : (c : ℕ) → AreTakers b (x.takers ++ c ∷ []) (holders (h ++ Given c (before + 1) unit ∷ []))
      takers_more c = record {
        count = let w = count_within in omega (arith, w, length-append x.takers (c ∷ []));
        each = λ m v low high i.
            ap (λ (held : Holders). held m v) (laws.one_event h (Given c (before + 1) unit)).holders_are
            ∙ ap (λ (o : Option ℕ). sooner o (only_at (before + 1) unit c m v)) (I.takers_are.each m v low high i)
            ∙ ap (λ (t : Bool). sooner (slice_get x.takers (task_number units m v)) (cond t (Some c) None))
            (same_test units (before + 1) unit m v (omega arith) low unit_within i ∙
            ap (λ (k : ℕ). task_number units m v == k) number_is)
            ∙ sym (slice_get-snoc x.takers c (task_number units m v));
      }

      get_or-longer : (xs : List ℕ) (y i : ℕ) → i < length xs → get_or (xs ++ y ∷ []) i 0 ≡ get_or xs i 0
      get_or-longer [] y i j = absurd (omega (arith, j))
      get_or-longer (z ∷ zs) y zero j = refl
      get_or-longer (z ∷ zs) y (suc i) j = get_or-longer zs y i (omega (arith, j))

      mark_more : (c i : ℕ) → mark x.marks (x.takers ++ c ∷ []) x.kept i ≡ mark x.marks x.takers x.kept i
      mark_more c i = choose (slice_index_or x.marks i false)
          (λ e. get_or-longer x.takers c i (I.marks_are.claimed i e))
        where
          choose : (t : Bool) → (t ≡ true → get_or (x.takers ++ c ∷ []) i 0 ≡ get_or x.takers i 0) →
              cond {A = Option (ℕ × Answer)} t (Some (get_or (x.takers ++ c ∷ []) i 0, get_or x.kept i no_answer))
              None ≡ cond {A = Option (ℕ × Answer)} t (Some (get_or x.takers i 0, get_or x.kept i no_answer)) None
          choose true f = ap (λ (k : ℕ). Some (k, get_or x.kept i no_answer)) (f refl)
          choose false f = refl

      marks_more : (c : ℕ) → AreMarks b x.marks (x.takers ++ c ∷ []) x.kept (posts h)
      marks_more c = record {
        marks_count = I.marks_are.marks_count;
        kept_count = I.marks_are.kept_count;
        each = λ n u low high i. I.marks_are.each n u low high i ∙ sym (mark_more c (task_number units n u));
        claimed = λ i e. let j = I.marks_are.claimed i e in omega (arith, j, length-append x.takers (c ∷ []));
      }

      pub claimed : (c : ℕ) → c < b.callers → l.closed < l.opened → x.any_halt ≡ false →
          IsBoard b (h ++ Given c (before + 1) unit ∷ []) (given_lists x c) l
      claimed c caller i calm =
          let e = Given c (before + 1) unit in
          let same = sym (laws.one_event h e).posts_are in
          record {
            setup = I.setup;
            legal = laws.next_is_legal b h e I.legal (caller, claim_given i calm);
            takers_are = takers_more c;
            marks_are = subst (AreMarks b x.marks (x.takers ++ c ∷ []) x.kept) same (marks_more c);
            tallies = subst (AreTallies b x.counts (sums_of l)) same I.tallies;
            ledger = I.ledger;
            rounds = subst (AreRounds b (fronts_of l)) same I.rounds;
            halts = record {
              count = I.halts.count;
              each = λ d j. I.halts.each d j ∙
                  sym (list_any-append (is_halt_of d) h (e ∷ []) ∙ or_false (list_any (is_halt_of d) h));
              some = I.halts.some ∙ sym (list_any-append is_halt h (e ∷ []) ∙ or_false (list_any is_halt h));
            };
          }
