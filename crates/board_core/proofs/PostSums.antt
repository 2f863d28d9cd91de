-- The totals of a ledger with one more answer.
use Rattle.board_core.proofs.Common.{◌≡◌, ℕ, suc, ◌+◌, ◌-◌, ◌<◌, ◌≤◌, ℤ, pos, ◌+ℤ◌, inl, inr, Option, Some, None, List}
use Rattle.board_core.proofs.Common.{[], length, map, take, get_or, refl, sym, ap, ◌∙◌, subst, arith, set, length-set}
use Rattle.board_core.proofs.Common.{cases_lt, get_or-set_same, get_or-set_other, get_or-map, map-set, take-set-le}
use Rattle.board_core.proofs.Common.{length-map-range_with_len, get_or-map-range_with_len, All, range_with_len}
use Rattle.board_core.proofs.Common.{option_map_or, slice_get, Setup, Answer, no_answer, rules_of, schedules_in}
use Rattle.board_core.proofs.Common.{earned_in, RoundLaws, Rules, Event, Posts, posts, with_post, answer_at, answers}
use Rattle.board_core.proofs.Common.{AnyUnit, PriceLists, units, unit_count, supply_in, Proposal, reserve_in, int_at}
use Rattle.board_core.proofs.Common.{total, total_power, total_reserve, LedgerValue, raised_by, with_schedule, Lists}
use Rattle.board_core.proofs.Common.{supply_to, reserve_to, sums_of, fronts_of, AreTallies, IsLedger, IsBoard}
use Rattle.board_store.specs.Totals.{AddsOne}
use Rattle.board_core.proofs.Fronts.{closed_is}
use Rattle.board_core.proofs.LedgerSteps.{map_unchanged, same_fronts}
use Rattle.board_core.proofs.Lists.{map_range_same}
use Rattle.board_core.proofs.PostLists.{IsHeldTask, same_or, q_other, q_here, k_inside, after_k, counts_more}

raised_map : (f add f2 : ℕ → ℤ) (n : ℕ) → ((k : ℕ) → f2 k ≡ f k +ℤ add k) →
    raised_by (map f (range_with_len 0 n)) add ≡ map f2 (range_with_len 0 n)
raised_map f add f2 n h =
    let xs = map f (range_with_len 0 n) in
    ap (λ (m : ℕ). map (λ (k : ℕ). int_at xs k +ℤ add k) (range_with_len 0 m)) (length-map-range_with_len f 0 n)
    ∙ map_range_same (λ (k : ℕ). int_at xs k +ℤ add k) f2 0 n (λ k low high.
    ap (λ (z : ℤ). z +ℤ add k) (get_or-map-range_with_len f 0 n k k (pos 0) (omega (arith, high)) (omega arith)) ∙
    sym (h k))

-- a ledger into which an answer was counted
pub record IsCounted (l l2 : LedgerValue) (k : ℕ) (w : AnyUnit) (a : Answer) (d : Proposal) : Type 0 where
  pub proposals : l2.proposals ≡ set l.proposals k (with_schedule (get_or l.proposals k d) w a.schedule)
  pub earned : l2.earned ≡ set l.earned k (int_at l.earned k +ℤ a.earned)
  pub closed : l2.closed ≡ l.closed
  pub opened : l2.opened ≡ l.opened

module _ (b : Setup) (laws : RoundLaws b) (h : List (Event Answer)) (x : Lists) (l : LedgerValue) (I : IsBoard b h x l)
    (c n u : ℕ) (a : Answer) (H : IsHeldTask b h l c n u) (w : AnyUnit)
    (is : slice_get (units b.market) u ≡ Some w) where
  abbrev g : Rules PriceLists Proposal Answer
  g = rules_of b

  abbrev p : Posts Answer
  p = posts h

  abbrev q : Posts Answer
  q = with_post p c n u a

  abbrev m : ℕ
  m = unit_count b.market

  abbrev k_ : ℕ
  k_ = n - 1

  abbrev answer_of_post : Option (ℕ × Answer) → Answer
  answer_of_post o = option_map_or (λ (y : ℕ × Answer). y.1) o no_answer

  here_is : answer_at g q n u ≡ a
  here_is = ap answer_of_post (q_here b h x l I c n u a H)

  adds : AddsOne (units b.market) (answer_at g p n) (answer_at g q n) u m w
  adds = laws.adds (answer_at g p n) (answer_at g q n) u w is (ap answer_of_post H.none_yet)
      (λ v f. ap answer_of_post (q_other b h x l I c n u a H n v (λ y z. f (sym z))))

  supply_more : raised_by (supply_to b p n) (λ j. supply_in w a.schedule (suc j)) ≡ supply_to b q n
  supply_more =
      raised_map (total_power (units b.market) (schedules_in (answers g p n))) (λ j. supply_in w a.schedule (suc j))
      (total_power (units b.market) (schedules_in (answers g q n))) b.market.periods
      (λ j. adds.power j ∙
      ap (λ (y : Answer). total_power (units b.market) (schedules_in (answers g p n)) j +ℤ supply_in w y.schedule
      (suc j)) here_is)

  reserve_more : raised_by (reserve_to b p n) (λ j. reserve_in a.schedule (suc j)) ≡ reserve_to b q n
  reserve_more =
      raised_map (total_reserve (units b.market) (schedules_in (answers g p n))) (λ j. reserve_in a.schedule (suc j))
      (total_reserve (units b.market) (schedules_in (answers g q n))) b.market.periods
      (λ j. adds.reserve j ∙
      ap (λ (y : Answer). total_reserve (units b.market) (schedules_in (answers g p n)) j +ℤ reserve_in y.schedule
      (suc j)) here_is)

  earned_more : total (earned_in (answers g p n)) +ℤ a.earned ≡ total (earned_in (answers g q n))
  earned_more = ap (λ (y : Answer). total (earned_in (answers g p n)) +ℤ y.earned) (sym here_is) ∙ sym adds.earned

  -- the answers of the other proposals stay
  others : (k : ℕ) → (k ≡ k_ → ⊥) → answers g q (suc k) ≡ answers g p (suc k)
  others k f = map_range_same (answer_at g q (suc k)) (answer_at g p (suc k)) 0 m
      (λ v low high. ap answer_of_post (q_other b h x l I c n u a H (suc k) v (λ y z. f (omega (arith, y)))))

  size : length l.proposals ≡ b.budget
  size = I.ledger.count

  pub place_ : k_ < length l.proposals
  place_ = let e = size in let f = k_inside b h x l I c n u a H in omega (arith, e, f)

  pub supply_was : (d : Proposal) → (get_or l.proposals k_ d).supply ≡ supply_to b p n
  supply_was d =
      sym (get_or-map (λ (r : Proposal). r.supply) l.proposals k_ d [] place_) ∙
      I.tallies.supply_are k_ (k_inside b h x l I c n u a H)
      ∙ ap (supply_to b p) (after_k b h x l I c n u a H)

  pub reserve_was : (d : Proposal) → (get_or l.proposals k_ d).reserve ≡ reserve_to b p n
  reserve_was d =
      sym (get_or-map (λ (r : Proposal). r.reserve) l.proposals k_ d [] place_) ∙
      I.tallies.reserve_are k_ (k_inside b h x l I c n u a H)
      ∙ ap (reserve_to b p) (after_k b h x l I c n u a H)

  pub earned_was : int_at l.earned k_ ≡ total (earned_in (answers g p n))
  earned_was = I.tallies.earned_are k_ (k_inside b h x l I c n u a H) ∙
      ap (λ (j : ℕ). total (earned_in (answers g p j))) (after_k b h x l I c n u a H)

  module _ (l2 : LedgerValue) (d : Proposal) (W : IsCounted l l2 k_ w a d) where
    abbrev was : Proposal
    was = get_or l.proposals k_ d

    abbrev new : Proposal
    new = with_schedule was w a.schedule

    supply_list : (sums_of l2).supply ≡ set (sums_of l).supply k_ new.supply
    supply_list = ap (map (λ (r : Proposal). r.supply)) W.proposals ∙
        map-set (λ (r : Proposal). r.supply) l.proposals k_ new

    reserve_list : (sums_of l2).reserve ≡ set (sums_of l).reserve k_ new.reserve
    reserve_list = ap (map (λ (r : Proposal). r.reserve)) W.proposals ∙
        map-set (λ (r : Proposal). r.reserve) l.proposals k_ new

    to_n : (k : ℕ) → k ≡ k_ → n ≡ suc k
    to_n k s = sym (after_k b h x l I c n u a H) ∙ ap suc (sym s)

    pub tallies_more : AreTallies b (set x.counts k_ (get_or x.counts k_ 0 + 1)) (sums_of l2) q
    tallies_more = record {
      counts_count = length-set x.counts k_ _ ∙ I.tallies.counts_count;
      earned_count = ap (λ (xs : List ℤ). length xs) W.earned ∙ length-set l.earned k_ _ ∙ I.tallies.earned_count;
      supply_count = ap (λ (xs : List (List ℤ)). length xs) supply_list ∙ length-set (sums_of l).supply k_ _ ∙
          I.tallies.supply_count;
      reserve_count = ap (λ (xs : List (List ℤ)). length xs) reserve_list ∙ length-set (sums_of l).reserve k_ _ ∙
          I.tallies.reserve_count;
      counts_are = counts_more b h x l I c n u a H;
      earned_are = λ k j. ap (λ (xs : List ℤ). int_at xs k) W.earned ∙ (elim (same_or k k_) [
        | inl s ↦
            let few = I.tallies.earned_count in let here = k_inside b h x l I c n u a H in
            ap (λ (y : ℕ). int_at (set l.earned k_ (int_at l.earned k_ +ℤ a.earned)) y) s ∙
            get_or-set_same l.earned k_ (int_at l.earned k_ +ℤ a.earned) (pos 0) (omega (arith, few, here))
            ∙ ap (λ (z : ℤ). z +ℤ a.earned) earned_was ∙ earned_more ∙
            ap (λ (y : ℕ). total (earned_in (answers g q y))) (to_n k s)
        | inr s ↦ get_or-set_other l.earned k_ k (int_at l.earned k_ +ℤ a.earned) (pos 0) s ∙ I.tallies.earned_are k j ∙
            ap (λ (xs : List Answer). total (earned_in xs)) (sym (others k s))
      ]);
      supply_are = λ k j. ap (λ (xs : List (List ℤ)). get_or xs k []) supply_list ∙ (elim (same_or k k_) [
        | inl s ↦
            let few = I.tallies.supply_count in let here = k_inside b h x l I c n u a H in
            ap (λ (y : ℕ). get_or (set (sums_of l).supply k_ new.supply) y []) s ∙
            get_or-set_same (sums_of l).supply k_ new.supply [] (omega (arith, few, here))
            ∙ ap (λ (xs : List ℤ). raised_by xs (λ j. supply_in w a.schedule (suc j))) (supply_was d) ∙ supply_more ∙
            ap (supply_to b q) (to_n k s)
        | inr s ↦
            get_or-set_other (sums_of l).supply k_ k new.supply [] s ∙ I.tallies.supply_are k j
            ∙ ap (λ (xs : List Answer). map (total_power (units b.market) (schedules_in xs))
            (range_with_len 0 b.market.periods)) (sym (others k s))
      ]);
      reserve_are = λ k j. ap (λ (xs : List (List ℤ)). get_or xs k []) reserve_list ∙ (elim (same_or k k_) [
        | inl s ↦
            let few = I.tallies.reserve_count in let here = k_inside b h x l I c n u a H in
            ap (λ (y : ℕ). get_or (set (sums_of l).reserve k_ new.reserve) y []) s ∙
            get_or-set_same (sums_of l).reserve k_ new.reserve [] (omega (arith, few, here))
            ∙ ap (λ (xs : List ℤ). raised_by xs (λ j. reserve_in a.schedule (suc j))) (reserve_was d) ∙ reserve_more ∙
            ap (reserve_to b q) (to_n k s)
        | inr s ↦
            get_or-set_other (sums_of l).reserve k_ k new.reserve [] s ∙ I.tallies.reserve_are k j
            ∙ ap (λ (xs : List Answer). map (total_reserve (units b.market) (schedules_in xs))
            (range_with_len 0 b.market.periods)) (sym (others k s))
      ]);
    }

    -- the proposal isn't closed yet
    pub still_open : l.closed ≤ k_
    still_open = elim (cases_lt k_ l.closed) [
      | inr more ↦ more
      | inl less ↦
          let e = closed_is b l I.ledger p I.rounds laws in
          let closed = (laws.front p).closed k_ (omega (arith, less, e)) in
          let post = laws.posted p (suc k_) u closed H.inside in
          let there : p n u ≡ Some post.0 = ap (λ (j : ℕ). p j u) (sym (after_k b h x l I c n u a H)) ∙ post.1 in
          absurd (never (p n u) post.0 there H.none_yet)
    ]
      where
        never : (o : Option (ℕ × Answer)) (y : ℕ × Answer) → o ≡ Some y → o ≡ None → ⊥
        never o y e f = (cc)

    pub fronts_same : fronts_of l2 ≡ fronts_of l
    fronts_same =
        same_fronts (fronts_of l2).rows (fronts_of l).rows (fronts_of l2).prices (fronts_of l).prices
        (ap (λ (k : ℕ). take k l2.proposals) W.closed ∙ ap (take l.closed) W.proposals ∙
        take-set-le l.closed l.proposals k_ new still_open)
        (ap (λ (k : ℕ). take k (map (λ (r : Proposal). r.prices) l2.proposals)) W.opened
        ∙ ap (λ (xs : List Proposal). take l.opened (map (λ (r : Proposal). r.prices) xs)) W.proposals
        ∙ ap (take l.opened) (map_unchanged (λ (r : Proposal). r.prices) l.proposals k_ new d place_ refl))

    pub counted_ledger : IsLedger b l2
    counted_ledger =
        let old = I.ledger in
        let most = old.closed in
        let most2 = old.opened in
        let e = W.closed in
        let f = W.opened in
        record {
          count = ap (λ (xs : List Proposal). length xs) W.proposals ∙ length-set l.proposals k_ new ∙ old.count;
          closed = omega (arith, most, e);
          opened = omega (arith, most2, f);
          horizon = subst (λ (xs : List Proposal). All (λ (r : Proposal). length r.prices.energy ≡ b.market.periods) xs)
              (sym W.proposals) (λ k e2 lt. elim (same_or k k_) [
                | inl s ↦
                    ap (λ (j : ℕ). length (get_or (set l.proposals k_ new) j e2).prices.energy) s ∙
                    ap (λ (r : Proposal). length r.prices.energy) (get_or-set_same l.proposals k_ new e2 place_)
                    ∙ old.horizon k_ d place_
                | inr s ↦
                    ap (λ (r : Proposal). length r.prices.energy) (get_or-set_other l.proposals k_ k new e2 s)
                    ∙ old.horizon k e2 (let z = length-set l.proposals k_ new in omega (arith, lt, z))
              ]);
        }
