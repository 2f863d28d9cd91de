-- The lists of a board with one more post.
use Rattle.board_core.proofs.Common.{◌≡◌, ℕ, zero, suc, ◌+◌, ◌-◌, ◌*◌, ◌<◌, ◌≤◌, ◌⊎◌, Bool, true, false, cond, ◌&&◌}
use Rattle.board_core.proofs.Common.{◌==◌, inl, inr, Option, Some, None, List, length, map, get_or, refl, sym, ap, ◌∙◌}
use Rattle.board_core.proofs.Common.{subst, arith, eq-eqb, set, length-set, cases_lt, nat_tests, get_or-set_same}
use Rattle.board_core.proofs.Common.{get_or-set_other, slice_get_within, get_or_from_slice_get, list_all}
use Rattle.board_core.proofs.Common.{range_with_len, is_some, slice_get, slice_index, Setup, Answer, no_answer}
use Rattle.board_core.proofs.Common.{rules_of, Event, sooner, only_at, Posts, posts, holders, with_post, is_closed}
use Rattle.board_core.proofs.Common.{unit_count, task_number, LedgerValue, Lists, task_count, bit, sum_up, answered}
use Rattle.board_core.proofs.Common.{mark, AreMarks, IsBoard}
use Rattle.board_core.proofs.Lists.{sooner_none, map_range_same, place_before, place_same}

pub same_or : (x y : ℕ) → (x ≡ y) ⊎ (x ≡ y → ⊥)
same_or x y = grind arith

-- ---- sums over a range

sum_one : (f f2 : ℕ → ℕ) (a n u x : ℕ) → a ≤ u → u < a + n → ((v : ℕ) → (v ≡ u → ⊥) → f2 v ≡ f v) → f2 u ≡ f u + x →
    sum_up (map f2 (range_with_len a n)) ≡ sum_up (map f (range_with_len a n)) + x
sum_one f f2 a zero u x low high other here = absurd (omega (arith, low, high))
sum_one f f2 a (suc n) u x low high other here =
    elim (cases_lt a u) [
      | inl above ↦
          let e = other a (λ i. omega (arith, above, i)) in
          let r = sum_one f f2 (a + 1) n u x (omega (arith, above)) (omega (arith, high)) other here in
          omega (arith, e, r)
      | inr below ↦
          let same : a ≡ u = omega (arith, low, below) in
          let e : f2 a ≡ f a + x = subst (λ (k : ℕ). f2 k ≡ f k + x) (sym same) here in
          let r : map f2 (range_with_len (a + 1) n) ≡ map f (range_with_len (a + 1) n) =
          map_range_same f2 f (a + 1) n (λ k l h. other k (λ i. omega (arith, i, l, same))) in
          let s = ap sum_up r in
          omega (arith, e, s)
    ]

sum_at_most : (f : ℕ → ℕ) (a n k : ℕ) → ((v : ℕ) → a ≤ v → v < a + n → f v ≤ k) →
    sum_up (map f (range_with_len a n)) ≤ k * n
sum_at_most f a zero k each = omega arith
sum_at_most f a (suc n) k each =
    let h = each a (omega arith) (omega arith) in
    let r = sum_at_most f (a + 1) n k (λ v l i. each v (omega (arith, l)) (omega (arith, i))) in
    omega (arith, h, r)

-- a count over a range is whole where all pass
count_cases : (t : ℕ → Bool) (a n : ℕ) →
    ((list_all t (range_with_len a n) ≡ true) × (sum_up (map (λ u. bit (t u)) (range_with_len a n)) ≡ n))
    ⊎ ((list_all t (range_with_len a n) ≡ false) × (sum_up (map (λ u. bit (t u)) (range_with_len a n)) < n))
count_cases t a zero = inl (refl, refl)
count_cases t a (suc n) =
    more (t a) (list_all t (range_with_len (a + 1) n)) (sum_up (map (λ u. bit (t u)) (range_with_len (a + 1) n)))
    (count_cases t (a + 1) n)
  where
    more : (x y : Bool) (s : ℕ) → ((y ≡ true) × (s ≡ n)) ⊎ ((y ≡ false) × (s < n)) →
        (((x && y) ≡ true) × (bit x + s ≡ suc n)) ⊎ (((x && y) ≡ false) × (bit x + s < suc n))
    more true y s (inl h) = let e = h.1 in inl (h.0, omega (arith, e))
    more true y s (inr h) = let e = h.1 in inr (h.0, omega (arith, e))
    more false y s (inl h) = let e = h.1 in inr (refl, omega (arith, e))
    more false y s (inr h) = let e = h.1 in inr (refl, omega (arith, e))

pub closed_counts : (b : Setup) (p : Posts Answer) (n : ℕ) →
    is_closed (rules_of b) p n ≡ (answered b p n == unit_count b.market)
closed_counts b p n =
    elim (count_cases (λ u. is_some (p n u)) 0 (unit_count b.market)) [
      | inl h ↦ let e = h.1 in h.0 ∙ sym (eq-eqb (answered b p n) (unit_count b.market) e)
      | inr h ↦ let e = h.1 in let f : (answered b p n == unit_count b.market) ≡ false = grind (arith, nat_tests, e) in
          h.0 ∙ sym f
    ]

pub answered_few : (b : Setup) (p : Posts Answer) (n : ℕ) → answered b p n ≤ unit_count b.market
answered_few b p n =
    let e = sum_at_most (λ u. bit (is_some (p n u))) 0 (unit_count b.market) 1
    (λ v low high. small (is_some (p n v))) in omega (arith, e)
  where
    small : (t : Bool) → bit t ≤ 1
    small true = omega arith
    small false = omega arith

-- ---- one more post

sooner_some : {X : Type 0} (o : Option X) (x : X) → o ≡ None → sooner o (Some x) ≡ Some x
sooner_some None x h = refl
sooner_some (Some y) x h = (cc)

pub only_here : {X : Type 0} (n u : ℕ) (x : X) → only_at n u x n u ≡ Some x
only_here {X} n u x =
    let e : (n == n && u == u) ≡ true = grind (arith, nat_tests) in
    ap (λ (t : Bool). cond {A = Option X} t (Some x) None) e

not_both : (n m u v : ℕ) → (n ≡ m → u ≡ v → ⊥) → (n == m && u == v) ≡ false
not_both n m u v f = grind (arith, nat_tests, f)

only_elsewhere : {X : Type 0} (n u m v : ℕ) (x : X) → (n ≡ m → u ≡ v → ⊥) → only_at n u x m v ≡ None
only_elsewhere {X} n u m v x f = ap (λ (t : Bool). cond {A = Option X} t (Some x) None) (not_both n m u v f)

no_mark : (t : Bool) (y : ℕ × Answer) → cond {A = Option (ℕ × Answer)} t (Some y) None ≡ None → t ≡ false
no_mark true y e = (cc)
no_mark false y e = refl

-- a task that its caller holds and that has no answer
pub record IsHeldTask (b : Setup) (h : List (Event Answer)) (l : LedgerValue) (c n u : ℕ) : Type 0 where
  pub one : 0 < n
  pub within : n ≤ l.opened
  pub inside : u < unit_count b.market
  pub none_yet : posts h n u ≡ None
  pub held : holders h n u ≡ Some c

module _ (b : Setup) (h : List (Event Answer)) (x : Lists) (l : LedgerValue) (I : IsBoard b h x l) (c n u : ℕ)
    (a : Answer) (H : IsHeldTask b h l c n u) where
  abbrev p : Posts Answer
  p = posts h

  abbrev q : Posts Answer
  q = with_post p c n u a

  abbrev units : ℕ
  units = unit_count b.market

  abbrev i : ℕ
  i = task_number units n u

  pub in_budget : n ≤ b.budget
  in_budget = let o = I.ledger.opened in let w = H.within in omega (arith, w, o)

  pub in_lists : i < task_count b
  in_lists = place_before units b.budget n u H.one in_budget H.inside

  taker_is : slice_get x.takers i ≡ Some c
  taker_is = sym (I.takers_are.each n u H.one in_budget H.inside) ∙ H.held

  pub free : get_or x.marks i false ≡ false
  free = no_mark (get_or x.marks i false) (slice_index x.takers i, get_or x.kept i no_answer)
      (sym (I.marks_are.each n u H.one in_budget H.inside) ∙ H.none_yet)

  pub mark_inside : i < length x.marks
  mark_inside = let w = in_lists in let e = I.marks_are.marks_count in omega (arith, w, e)

  pub kept_inside : i < length x.kept
  kept_inside = let w = in_lists in let e = I.marks_are.kept_count in omega (arith, w, e)

  pub q_other : (m v : ℕ) → (n ≡ m → u ≡ v → ⊥) → q m v ≡ p m v
  q_other m v f = ap (sooner (p m v)) (only_elsewhere n u m v (c, a) f) ∙ sooner_none (p m v)

  pub q_here : q n u ≡ Some (c, a)
  q_here = ap (sooner (p n u)) (only_here n u (c, a)) ∙ sooner_some (p n u) (c, a) H.none_yet

  marked : (j : ℕ) → (j ≡ i → ⊥) →
      mark (set x.marks i true) x.takers (set x.kept i a) j ≡ mark x.marks x.takers x.kept j
  marked j other =
      ap (λ (t : Bool). cond {A = Option (ℕ × Answer)} t
      (Some (slice_index x.takers j, get_or (set x.kept i a) j no_answer)) None)
      (get_or-set_other x.marks i j true false other)
      ∙ ap (λ (y : Answer). cond {A = Option (ℕ × Answer)} (get_or x.marks j false) (Some (slice_index x.takers j, y))
      None) (get_or-set_other x.kept i j a no_answer other)

  marked_here : mark (set x.marks i true) x.takers (set x.kept i a) i ≡ Some (c, a)
  marked_here =
      ap (λ (t : Bool). cond {A = Option (ℕ × Answer)} t
      (Some (slice_index x.takers i, get_or (set x.kept i a) i no_answer)) None)
      (get_or-set_same x.marks i true false mark_inside)
      ∙ ap (λ (y : Answer). Some (slice_index x.takers i, y)) (get_or-set_same x.kept i a no_answer kept_inside)
      ∙ ap (λ (y : ℕ). Some (y, a)) (get_or_from_slice_get x.takers i c 0 taker_is)

  pub marks_more : AreMarks b (set x.marks i true) x.takers (set x.kept i a) q
  marks_more = record {
    marks_count = length-set x.marks i true ∙ I.marks_are.marks_count;
    kept_count = length-set x.kept i a ∙ I.marks_are.kept_count;
    each = λ m v low high j. elim (same_or (task_number units m v) i) [
      | inl e ↦
          let s = place_same units m v n u low H.one j H.inside e in
          ap (λ (k : ℕ). q k v) s.0 ∙ ap (λ (k : ℕ). q n k) s.1 ∙ q_here ∙ sym marked_here
          ∙ ap (mark (set x.marks i true) x.takers (set x.kept i a)) (sym e)
      | inr e ↦
          q_other m v
          (λ y z. e (ap (λ (k : ℕ). task_number units k v) (sym y) ∙ ap (λ (k : ℕ). task_number units n k) (sym z)))
          ∙ I.marks_are.each m v low high j ∙ sym (marked (task_number units m v) e)
    ];
    claimed = λ j e. elim (same_or j i) [
      | inl s ↦ let w = slice_get_within x.takers i c taker_is in omega (arith, w, s)
      | inr s ↦ I.marks_are.claimed j (sym (get_or-set_other x.marks i j true false s) ∙ e)
    ];
  }

  pub answered_more : answered b q n ≡ answered b p n + 1
  answered_more =
      let inside = H.inside in
      sum_one (λ v. bit (is_some (p n v))) (λ v. bit (is_some (q n v))) 0 units u 1 (omega arith)
      (omega (arith, inside))
      (λ v f. ap (λ (o : Option (ℕ × Answer)). bit (is_some o)) (q_other n v (λ y z. f (sym z))))
      (let e = ap (λ (o : Option (ℕ × Answer)). bit (is_some o)) q_here in
      let f = ap (λ (o : Option (ℕ × Answer)). bit (is_some o)) H.none_yet in omega (arith, e, f))

  abbrev k_ : ℕ
  k_ = n - 1

  pub after_k : suc k_ ≡ n
  after_k = let one = H.one in omega (arith, one)

  pub k_inside : k_ < b.budget
  k_inside = let one = H.one in let w = in_budget in omega (arith, one, w)

  pub count_is : get_or x.counts k_ 0 ≡ answered b p n
  count_is = I.tallies.counts_are k_ k_inside ∙ ap (answered b p) after_k

  pub count_few : get_or x.counts k_ 0 ≤ units
  count_few = let e = count_is in omega (arith, e, answered_few b p n)

  abbrev counts2 : List ℕ
  counts2 = set x.counts k_ (get_or x.counts k_ 0 + 1)

  pub counts_more : (k : ℕ) → k < b.budget → get_or counts2 k 0 ≡ answered b q (suc k)
  counts_more k j = elim (same_or k k_) [
    | inl s ↦
        let size = I.tallies.counts_count in
        let here = k_inside in
        ap (λ (y : ℕ). get_or counts2 y 0) s ∙
        get_or-set_same x.counts k_ (get_or x.counts k_ 0 + 1) 0 (omega (arith, size, here))
        ∙ ap (λ (y : ℕ). y + 1) count_is ∙ sym answered_more ∙ ap (answered b q) (sym after_k ∙ ap suc (sym s))
    | inr s ↦
        get_or-set_other x.counts k_ k (get_or x.counts k_ 0 + 1) 0 s ∙ I.tallies.counts_are k j
        ∙ sym (ap sum_up (map_range_same (λ v. bit (is_some (q (suc k) v))) (λ v. bit (is_some (p (suc k) v))) 0 units
        (λ v low high. ap (λ (o : Option (ℕ × Answer)). bit (is_some o))
        (q_other (suc k) v (λ y z. s (omega (arith, y)))))))
  ]

  -- whether the post closes its proposal
  pub closes_is : is_closed (rules_of b) q n ≡ (get_or x.counts k_ 0 + 1 == units)
  closes_is = closed_counts b q n ∙ ap (λ (y : ℕ). y == units) (answered_more ∙ ap (λ (y : ℕ). y + 1) (sym count_is))
