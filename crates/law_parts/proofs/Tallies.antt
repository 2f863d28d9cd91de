-- How many events a legal history has: a task is claimed at most once and posted at most once, and a caller halts at
-- most
-- once.
use Rattle.law_parts.proofs.Common.{◌≡◌, ℕ, zero, suc, ◌+◌, ◌*◌, ◌<◌, ◌≤◌, ◌⊎◌, Bool, true, false, cond, ◌&&◌, ◌||◌}
use Rattle.law_parts.proofs.Common.{◌==◌, inl, inr, Option, Some, None, List, [], ◌∷◌, ◌++◌, length, map, refl, sym, ap}
use Rattle.law_parts.proofs.Common.{◌∙◌, subst, arith, length-append, false≢true, cases_lt, nat_tests, length-map}
use Rattle.law_parts.proofs.Common.{filter-append, list_any-append, length-range_with_len, filter, flat_map, list_any}
use Rattle.law_parts.proofs.Common.{range_with_len, is_some, Fits, rules_of, IsRight, is_claim, is_post, claims_in}
use Rattle.law_parts.proofs.Common.{posts_in, halts_in, EventsAreAtMost, Rules, Event, Given, Taken, Closing, Stopped}
use Rattle.law_parts.proofs.Common.{sooner, only_at, is_halt, is_halt_of, Holders, holders, Posts, posts, with_post}
use Rattle.law_parts.proofs.Common.{IsPost, IsNext, IsLegal}
use Rattle.board_store.proofs.Answered.{posts-given, posts-stopped, posts-taken, posts-closing, holders-given}
use Rattle.board_store.proofs.Answered.{holders-taken, holders-closing, holders-stopped}
use Rattle.board_store.proofs.Held.{along, given_says}
use Rattle.board_store.specs.Entries.{entry_of, entries_of}
use Rattle.std.proofs.Math.Nat.{suc-mul}

-- ---- how many items pass a test

abbrev pub bit : Bool → ℕ
bit true = 1
bit false = 0

abbrev pub tally : {X : Type 0} → (X → Bool) → List X → ℕ
tally t [] = 0
tally t (x ∷ xs) = bit (t x) + tally t xs

abbrev pub IsIn : {X : Type 0} → X → List X → Type 0
IsIn x [] = ⊥
IsIn x (y ∷ ys) = (y ≡ x) ⊎ IsIn x ys

bit_le_one : (b : Bool) → bit b ≤ 1
bit_le_one true = omega arith
bit_le_one false = omega arith

bit_more : (a b : Bool) → (a ≡ true → b ≡ true) → bit a ≤ bit b
bit_more true true f = omega arith
bit_more true false f = absurd (false≢true (f refl))
bit_more false b f = omega arith

bit_new : (a b : Bool) → a ≡ false → b ≡ true → bit a + 1 ≤ bit b
bit_new false true e f = omega arith
bit_new true b e f = absurd (false≢true (sym e))
bit_new false false e f = absurd (false≢true f)

module _ {X : Type 0} where
  tally_most : (t : X → Bool) (xs : List X) → tally t xs ≤ length xs
  tally_most t [] = omega arith
  tally_most t (x ∷ xs) = let a = bit_le_one (t x) in let b = tally_most t xs in omega (arith, a, b)

  tally_more : (t t2 : X → Bool) (xs : List X) → ((x : X) → t x ≡ true → t2 x ≡ true) → tally t xs ≤ tally t2 xs
  tally_more t t2 [] more = omega arith
  tally_more t t2 (x ∷ xs) more = let a = bit_more (t x) (t2 x) (more x) in let b = tally_more t t2 xs more in
      omega (arith, a, b)

  tally_new : (t t2 : X → Bool) (xs : List X) (x : X) → ((y : X) → t y ≡ true → t2 y ≡ true) → IsIn x xs → t x ≡ false →
      t2 x ≡ true → tally t xs + 1 ≤ tally t2 xs
  tally_new t t2 [] x more is old new = absurd is
  tally_new t t2 (y ∷ ys) x more is old new =
      elim is [
        | inl here ↦
            let a = bit_new (t y) (t2 y) (ap t here ∙ old) (ap t2 here ∙ new) in
            let b = tally_more t t2 ys more in
            omega (arith, a, b)
        | inr there ↦
            let a = bit_more (t y) (t2 y) (more y) in
            let b = tally_new t t2 ys x more there old new in
            omega (arith, a, b)
      ]

  in_left : (x : X) (xs ys : List X) → IsIn x xs → IsIn x (xs ++ ys)
  in_left x [] ys is = absurd is
  in_left x (y ∷ xs) ys is = elim is [ inl here ↦ inl here | inr there ↦ inr (in_left x xs ys there) ]

  in_right : (x : X) (xs ys : List X) → IsIn x ys → IsIn x (xs ++ ys)
  in_right x [] ys is = is
  in_right x (y ∷ xs) ys is = inr (in_right x xs ys is)

in_range : (a n k : ℕ) → a ≤ k → k < a + n → IsIn k (range_with_len a n)
in_range a zero k low high = absurd (omega (arith, low, high))
in_range a (suc n) k low high =
    elim (cases_lt a k) [
      | inl above ↦ inr (in_range (a + 1) n k (omega (arith, above)) (omega (arith, high)))
      | inr below ↦ inl (omega (arith, below, low))
    ]

in_map : {X Y : Type 0} (f : X → Y) (x : X) (xs : List X) → IsIn x xs → IsIn (f x) (map f xs)
in_map f x [] is = absurd is
in_map f x (y ∷ xs) is = elim is [ inl here ↦ inl (ap f here) | inr there ↦ inr (in_map f x xs there) ]

-- ---- tasks

abbrev task : ℕ → ℕ → ℕ × ℕ
task k u = (k, u)

abbrev tasks_of : ℕ → ℕ → List (ℕ × ℕ)
tasks_of units k = map (task k) (range_with_len 0 units)

abbrev tasks_from : ℕ → ℕ → ℕ → List (ℕ × ℕ)
tasks_from units a n = flat_map (tasks_of units) (range_with_len a n)

tasks_length : (units a n : ℕ) → length (tasks_from units a n) ≡ n * units
tasks_length units a zero = omega arith
tasks_length units a (suc n) =
    let l = length-map (range_with_len 0 units) (task a) in
    omega (
      arith,
      length-append (tasks_of units a) (tasks_from units (a + 1) n),
      l,
      length-range_with_len 0 units,
      tasks_length units (a + 1) n,
      suc-mul n units,
    )

in_tasks : (units a n m u : ℕ) → a ≤ m → m < a + n → u < units → IsIn (m, u) (tasks_from units a n)
in_tasks units a zero m u low high unit = absurd (omega (arith, low, high))
in_tasks units a (suc n) m u low high unit =
    elim (cases_lt a m) [
      | inl above ↦ in_right (m, u) (tasks_of units a) (tasks_from units (a + 1) n)
          (in_tasks units (a + 1) n m u (omega (arith, above)) (omega (arith, high)) unit)
      | inr below ↦
          let same : a ≡ m = omega (arith, below, low) in
          let here : IsIn (task a u) (tasks_of units a) =
          in_map (task a) u (range_with_len 0 units) (in_range 0 units u (omega arith) (omega (arith, unit))) in
          subst (λ (k : ℕ). IsIn (task k u) (tasks_of units a ++ tasks_from units (a + 1) n)) same
          (in_left (task a u) (tasks_of units a) (tasks_from units (a + 1) n) here)
    ]

-- ---- legal histories, event by event

module _ {P R A : Type 0} (g : Rules P R A) (fits : ℕ → P → A → Type 0) where
  count_more : (t : Event A → Bool) (h : List (Event A)) (e : Event A) →
      length (filter t (h ++ e ∷ [])) ≡ length (filter t h) + length (filter t (e ∷ []))
  count_more t h e = ap length (filter-append t h (e ∷ [])) ∙ length-append (filter t h) (filter t (e ∷ []))

  abbrev all_tasks : List (ℕ × ℕ)
  all_tasks = tasks_from g.units 1 g.budget

  abbrev posted_in : Posts A → ℕ × ℕ → Bool
  posted_in p t = is_some (p t.0 t.1)

  abbrev held_in : Holders → ℕ × ℕ → Bool
  held_in held t = is_some (held t.0 t.1)

  some_sooner : {X : Type 0} (o new : Option X) → is_some o ≡ true → is_some (sooner o new) ≡ true
  some_sooner None new h = absurd (false≢true h)
  some_sooner (Some x) new h = refl

  here : {X : Type 0} (n u : ℕ) (x : X) (o : Option X) → is_some (sooner o (only_at n u x n u)) ≡ true
  here n u x (Some y) = refl
  here n u x None = at (n == n && u == u) (grind (arith, nat_tests))
    where
      at : (b : Bool) → b ≡ true → is_some (cond b (Some x) None) ≡ true
      at true h = refl
      at false h = absurd (false≢true h)

  -- ---- posts

  post_new : (p : Posts A) (held : Holders) (c n u : ℕ) (a : A) → IsPost g fits p held c n u a →
      tally (posted_in p) all_tasks + 1 ≤ tally (posted_in (with_post p c n u a)) all_tasks
  post_new p held c n u a post =
      let lo = post.from_one in let hi = post.open_ in
      tally_new (posted_in p) (posted_in (with_post p c n u a)) all_tasks (n, u)
      (λ t is. some_sooner (p t.0 t.1) (only_at n u (c, a) t.0 t.1) is)
      (in_tasks g.units 1 g.budget n u (omega (arith, lo)) (omega (arith, hi)) post.unit) (ap is_some post.first)
      (here n u (c, a) (p n u))

  abbrev PostsCounted : List (Event A) → Type 0
  PostsCounted h = posts_in h ≤ tally (posted_in (posts h)) all_tasks

  posts_step : (h : List (Event A)) (e : Event A) → PostsCounted h → IsNext g fits h e → PostsCounted (h ++ e ∷ [])
  posts_step h (Given c n u) now next =
      let s = ap (λ (p : Posts A). tally (posted_in p) all_tasks) (posts-given h c n u) in
      omega (arith, now, s, count_more is_post h (Given c n u))
  posts_step h (Taken c n u a) now next =
      let s = ap (λ (p : Posts A). tally (posted_in p) all_tasks) (posts-taken h c n u a) in
      omega (arith, now, s, count_more is_post h (Taken c n u a), post_new (posts h) (holders h) c n u a next.1)
  posts_step h (Closing c n u a) now next =
      let s = ap (λ (p : Posts A). tally (posted_in p) all_tasks) (posts-closing h c n u a) in
      omega (arith, now, s, count_more is_post h (Closing c n u a), post_new (posts h) (holders h) c n u a next.1)
  posts_step h (Stopped c) now next =
      let s = ap (λ (p : Posts A). tally (posted_in p) all_tasks) (posts-stopped h c) in
      omega (arith, now, s, count_more is_post h (Stopped c))

  pub posts_most : (h : List (Event A)) → IsLegal g fits h → posts_in h ≤ g.budget * g.units
  posts_most h legal =
      let counted : PostsCounted h = along g fits PostsCounted (omega arith) posts_step h legal in
      omega (arith, counted, tally_most (posted_in (posts h)) all_tasks, tasks_length g.units 1 g.budget)

  -- ---- claims

  abbrev ClaimsCounted : List (Event A) → Type 0
  ClaimsCounted h = claims_in h ≤ tally (held_in (holders h)) all_tasks

  claims_step : (h : List (Event A)) (e : Event A) → ClaimsCounted h → IsNext g fits h e → ClaimsCounted (h ++ e ∷ [])
  claims_step h (Given c n u) now next =
      let f = given_says g (posts h) (holders h) (list_any is_halt h) n u next.1 in
      let lo = f.from_one in let hi = f.open_ in
      let more =
      tally_new (held_in (holders h)) (held_in (holders (h ++ Given c n u ∷ []))) all_tasks (n, u)
      (λ t is. ap is_some (holders-given h c n u t.0 t.1) ∙ some_sooner (holders h t.0 t.1) (only_at n u c t.0 t.1) is)
      (in_tasks g.units 1 g.budget n u (omega (arith, lo)) (omega (arith, hi)) f.unit) (ap is_some f.free)
      (ap is_some (holders-given h c n u n u) ∙ here n u c (holders h n u)) in
      omega (arith, now, more, count_more is_claim h (Given c n u))
  claims_step h (Taken c n u a) now next =
      let s = ap (λ (k : Holders). tally (held_in k) all_tasks) (holders-taken h c n u a) in
      omega (arith, now, s, count_more is_claim h (Taken c n u a))
  claims_step h (Closing c n u a) now next =
      let s = ap (λ (k : Holders). tally (held_in k) all_tasks) (holders-closing h c n u a) in
      omega (arith, now, s, count_more is_claim h (Closing c n u a))
  claims_step h (Stopped c) now next =
      let s = ap (λ (k : Holders). tally (held_in k) all_tasks) (holders-stopped h c) in
      omega (arith, now, s, count_more is_claim h (Stopped c))

  pub claims_most : (h : List (Event A)) → IsLegal g fits h → claims_in h ≤ g.budget * g.units
  claims_most h legal =
      let counted : ClaimsCounted h = along g fits ClaimsCounted (omega arith) claims_step h legal in
      omega (arith, counted, tally_most (held_in (holders h)) all_tasks, tasks_length g.units 1 g.budget)

  -- ---- halts

  abbrev halted_in : List (Event A) → ℕ → Bool
  halted_in h c = list_any (is_halt_of c) h

  abbrev callers : List ℕ
  callers = range_with_len 0 g.callers

  abbrev HaltsCounted : List (Event A) → Type 0
  HaltsCounted h = halts_in h ≤ tally (halted_in h) callers

  or_left : (a b : Bool) → a ≡ true → (a || b) ≡ true
  or_left true b h = refl
  or_left false b h = absurd (false≢true h)

  stays_halted : (h : List (Event A)) (e : Event A) (c : ℕ) → halted_in h c ≡ true → halted_in (h ++ e ∷ []) c ≡ true
  stays_halted h e c is = list_any-append (is_halt_of c) h (e ∷ []) ∙
      or_left (halted_in h c) (list_any (is_halt_of c) (e ∷ [])) is

  now_halted : (a : Bool) (c : ℕ) → (a || ((c == c) || false)) ≡ true
  now_halted true c = refl
  now_halted false c = grind (arith, nat_tests)

  halts_step : (h : List (Event A)) (e : Event A) → HaltsCounted h → IsNext g fits h e → HaltsCounted (h ++ e ∷ [])
  halts_step h (Given c n u) now next =
      let more = tally_more (halted_in h) (halted_in (h ++ Given c n u ∷ [])) callers (stays_halted h (Given c n u)) in
      omega (arith, now, more, count_more is_halt h (Given c n u))
  halts_step h (Taken c n u a) now next =
      let more = tally_more (halted_in h) (halted_in (h ++ Taken c n u a ∷ [])) callers
      (stays_halted h (Taken c n u a)) in omega (arith, now, more, count_more is_halt h (Taken c n u a))
  halts_step h (Closing c n u a) now next =
      let more = tally_more (halted_in h) (halted_in (h ++ Closing c n u a ∷ [])) callers
      (stays_halted h (Closing c n u a)) in omega (arith, now, more, count_more is_halt h (Closing c n u a))
  halts_step h (Stopped c) now next =
      let caller = next.0 in
      let more =
      tally_new (halted_in h) (halted_in (h ++ Stopped c ∷ [])) callers c (stays_halted h (Stopped c))
      (in_range 0 g.callers c (omega arith) (omega (arith, caller))) next.1
      (list_any-append (is_halt_of c) h (Stopped c ∷ []) ∙ now_halted (halted_in h c) c) in
      omega (arith, now, more, count_more is_halt h (Stopped c))

  pub halts_most : (h : List (Event A)) → IsLegal g fits h → halts_in h ≤ g.callers
  halts_most h legal =
      let counted : HaltsCounted h = along g fits HaltsCounted (omega arith) halts_step h legal in
      omega (arith, counted, tally_most (halted_in h) callers, length-range_with_len 0 g.callers)

  -- ---- all events

  all_counted : (h : List (Event A)) → length h ≡ claims_in h + posts_in h + halts_in h
  all_counted [] = omega arith
  all_counted (Given c n u ∷ h) = omega (arith, all_counted h)
  all_counted (Taken c n u a ∷ h) = omega (arith, all_counted h)
  all_counted (Closing c n u a ∷ h) = omega (arith, all_counted h)
  all_counted (Stopped c ∷ h) = omega (arith, all_counted h)

  pub events_most : (h : List (Event A)) → IsLegal g fits h →
      length (entries_of h) ≤ 2 * (g.budget * g.units) + g.callers
  events_most h legal =
      let a = claims_most h legal in let b = posts_most h legal in let c = halts_most h legal in
      let l = length-map h (λ (e : Event A). entry_of e) in
      omega (arith, a, b, c, l, all_counted h)

pub events_are_at_most : EventsAreAtMost
events_are_at_most b h legal =
    let g = rules_of b in
    let fits = IsRight Fits b.market in
    record {
      claims = claims_most g fits h legal;
      posts = posts_most g fits h legal;
      halts = halts_most g fits h legal;
      entries = events_most g fits h legal;
    }
