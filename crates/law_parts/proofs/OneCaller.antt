-- Rounds of one caller: between two rounds a claim is given or the board has finished, and the answer of a task that
-- was
-- given is taken.
use Rattle.law_parts.proofs.Common.{◌≡◌, ℕ, zero, suc, ◌+◌, ◌<◌, ◌≤◌, ◌⊎◌, Bool, true, false, cond, ◌&&◌, ◌||◌, ◌==◌}
use Rattle.law_parts.proofs.Common.{inl, inr, Option, Some, None, List, [], ◌∷◌, ◌++◌, length, refl, sym, ap, ◌∙◌}
use Rattle.law_parts.proofs.Common.{subst, arith, length-append, false≢true, cases_lt, le-leb, nat_tests, filter-append}
use Rattle.law_parts.proofs.Common.{list_any-append, filter, list_all, list_any, range_with_len, is_some, is_none}
use Rattle.law_parts.proofs.Common.{Answer, rules_of, IsRight, differs_from, is_post, posts_in, IsBetween}
use Rattle.law_parts.proofs.Common.{ClaimsAreGiven, GivenIsTaken, Rules, Event, Given, Taken, Closing, sooner, only_at}
use Rattle.law_parts.proofs.Common.{is_halt, Holders, holders, Posts, posts, with_post, is_closed, prices_at}
use Rattle.law_parts.proofs.Common.{closed_front, opened, is_finished, ClaimReply, Finished, GivenTask, next_task}
use Rattle.law_parts.proofs.Common.{claim_from, claim_reply, with_claim, events_after_claim, PostReply, TakenPost}
use Rattle.law_parts.proofs.Common.{post_event, with_answer, post_reply, events_after_post, IsLegal, Fits, Difference}
use Rattle.board_store.proofs.Answered.{posts-given, posts-taken, posts-closing, holders-given, holders-taken}
use Rattle.board_store.proofs.Answered.{holders-closing, only_cases}
use Rattle.board_store.proofs.Fronts.{front_stops}
use Rattle.board_store.proofs.Held.{given_or, given_says, free_is_unposted}
use Rattle.board_store.proofs.Machine.{IsTakeable, closed_of, reply_taken}
use Rattle.board_store.proofs.NextTask.{none_in_rows}
use Rattle.board_store.proofs.OwnTasks.{IsOwn}
use Rattle.law_parts.proofs.Calls.{own_is_same}

-- ---- a claim finds a task

some_fails : (t : ℕ → Bool) (a n : ℕ) → list_all t (range_with_len a n) ≡ false →
    (k : ℕ) × (a ≤ k) × (k < a + n) × (t k ≡ false)
some_fails t a zero h = absurd (false≢true (sym h))
some_fails t a (suc n) h =
    elim (t a) as (λ b. t a ≡ b → (b && list_all t (range_with_len (a + 1) n)) ≡ false →
    (k : ℕ) × (a ≤ k) × (k < a + suc n) × (t k ≡ false)) [
      | true ↦ λ is rest.
          let r = some_fails t (a + 1) n rest in
          let lo = r.1 in let hi = r.2 in
          (r.0, omega (arith, lo), omega (arith, hi), r.3)
      | false ↦ λ is rest. (a, omega arith, omega arith, is)
    ] refl h

none_of_some : {X : Type 0} (o : Option X) → is_some o ≡ false → o ≡ None
none_of_some None h = refl
none_of_some (Some x) h = absurd (false≢true (sym h))

module _ {P R A : Type 0} (g : Rules P R A) where
  abbrev IsGiven : ClaimReply → Type 0
  IsGiven r = (r ≡ Finished) ⊎ ((n : ℕ) × (u : ℕ) × (r ≡ GivenTask n u))

  past : (n o : ℕ) → (n ≤ o → ⊥) → o < n
  past n o h = elim (cases_lt o n) [ inl less ↦ less | inr more ↦ absurd (h more) ]

  not_finished : (p : Posts A) → is_finished g p ≡ false → closed_front g p < opened g p
  not_finished p h = past (opened g p) (closed_front g p)
      (λ le. false≢true (sym h ∙ le-leb (opened g p) (closed_front g p) le))

  claim_given : (p : Posts A) (held : Holders) → ((n u c : ℕ) → held n u ≡ Some c → (x : ℕ × A) × (p n u ≡ Some x)) →
      IsGiven (claim_from g p held false)
  claim_given p held posted = choose (is_finished g p) refl
    where
      unheld : (n u : ℕ) (o : Option ℕ) → held n u ≡ o → p n u ≡ None → is_none o ≡ true
      unheld n u None is none = refl
      unheld n u (Some c) is none = let x = posted n u c is in let e = x.1 in (cc)

      found : (o : Option (ℕ × ℕ)) → next_task g.units (opened g p) held ≡ o → closed_front g p < opened g p →
          IsGiven (given_or g o)
      found (Some x) is more = inr (x.0, x.1, refl)
      found None is more =
          let n = suc (closed_front g p) in
          let gap = some_fails (λ u. is_some (p n u)) 0 g.units
          (front_stops (is_closed g p) g.budget (omega (arith, more))) in
          let hi = gap.2 in
          let free = unheld n gap.0 (held n gap.0) refl (none_of_some (p n gap.0) gap.3) in
          let none = none_in_rows (λ (x : ℕ × ℕ). is_none (held x.0 x.1)) g.units 1 (opened g p) n gap.0 is
          (omega arith) (omega (arith, more)) (omega (arith, hi)) in
          absurd (false≢true (sym none ∙ free))

      choose : (f : Bool) → is_finished g p ≡ f →
          IsGiven (cond f Finished (given_or g (next_task g.units (opened g p) held)))
      choose true is = inl refl
      choose false is = found (next_task g.units (opened g p) held) refl (not_finished p is)

  pub claims_given : (h : List (Event A)) → IsBetween h → IsGiven (claim_reply g h)
  claims_given h between =
      subst (λ (t : Bool). IsGiven (claim_from g (posts h) (holders h) t)) (sym between.calm)
      (claim_given (posts h) (holders h) between.posted)

  -- ---- the post of the task that was given

  module _ (fits : ℕ → P → A → Type 0) {D : Type 0} (differs : P → Option D) (h : List (Event A)) (c n u : ℕ)
      (a : A) where
    abbrev h1 : List (Event A)
    h1 = h ++ Given c n u ∷ []

    abbrev reply : PostReply D
    reply = post_reply g h1 differs c n u a

    abbrev event : Event A
    event = post_event g (posts h1) c n u a

    only_here : {X : Type 0} (x : X) → only_at n u x n u ≡ Some x
    only_here {X} x = at (n == n && u == u) (grind (arith, nat_tests))
      where
        at : (b : Bool) → b ≡ true → cond b (Some x) None ≡ Some x
        at true h = refl
        at false h = absurd (false≢true h)

    pub given_is_takeable : IsLegal g fits h → claim_reply g h ≡ GivenTask n u →
        differs (prices_at g (posts h) n) ≡ None →
        IsTakeable (opened g (posts h1)) g.units (differs (prices_at g (posts h1) n)) (posts h1 n u) (holders h1 n u) c
        n u
    given_is_takeable legal given same =
        let f = given_says g (posts h) (holders h) (list_any is_halt h) n u given in
        let q : posts h1 ≡ posts h = posts-given h c n u in
        record {
          from_one = f.from_one;
          open_ = subst (λ (p : Posts A). n ≤ opened g p) (sym q) f.open_;
          unit = f.unit;
          same = ap (λ (p : Posts A). differs (prices_at g p n)) q ∙ same;
          first = ap (λ (p : Posts A). p n u) q ∙ free_is_unposted g fits h legal n u f.free;
          held_by = holders-given h c n u n u ∙ ap (λ (o : Option ℕ). sooner o (only_at n u c n u)) f.free ∙
              only_here c;
        }

    pub given_is_taken : IsLegal g fits h → claim_reply g h ≡ GivenTask n u → differs (prices_at g (posts h) n) ≡ None →
        reply ≡ TakenPost (closed_of (is_closed g (with_post (posts h1) c n u a) n) n)
    given_is_taken legal given same = reply_taken g fits h1 differs c n u a (given_is_takeable legal given same)

    event_cases : (Q : Event A → Type 0) → Q (Taken c n u a) → Q (Closing c n u a) → Q event
    event_cases Q taken closing = choose (is_closed g (with_post (posts h1) c n u a) n)
      where
        choose : (t : Bool) → Q (cond t (Closing c n u a) (Taken c n u a))
        choose true = closing
        choose false = taken

    after_posts : posts (h1 ++ event ∷ []) ≡ with_post (posts h1) c n u a
    after_posts = event_cases (λ e. posts (h1 ++ e ∷ []) ≡ with_post (posts h1) c n u a) (posts-taken h1 c n u a)
        (posts-closing h1 c n u a)

    after_holders : holders (h1 ++ event ∷ []) ≡ holders h1
    after_holders = event_cases (λ e. holders (h1 ++ e ∷ []) ≡ holders h1) (holders-taken h1 c n u a)
        (holders-closing h1 c n u a)

    calm_after : (b : Bool) → b ≡ false → (b || (false || false)) ≡ false
    calm_after b h = ap (λ (t : Bool). t || (false || false)) h

    no_halt : list_any is_halt h ≡ false → list_any is_halt (h1 ++ event ∷ []) ≡ false
    no_halt calm =
        event_cases (λ e. list_any is_halt (h1 ++ e ∷ []) ≡ false)
        (list_any-append is_halt h1 (Taken c n u a ∷ []) ∙
        calm_after (list_any is_halt h1) (list_any-append is_halt h (Given c n u ∷ []) ∙
        calm_after (list_any is_halt h) calm))
        (list_any-append is_halt h1 (Closing c n u a ∷ []) ∙
        calm_after (list_any is_halt h1) (list_any-append is_halt h (Given c n u ∷ []) ∙
        calm_after (list_any is_halt h) calm))

    sooner_old : {X : Type 0} (o new : Option X) (x : X) → o ≡ Some x → sooner o new ≡ Some x
    sooner_old None new x h = (cc)
    sooner_old (Some y) new x h = h

    sooner_some : {X : Type 0} (o new : Option X) (x : X) → new ≡ Some x → (y : X) × (sooner o new ≡ Some y)
    sooner_some None new x h = (x, h)
    sooner_some (Some y) new x h = (y, refl)

    sooner_cases : {X : Type 0} (o new : Option X) (x : X) → sooner o new ≡ Some x → (o ≡ Some x) ⊎ (new ≡ Some x)
    sooner_cases None new x h = inr h
    sooner_cases (Some y) new x h = inl h

    all_posted : ((m v d : ℕ) → holders h m v ≡ Some d → (x : ℕ × A) × (posts h m v ≡ Some x)) → (m v d : ℕ) →
        holders h1 m v ≡ Some d → (x : ℕ × A) × (with_post (posts h1) c n u a m v ≡ Some x)
    all_posted posted m v d held =
        elim (sooner_cases (holders h m v) (only_at n u c m v) d (sym (holders-given h c n u m v) ∙ held)) [
          | inl old ↦
              let x = posted m v d old in (
                x.0,
                sooner_old (posts h1 m v) (only_at n u (c, a) m v) x.0
                    (ap (λ (p : Posts A). p m v) (posts-given h c n u) ∙ x.1),
              )
          | inr new ↦
              let e = only_cases n u m v c d new in
              let x : ℕ × A = (c, a) in
              let there : only_at n u x m v ≡ Some x =
              subst (λ (w : ℕ). only_at n u x m w ≡ Some x) e.1
              (subst (λ (k : ℕ). only_at n u x k u ≡ Some x) e.0 (only_here x)) in
              sooner_some (posts h1 m v) (only_at n u x m v) x there
        ]

    pub between_after : IsBetween h → IsBetween (h1 ++ event ∷ [])
    between_after b = record {
      calm = no_halt b.calm;
      posted = λ m v d held.
          let r = all_posted b.posted m v d (ap (λ (k : Holders). k m v) (sym after_holders) ∙ held) in
          (r.0, ap (λ (p : Posts A). p m v) after_posts ∙ r.1);
    }

    count_more : (h : List (Event A)) (e : Event A) →
        posts_in (h ++ e ∷ []) ≡ posts_in h + length (filter is_post (e ∷ []))
    count_more h e = ap length (filter-append is_post h (e ∷ [])) ∙
        length-append (filter is_post h) (filter is_post (e ∷ []))

    pub one_more_post : posts_in (h1 ++ event ∷ []) ≡ posts_in h + 1
    one_more_post =
        event_cases (λ e. posts_in (h1 ++ e ∷ []) ≡ posts_in h + 1)
        (omega (arith, count_more h1 (Taken c n u a), count_more h (Given c n u)))
        (omega (arith, count_more h1 (Closing c n u a), count_more h (Given c n u)))

pub claims_are_given : ClaimsAreGiven
claims_are_given s between = claims_given (rules_of s.setup) s.events between

pub given_is_taken_of : GivenIsTaken
given_is_taken_of s k n u ρ x a legal between given prices unit =
    let g = rules_of s.setup in
    let h = s.events in
    let differs = differs_from s.setup u ρ x in
    let own : IsOwn s.setup (posts h) n u ρ x = record { prices = prices; unit = unit } in
    let events = ap (λ (r : ClaimReply). with_claim h k r) given in
    let taken = given_is_taken g (IsRight Fits s.setup.market) differs h k n u a legal given
    (own_is_same s.setup (posts h) n u ρ x own) in
    let closed = closed_of (is_closed g (with_post (posts (h ++ Given k n u ∷ [])) k n u a) n) n in
    let here : post_reply g (events_after_claim g h k) differs k n u a ≡ TakenPost closed =
    subst (λ (es : List (Event Answer)). post_reply g es differs k n u a ≡ TakenPost closed) (sym events) taken in
    let after : events_after_post g (events_after_claim g h k) differs k n u a ≡ (h ++ Given k n u ∷ []) ++ post_event g
    (posts (h ++ Given k n u ∷ [])) k n u a ∷ [] =
    ap (λ (es : List (Event Answer)). events_after_post g es differs k n u a) events
    ∙ ap (λ (r : PostReply Difference). with_answer (h ++ Given k n u ∷ [])
    (post_event g (posts (h ++ Given k n u ∷ [])) k n u a) r) taken in
    record {
      closed = closed;
      taken = here;
      between = subst (λ (es : List (Event Answer)). IsBetween es) (sym after)
          (between_after g (IsRight Fits s.setup.market) differs h k n u a between);
      one_more = ap (λ (es : List (Event Answer)). posts_in es) after ∙
          one_more_post g (IsRight Fits s.setup.market) differs h k n u a;
    }
