-- Who holds and who posted a task in a legal history, and what a claim that is given tells.
use Rattle.board_store.proofs.Common.{◌≡◌, ℕ, ◌<◌, ◌≤◌, Bool, true, false, cond, ◌⊎◌, inl, inr, Option, Some, None}
use Rattle.board_store.proofs.Common.{List, [], ◌∷◌, ◌++◌, refl, sym, ap, ◌∙◌, subst, arith, append_assoc, false≢true}
use Rattle.board_store.proofs.Common.{append-nil, list_any, option_map_or, is_none, IsOpenTask, is_halt, claim_reply}
use Rattle.board_store.proofs.Common.{Rules, Event, Given, Taken, Closing, Stopped, sooner, only_at, Holders, holders}
use Rattle.board_store.proofs.Common.{Posts, posts, with_post, opened, is_finished, ClaimReply, Finished, Halted}
use Rattle.board_store.proofs.Common.{GivenTask, NotYet, next_task, claim_from, IsPost, IsNext, GoesOn, IsLegal}
use Rattle.board_store.proofs.Answered.{posts-given, posts-stopped, posts-taken, posts-closing, holders-given}
use Rattle.board_store.proofs.Answered.{holders-taken, holders-closing, holders-stopped, extends_with, only_cases}
use Rattle.board_store.proofs.Answered.{post_cases}
use Rattle.board_store.proofs.PostsKept.{opened_kept}
use Rattle.board_store.proofs.NextTask.{found_in_rows}

-- ---- what the first task that isn't held tells

pub not_none : {X : Type 0} (o : Option X) → is_none o ≡ true → o ≡ None
not_none None h = refl
not_none (Some x) h = absurd (false≢true h)

module _ {P R A : Type 0} (g : Rules P R A) where
  -- a task that a claim gives
  pub record IsFree (p : Posts A) (held : Holders) (n u : ℕ) : Type 0 where
    pub from_one : 0 < n
    pub open_ : n ≤ opened g p
    pub unit : u < g.units
    pub free : held n u ≡ None

  abbrev pub given_or : Option (ℕ × ℕ) → ClaimReply
  given_or o = option_map_or (λ (x : ℕ × ℕ). GivenTask x.0 x.1) o NotYet

  pub is_given : (o : Option (ℕ × ℕ)) (n u : ℕ) → given_or o ≡ GivenTask n u → o ≡ Some (n, u)
  is_given None n u h = (cc)
  is_given (Some x) n u h = let e : x.0 ≡ n = (cc) in let f : x.1 ≡ u = (cc) in
      ap (λ (y : ℕ × ℕ). Some y) (λ i. (e i, f i))

  pub given_says : (p : Posts A) (held : Holders) (halted : Bool) (n u : ℕ) →
      claim_from g p held halted ≡ GivenTask n u → IsFree p held n u
  given_says p held halted n u h = choose (is_finished g p) halted h
    where
      found : next_task g.units (opened g p) held ≡ Some (n, u) → IsFree p held n u
      found e =
          let r = found_in_rows (λ (x : ℕ × ℕ). is_none (held x.0 x.1)) g.units 1 (opened g p) n u e in
          let lo = r.from in let hi = r.to in
          record {
            from_one = omega (arith, lo);
            open_ = omega (arith, hi);
            unit = r.unit;
            free =
                not_none (held n u) r.passes;
          }

      choose : (f t : Bool) → cond f Finished
          (cond t Halted (given_or (next_task g.units (opened g p) held))) ≡ GivenTask n u → IsFree p held n u
      choose true t e = (cc)
      choose false true e = (cc)
      choose false false e = found (is_given (next_task g.units (opened g p) held) n u e)

-- ---- legal histories, event by event

module _ {P R A : Type 0} (g : Rules P R A) (fits : ℕ → P → A → Type 0) where
  along_from : (Q : List (Event A) → Type 0) →
      ((h : List (Event A)) (e : Event A) → Q h → IsNext g fits h e → Q (h ++ e ∷ [])) → (h es : List (Event A)) → Q h →
      GoesOn g fits h es → Q (h ++ es)
  along_from Q step h [] now goes = subst Q (sym (append-nil h)) now
  along_from Q step h (e ∷ es) now goes =
      subst Q (append_assoc h (e ∷ []) es) (along_from Q step (h ++ e ∷ []) es (step h e now goes.0) goes.1)

  -- what holds of no events and of one more holds of a legal history
  pub along : (Q : List (Event A) → Type 0) → Q [] →
      ((h : List (Event A)) (e : Event A) → Q h → IsNext g fits h e → Q (h ++ e ∷ [])) → (h : List (Event A)) →
      IsLegal g fits h → Q h
  along Q none step h legal = along_from Q step [] h none legal

-- ---- what is posted is held

abbrev pub PostsAreHeld : {A : Type 0} → Posts A → Holders → Type 0
PostsAreHeld {A} p held = (n u : ℕ) (x : ℕ × A) → p n u ≡ Some x → held n u ≡ Some x.0

module _ {P R A : Type 0} (g : Rules P R A) (fits : ℕ → P → A → Type 0) where
  post_held : (p : Posts A) (held : Holders) (c n u : ℕ) (a : A) → PostsAreHeld p held → IsPost g fits p held c n u a →
      PostsAreHeld (with_post p c n u a) held
  post_held p held c n u a old post m v x e =
      elim (post_cases p c n u a m v x e) [
        | inl was ↦ old m v x was
        | inr new ↦
            subst (λ (y : ℕ × A). held m v ≡ Some y.0) new.2
            (subst (λ (k : ℕ). held m k ≡ Some c) new.1 (subst (λ (k : ℕ). held k u ≡ Some c) new.0 post.held_by))
      ]

  stays_held : (o new : Option ℕ) (c : ℕ) → o ≡ Some c → sooner o new ≡ Some c
  stays_held None new c h = (cc)
  stays_held (Some d) new c h = h

  held_step : (h : List (Event A)) (e : Event A) → PostsAreHeld (posts h) (holders h) → IsNext g fits h e →
      PostsAreHeld (posts (h ++ e ∷ [])) (holders (h ++ e ∷ []))
  held_step h (Given c n u) old next =
      λ m v x e. holders-given h c n u m v ∙ stays_held (holders h m v) (only_at n u c m v) x.0
      (old m v x (ap (λ (p : Posts A). p m v) (sym (posts-given h c n u)) ∙ e))
  held_step h (Taken c n u a) old next =
      subst (λ (p : Posts A). PostsAreHeld p (holders (h ++ Taken c n u a ∷ []))) (sym (posts-taken h c n u a))
      (subst (λ (k : Holders). PostsAreHeld (with_post (posts h) c n u a) k) (sym (holders-taken h c n u a))
      (post_held (posts h) (holders h) c n u a old next.1))
  held_step h (Closing c n u a) old next =
      subst (λ (p : Posts A). PostsAreHeld p (holders (h ++ Closing c n u a ∷ []))) (sym (posts-closing h c n u a))
      (subst (λ (k : Holders). PostsAreHeld (with_post (posts h) c n u a) k) (sym (holders-closing h c n u a))
      (post_held (posts h) (holders h) c n u a old next.1))
  held_step h (Stopped c) old next =
      subst (λ (p : Posts A). PostsAreHeld p (holders (h ++ Stopped c ∷ []))) (sym (posts-stopped h c))
      (subst (λ (k : Holders). PostsAreHeld (posts h) k) (sym (holders-stopped h c)) old)

  -- the caller who posted an answer holds the task
  pub posted_is_held : (h : List (Event A)) → IsLegal g fits h → PostsAreHeld (posts h) (holders h)
  posted_is_held h legal = along g fits (λ z. PostsAreHeld (posts z) (holders z)) (λ n u x e. (cc)) held_step h legal

  -- a task that nobody holds has no answer
  pub free_is_unposted : (h : List (Event A)) → IsLegal g fits h → (n u : ℕ) → holders h n u ≡ None → posts h n u ≡ None
  free_is_unposted h legal n u free = choose (posts h n u) refl
    where
      choose : (o : Option (ℕ × A)) → posts h n u ≡ o → posts h n u ≡ None
      choose None is = is
      choose (Some x) is = let e = posted_is_held h legal n u x is in (cc)

  -- ---- what is held is a task of an open proposal

  abbrev HeldAreOpen : Posts A → Holders → Type 0
  HeldAreOpen p held = (n u c : ℕ) → held n u ≡ Some c → IsOpenTask g p n u

  sooner_cases : {X : Type 0} (o new : Option X) (x : X) → sooner o new ≡ Some x → (o ≡ Some x) ⊎ (new ≡ Some x)
  sooner_cases None new x h = inr h
  sooner_cases (Some y) new x h = inl h

  open_given : (h : List (Event A)) (c n u : ℕ) → HeldAreOpen (posts h) (holders h) → claim_reply g h ≡ GivenTask n u →
      HeldAreOpen (posts h) (holders (h ++ Given c n u ∷ []))
  open_given h c n u old given m v d held =
      elim (sooner_cases (holders h m v) (only_at n u c m v) d (sym (holders-given h c n u m v) ∙ held)) [
        | inl was ↦ old m v d was
        | inr new ↦
            let f = given_says g (posts h) (holders h) (list_any is_halt h) n u given in
            let e = only_cases n u m v c d new in
            subst (λ (w : ℕ). IsOpenTask g (posts h) m w) e.1
            (subst (λ (k : ℕ). IsOpenTask g (posts h) k u) e.0
            (record { from_one = f.from_one; open_ = f.open_; unit = f.unit }))
      ]

  module _ (d : R) where
    open_more : (p : Posts A) (held : Holders) (c n u : ℕ) (a : A) → HeldAreOpen p held →
        HeldAreOpen (with_post p c n u a) held
    open_more p held c n u a old m v k h =
        let t = old m v k h in
        let o = t.open_ in
        let more = opened_kept g d p (with_post p c n u a) (extends_with p c n u a) in
        record { from_one = t.from_one; open_ = omega (arith, o, more); unit = t.unit }

    open_step : (h : List (Event A)) (e : Event A) → HeldAreOpen (posts h) (holders h) → IsNext g fits h e →
        HeldAreOpen (posts (h ++ e ∷ [])) (holders (h ++ e ∷ []))
    open_step h (Given c n u) old next =
        subst (λ (p : Posts A). HeldAreOpen p (holders (h ++ Given c n u ∷ []))) (sym (posts-given h c n u))
        (open_given h c n u old next.1)
    open_step h (Taken c n u a) old next =
        subst (λ (p : Posts A). HeldAreOpen p (holders (h ++ Taken c n u a ∷ []))) (sym (posts-taken h c n u a))
        (subst (λ (k : Holders). HeldAreOpen (with_post (posts h) c n u a) k) (sym (holders-taken h c n u a))
        (open_more (posts h) (holders h) c n u a old))
    open_step h (Closing c n u a) old next =
        subst (λ (p : Posts A). HeldAreOpen p (holders (h ++ Closing c n u a ∷ []))) (sym (posts-closing h c n u a))
        (subst (λ (k : Holders). HeldAreOpen (with_post (posts h) c n u a) k) (sym (holders-closing h c n u a))
        (open_more (posts h) (holders h) c n u a old))
    open_step h (Stopped c) old next =
        subst (λ (p : Posts A). HeldAreOpen p (holders (h ++ Stopped c ∷ []))) (sym (posts-stopped h c))
        (subst (λ (k : Holders). HeldAreOpen (posts h) k) (sym (holders-stopped h c)) old)

    pub held_is_open : (h : List (Event A)) → IsLegal g fits h → (n u c : ℕ) → holders h n u ≡ Some c →
        IsOpenTask g (posts h) n u
    held_is_open h legal = along g fits (λ z. HeldAreOpen (posts z) (holders z)) (λ n u c e. (cc)) open_step h legal
