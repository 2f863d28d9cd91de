-- In a legal history each answer fits the prices of its proposal.
use Rattle.board_store.proofs.Common.{◌≡◌, ℕ, ◌<◌, ◌≤◌, Bool, true, false, cond, ◌&&◌, ◌==◌, ◌⊎◌, inl, inr, Option}
use Rattle.board_store.proofs.Common.{Some, None, List, [], ◌∷◌, ◌++◌, refl, sym, ap, ◌∙◌, subst, arith, append_assoc}
use Rattle.board_store.proofs.Common.{nat_tests, append-nil, fun_ext, Extends, Rules, Event, Given, Taken, Closing}
use Rattle.board_store.proofs.Common.{Stopped, sooner, first_some, only_at, given_by, posted_by, Holders, holders}
use Rattle.board_store.proofs.Common.{Posts, posts, with_post, prices_at, opened, IsPost, IsNext, GoesOn, IsLegal}
use Rattle.board_store.proofs.PostsKept.{opened_kept, prices_kept}

pub sooner_none : {X : Type 0} (o : Option X) → sooner o None ≡ o
sooner_none None = refl
sooner_none (Some x) = refl

pub first_some-snoc : {X Y : Type 0} (f : X → Option Y) (xs : List X) (x : X) →
    first_some f (xs ++ x ∷ []) ≡ sooner (first_some f xs) (f x)
first_some-snoc f [] x = sooner_none (f x)
first_some-snoc f (y ∷ ys) x = ap (sooner (f y)) (first_some-snoc f ys x) ∙ later (f y) (first_some f ys) (f x)
  where
    later : {Z : Type 0} (a b c : Option Z) → sooner a (sooner b c) ≡ sooner (sooner a b) c
    later None b c = refl
    later (Some z) b c = refl

module _ {A : Type 0} (h : List (Event A)) where
  pub posts-given : (c n u : ℕ) → posts (h ++ Given c n u ∷ []) ≡ posts h
  posts-given c n u =
      fun_ext (λ m. fun_ext (λ v. first_some-snoc (posted_by m v) h (Given c n u) ∙ sooner_none (posts h m v)))

  pub posts-stopped : (c : ℕ) → posts (h ++ Stopped c ∷ []) ≡ posts h
  posts-stopped c =
      fun_ext (λ m. fun_ext (λ v. first_some-snoc (posted_by m v) h (Stopped c) ∙ sooner_none (posts h m v)))

  pub posts-taken : (c n u : ℕ) (a : A) → posts (h ++ Taken c n u a ∷ []) ≡ with_post (posts h) c n u a
  posts-taken c n u a = fun_ext (λ m. fun_ext (λ v. first_some-snoc (posted_by m v) h (Taken c n u a)))

  pub posts-closing : (c n u : ℕ) (a : A) → posts (h ++ Closing c n u a ∷ []) ≡ with_post (posts h) c n u a
  posts-closing c n u a = fun_ext (λ m. fun_ext (λ v. first_some-snoc (posted_by m v) h (Closing c n u a)))

  pub holders-given : (c n u m v : ℕ) → holders (h ++ Given c n u ∷ []) m v ≡ sooner (holders h m v) (only_at n u c m v)
  holders-given c n u m v = first_some-snoc (given_by m v) h (Given c n u)

  pub holders-taken : (c n u : ℕ) (a : A) → holders (h ++ Taken c n u a ∷ []) ≡ holders h
  holders-taken c n u a =
      fun_ext (λ m. fun_ext (λ v. first_some-snoc (given_by m v) h (Taken c n u a) ∙ sooner_none (holders h m v)))

  pub holders-closing : (c n u : ℕ) (a : A) → holders (h ++ Closing c n u a ∷ []) ≡ holders h
  holders-closing c n u a =
      fun_ext (λ m. fun_ext (λ v. first_some-snoc (given_by m v) h (Closing c n u a) ∙ sooner_none (holders h m v)))

  pub holders-stopped : (c : ℕ) → holders (h ++ Stopped c ∷ []) ≡ holders h
  holders-stopped c =
      fun_ext (λ m. fun_ext (λ v. first_some-snoc (given_by m v) h (Stopped c) ∙ sooner_none (holders h m v)))

pub extends_with : {A : Type 0} (p : Posts A) (c n u : ℕ) (a : A) → Extends p (with_post p c n u a)
extends_with p c n u a m v x e = ap (λ o. sooner o (only_at n u (c, a) m v)) e

-- a post of the posts with one more is an old one, or the new one
pub only_cases : {X : Type 0} (n u m v : ℕ) (x y : X) → only_at n u x m v ≡ Some y → (n ≡ m) × (u ≡ v) × (x ≡ y)
only_cases n u m v x y h = choose (n == m && u == v) h (λ e. grind (arith, nat_tests, e))
  where
    choose : (b : Bool) → cond b (Some x) None ≡ Some y → (b ≡ true → (n ≡ m) × (u ≡ v)) → (n ≡ m) × (u ≡ v) × (x ≡ y)
    choose true e f = ((f refl).0, (f refl).1, (cc))
    choose false e f = (cc)

pub post_cases : {A : Type 0} (p : Posts A) (c n u : ℕ) (a : A) (m v : ℕ) (x : ℕ × A) →
    with_post p c n u a m v ≡ Some x →
    (p m v ≡ Some x) ⊎ ((n ≡ m) × (u ≡ v) × ((c, a) ≡ x))
post_cases {A} p c n u a m v x h = choose (p m v) h
  where
    choose : (o : Option (ℕ × A)) → sooner o (only_at n u (c, a) m v) ≡ Some x →
        (o ≡ Some x) ⊎ ((n ≡ m) × (u ≡ v) × ((c, a) ≡ x))
    choose None e = inr (only_cases n u m v (c, a) x e)
    choose (Some y) e = inl e

module _ {P R A : Type 0} (g : Rules P R A) (fits : ℕ → P → A → Type 0) (d : R) where
  -- an answer of an open proposal that fits its prices
  pub record IsAnswer (p : Posts A) (n u : ℕ) (a : A) : Type 0 where
    pub from_one : 0 < n
    pub open_ : n ≤ opened g p
    pub unit : u < g.units
    pub fit : fits u (prices_at g p n) a

  abbrev pub AllAnswer : Posts A → Type 0
  AllAnswer p = (n u : ℕ) (x : ℕ × A) → p n u ≡ Some x → IsAnswer p n u x.1

  answer_kept : (p q : Posts A) (n u : ℕ) (a : A) → Extends p q → IsAnswer p n u a → IsAnswer q n u a
  answer_kept p q n u a more h = record {
    from_one = h.from_one;
    open_ = let e = opened_kept g d p q more in let o = h.open_ in omega (arith, e, o);
    unit = h.unit;
    fit = subst (λ (π : P). fits u π a) (sym (prices_kept g p q n more h.open_)) h.fit;
  }

  answers_more : (p : Posts A) (held : Holders) (c n u : ℕ) (a : A) → AllAnswer p → IsPost g fits p held c n u a →
      AllAnswer (with_post p c n u a)
  answers_more p held c n u a old post m v x e =
      let q = with_post p c n u a in
      let more = extends_with p c n u a in
      elim (post_cases p c n u a m v x e) [
        | inl was ↦ answer_kept p q m v x.1 more (old m v x was)
        | inr new ↦
            let here : IsAnswer p n u a =
            record { from_one = post.from_one; open_ = post.open_; unit = post.unit; fit = post.fit } in
            let there = answer_kept p q n u a more here in
            subst (λ (y : ℕ × A). IsAnswer q m v y.1) new.2
            (subst (λ (k : ℕ). IsAnswer q m k a) new.1 (subst (λ (k : ℕ). IsAnswer q k u a) new.0 there))
      ]

  step : (h : List (Event A)) (e : Event A) → AllAnswer (posts h) → IsNext g fits h e → AllAnswer (posts (h ++ e ∷ []))
  step h (Given c n u) old next = subst AllAnswer (sym (posts-given h c n u)) old
  step h (Taken c n u a) old next =
      subst AllAnswer (sym (posts-taken h c n u a)) (answers_more (posts h) (holders h) c n u a old next.1)
  step h (Closing c n u a) old next =
      subst AllAnswer (sym (posts-closing h c n u a)) (answers_more (posts h) (holders h) c n u a old next.1)
  step h (Stopped c) old next = subst AllAnswer (sym (posts-stopped h c)) old

  goes_on : (h es : List (Event A)) → AllAnswer (posts h) → GoesOn g fits h es → AllAnswer (posts (h ++ es))
  goes_on h [] old next = subst (λ (z : List (Event A)). AllAnswer (posts z)) (sym (append-nil h)) old
  goes_on h (e ∷ es) old next =
      subst (λ (z : List (Event A)). AllAnswer (posts z)) (append_assoc h (e ∷ []) es)
      (goes_on (h ++ e ∷ []) es (step h e old next.0) next.1)

  pub all_answer : (h : List (Event A)) → IsLegal g fits h → AllAnswer (posts h)
  all_answer h legal = goes_on [] h (λ n u x e. (cc)) legal
