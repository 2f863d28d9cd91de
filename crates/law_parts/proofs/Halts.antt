-- Halts change nothing.
use Rattle.law_parts.proofs.Common.{◌≡◌, ℕ, ◌<◌, Bool, true, false, cond, Option, None, List, [], ◌∷◌, ◌++◌, refl, sym}
use Rattle.law_parts.proofs.Common.{ap, ◌∙◌, subst, false≢true, append-nil, fun_ext, list_any, filter, option_map_or}
use Rattle.law_parts.proofs.Common.{not, Rules, Event, Given, Taken, Closing, Stopped, sooner, first_some, given_by}
use Rattle.law_parts.proofs.Common.{posted_by, is_halt, Holders, holders, Posts, posts, with_post, is_closed, opened}
use Rattle.law_parts.proofs.Common.{is_finished, Finished, Halted, GivenTask, NotYet, next_task, claim_from, IsPost}
use Rattle.law_parts.proofs.Common.{IsNext, GoesOn, IsLegal, rows_of, units, Fits, Answer, rules_of, IsRight}
use Rattle.law_parts.proofs.Common.{HaltsChangeNothing}

module _ {P R A : Type 0} (g : Rules P R A) (fits : ℕ → P → A → Type 0) where
  abbrev pub works : List (Event A) → List (Event A)
  works h = filter (λ (e : Event A). not (is_halt e)) h

  works-append : (h es : List (Event A)) → works (h ++ es) ≡ works h ++ works es
  works-append [] es = refl
  works-append (Given c n u ∷ h) es = ap (λ (z : List (Event A)). Given c n u ∷ z) (works-append h es)
  works-append (Taken c n u a ∷ h) es = ap (λ (z : List (Event A)). Taken c n u a ∷ z) (works-append h es)
  works-append (Closing c n u a ∷ h) es = ap (λ (z : List (Event A)). Closing c n u a ∷ z) (works-append h es)
  works-append (Stopped c ∷ h) es = works-append h es

  first_some-works : {Y : Type 0} (f : Event A → Option Y) → ((c : ℕ) → f (Stopped c) ≡ None) → (h : List (Event A)) →
      first_some f (works h) ≡ first_some f h
  first_some-works f none [] = refl
  first_some-works f none (Given c n u ∷ h) = ap (sooner (f (Given c n u))) (first_some-works f none h)
  first_some-works f none (Taken c n u a ∷ h) = ap (sooner (f (Taken c n u a))) (first_some-works f none h)
  first_some-works f none (Closing c n u a ∷ h) = ap (sooner (f (Closing c n u a))) (first_some-works f none h)
  first_some-works {Y} f none (Stopped c ∷ h) =
      first_some-works f none h ∙ ap (λ (o : Option Y). sooner o (first_some f h)) (sym (none c))

  pub posts-works : (h : List (Event A)) → posts (works h) ≡ posts h
  posts-works h = fun_ext (λ n. fun_ext (λ u. first_some-works (posted_by n u) (λ c. refl) h))

  holders-works : (h : List (Event A)) → holders (works h) ≡ holders h
  holders-works h = fun_ext (λ n. fun_ext (λ u. first_some-works (given_by n u) (λ c. refl) h))

  no_halts : (h : List (Event A)) → list_any is_halt (works h) ≡ false
  no_halts [] = refl
  no_halts (Given c n u ∷ h) = no_halts h
  no_halts (Taken c n u a ∷ h) = no_halts h
  no_halts (Closing c n u a ∷ h) = no_halts h
  no_halts (Stopped c ∷ h) = no_halts h

  -- a claim that was given is given where there is no halt too
  given_unhalted : (p : Posts A) (held : Holders) (halted : Bool) (n u : ℕ) →
      claim_from g p held halted ≡ GivenTask n u → claim_from g p held false ≡ GivenTask n u
  given_unhalted p held halted n u is = choose (is_finished g p) halted is
    where
      choose : (f t : Bool) →
          cond f Finished
          (cond t Halted (option_map_or (λ (x : ℕ × ℕ). GivenTask x.0 x.1) (next_task g.units (opened g p) held)
          NotYet)) ≡ GivenTask n u →
          cond f Finished (option_map_or (λ (x : ℕ × ℕ). GivenTask x.0 x.1) (next_task g.units (opened g p) held)
          NotYet) ≡ GivenTask n u
      choose true t e = e
      choose false true e = (cc)
      choose false false e = e

  next_works : (h : List (Event A)) (e : Event A) → is_halt e ≡ false → IsNext g fits h e → IsNext g fits (works h) e
  next_works h (Given c n u) calm next = (
    next.0,
    subst (λ (p : Posts A). claim_from g p (holders (works h)) (list_any is_halt (works h)) ≡ GivenTask n u)
        (sym (posts-works h))
        (subst (λ (held : Holders). claim_from g (posts h) held (list_any is_halt (works h)) ≡ GivenTask n u)
        (sym (holders-works h))
        (subst (λ (t : Bool). claim_from g (posts h) (holders h) t ≡ GivenTask n u) (sym (no_halts h))
        (given_unhalted (posts h) (holders h) (list_any is_halt h) n u next.1))),
  )
  next_works h (Taken c n u a) calm next =
      subst (λ (p : Posts A). (c < g.callers) × IsPost g fits p (holders (works h)) c n u a ×
      (is_closed g (with_post p c n u a) n ≡ false)) (sym (posts-works h))
      (subst (λ (held : Holders). (c < g.callers) × IsPost g fits (posts h) held c n u a ×
      (is_closed g (with_post (posts h) c n u a) n ≡ false)) (sym (holders-works h)) next)
  next_works h (Closing c n u a) calm next =
      subst (λ (p : Posts A). (c < g.callers) × IsPost g fits p (holders (works h)) c n u a ×
      (is_closed g (with_post p c n u a) n ≡ true)) (sym (posts-works h))
      (subst (λ (held : Holders). (c < g.callers) × IsPost g fits (posts h) held c n u a ×
      (is_closed g (with_post (posts h) c n u a) n ≡ true)) (sym (holders-works h)) next)
  next_works h (Stopped c) calm next = absurd (false≢true (sym calm))

  works-go : (h es : List (Event A)) → GoesOn g fits h es → GoesOn g fits (works h) (works es)
  works-go h [] goes = tt
  works-go h (Given c n u ∷ es) goes = (
    next_works h (Given c n u) refl goes.0,
    subst (λ (z : List (Event A)). GoesOn g fits z (works es))
        (works-append h (Given c n u ∷ [])) (works-go (h ++ Given c n u ∷ []) es goes.1),
  )
  works-go h (Taken c n u a ∷ es) goes = (
    next_works h (Taken c n u a) refl goes.0,
    subst (λ (z : List (Event A)). GoesOn g fits z (works es))
        (works-append h (Taken c n u a ∷ [])) (works-go (h ++ Taken c n u a ∷ []) es goes.1),
  )
  works-go h (Closing c n u a ∷ es) goes = (
    next_works h (Closing c n u a) refl goes.0,
    subst (λ (z : List (Event A)). GoesOn g fits z (works es))
        (works-append h (Closing c n u a ∷ [])) (works-go (h ++ Closing c n u a ∷ []) es goes.1),
  )
  works-go h (Stopped c ∷ es) goes =
      subst (λ (z : List (Event A)). GoesOn g fits z (works es))
      (works-append h (Stopped c ∷ []) ∙ append-nil (works h)) (works-go (h ++ Stopped c ∷ []) es goes.1)

  -- a legal history without its halts is legal
  pub works_legal : (h : List (Event A)) → IsLegal g fits h → IsLegal g fits (works h)
  works_legal h legal = works-go [] h legal

pub halts_nothing : HaltsChangeNothing Fits
halts_nothing b h legal = (
  works_legal (rules_of b) (IsRight Fits b.market) h legal,
  ap (λ (q : Posts Answer). rows_of (rules_of b) q) (posts-works (rules_of b) (IsRight Fits b.market) h),
)
