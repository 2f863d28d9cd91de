-- A finished history stays finished.
use Rattle.board_store.proofs.Common.{◌≡◌, ℕ, suc, ◌-◌, ◌≤◌, Bool, true, false, cond, Option, Some, None, List, []}
use Rattle.board_store.proofs.Common.{◌∷◌, ◌++◌, sym, subst, arith, append_assoc, false≢true, leb-true, append-nil}
use Rattle.board_store.proofs.Common.{Rules, Event, Given, Taken, Closing, Stopped, Holders, holders, Posts, posts}
use Rattle.board_store.proofs.Common.{is_closed, closed_front, opened, is_finished, ClaimReply, Finished, GivenTask}
use Rattle.board_store.proofs.Common.{IsPost, IsNext, GoesOn, IsLegal}
use Rattle.board_store.proofs.Answered.{posts-stopped}
use Rattle.board_store.proofs.PostsKept.{post_of, front_closed}

none_some : {X : Type 0} (o : Option X) (x : X) → o ≡ Some x → o ≡ None → ⊥
none_some o x h i = (cc)

module _ {P R A : Type 0} (g : Rules P R A) (fits : ℕ → P → A → Type 0) where
  no_post : (p : Posts A) (held : Holders) (c n u : ℕ) (a : A) → is_finished g p ≡ true → IsPost g fits p held c n u a →
      ⊥
  no_post p held c n u a fin post =
      let within : opened g p ≤ closed_front g p = leb-true (opened g p) (closed_front g p) fin in
      let lo = post.from_one in let hi = post.open_ in
      let closed : is_closed g p (suc (n - 1)) ≡ true = front_closed g p (n - 1) (omega (arith, within, lo, hi)) in
      let e : suc (n - 1) ≡ n = omega (arith, lo) in
      let x = post_of g p n u (subst (λ (k : ℕ). is_closed g p k ≡ true) e closed) post.unit in
      none_some (p n u) x.0 x.1 post.first

  no_claim : (f : Bool) (rest : ClaimReply) (n u : ℕ) → f ≡ true → cond f Finished rest ≡ GivenTask n u → ⊥
  no_claim true rest n u h is = (cc)
  no_claim false rest n u h is = false≢true h

  only_halts : (h : List (Event A)) (e : Event A) → is_finished g (posts h) ≡ true → IsNext g fits h e →
      posts (h ++ e ∷ []) ≡ posts h
  only_halts h (Given c n u) fin next = absurd (no_claim (is_finished g (posts h)) _ n u fin next.1)
  only_halts h (Taken c n u a) fin next = absurd (no_post (posts h) (holders h) c n u a fin next.1)
  only_halts h (Closing c n u a) fin next = absurd (no_post (posts h) (holders h) c n u a fin next.1)
  only_halts h (Stopped c) fin next = posts-stopped h c

  pub finished_stays : (h es : List (Event A)) → GoesOn g fits h es → is_finished g (posts h) ≡ true →
      is_finished g (posts (h ++ es)) ≡ true
  finished_stays h [] goes fin = subst (λ (z : List (Event A)). is_finished g (posts z) ≡ true) (sym (append-nil h)) fin
  finished_stays h (e ∷ es) goes fin =
      subst (λ (z : List (Event A)). is_finished g (posts z) ≡ true) (append_assoc h (e ∷ []) es)
      (finished_stays (h ++ e ∷ []) es goes.1
      (subst (λ (q : Posts A). is_finished g q ≡ true) (sym (only_halts h e fin goes.0)) fin))

  -- one more event
  pub goes_more : (h es : List (Event A)) (e : Event A) → GoesOn g fits h es → IsNext g fits (h ++ es) e →
      GoesOn g fits h (es ++ e ∷ [])
  goes_more h [] e goes next = (subst (λ (z : List (Event A)). IsNext g fits z e) (append-nil h) next, tt)
  goes_more h (x ∷ es) e goes next = (
    goes.0,
    goes_more (h ++ x ∷ []) es e goes.1
        (subst (λ (z : List (Event A)). IsNext g fits z e) (sym (append_assoc h (x ∷ []) es)) next),
  )

  pub legal_more : (h : List (Event A)) (e : Event A) → IsLegal g fits h → IsNext g fits h e →
      IsLegal g fits (h ++ e ∷ [])
  legal_more h e legal next = goes_more [] h e legal next

  -- what goes on from a legal history goes on legally
  pub goes_after : (h es later : List (Event A)) → GoesOn g fits h (es ++ later) → GoesOn g fits (h ++ es) later
  goes_after h [] later goes = subst (λ (z : List (Event A)). GoesOn g fits z later) (sym (append-nil h)) goes
  goes_after h (e ∷ es) later goes = subst (λ (z : List (Event A)). GoesOn g fits z later) (append_assoc h (e ∷ []) es)
      (goes_after (h ++ e ∷ []) es later goes.1)
