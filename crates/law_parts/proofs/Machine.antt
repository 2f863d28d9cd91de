-- The machine's calls and the legal next events are one: what a call appends is legal, and each legal event is what a
-- call appends. And what each answer of a post says.
use Rattle.law_parts.proofs.Common.{◌≡◌, ℕ, ◌<◌, ◌≤◌, Bool, true, false, cond, ◌⊎◌, inl, inr, ◌||◌, ◌==◌, ◌↔◌, Option}
use Rattle.law_parts.proofs.Common.{Some, None, List, [], ◌∷◌, ◌++◌, length, refl, ap, ◌∙◌, arith, length-append}
use Rattle.law_parts.proofs.Common.{nat_tests, append_cancel_left, list_any, nat_le, nat_lt, Rules, Event, Given, Taken}
use Rattle.law_parts.proofs.Common.{Closing, Stopped, is_halt_of, holders, Posts, posts, with_post, is_closed}
use Rattle.law_parts.proofs.Common.{prices_at, opened, ClaimReply, Finished, Halted, GivenTask, NotYet, claim_reply}
use Rattle.law_parts.proofs.Common.{with_claim, events_after_claim, PostReply, OtherProposal, OtherUnit, OtherContent}
use Rattle.law_parts.proofs.Common.{Doubled, OtherHolder, TakenPost, is_holder, post_reply, post_event, with_answer}
use Rattle.law_parts.proofs.Common.{events_after_post, events_after_halt, IsPost, IsNext, IsLegal, no_difference}
use Rattle.law_parts.proofs.Common.{IsMachineStep, IsOpenTask, PostSays}
use Rattle.board_store.proofs.Machine.{not_past, not_past_unit, same_number, is_holder_of, IsTaken, reply_taken}
use Rattle.board_store.proofs.Machine.{reply_says, last, doubled, content}
use Rattle.board_store.proofs.Stays.{legal_more}

-- a list isn't itself with one more
longer : {X Y : Type 0} (h : List X) (e : X) → h ≡ h ++ e ∷ [] → Y
longer h e same = let l = ap length same in absurd (omega (arith, l, length-append h (e ∷ [])))

-- two lists that end in one item each
last_same : {X : Type 0} (h : List X) (e f : X) → h ++ e ∷ [] ≡ h ++ f ∷ [] → e ≡ f
last_same h e f same = let l = append_cancel_left h (e ∷ []) (f ∷ []) same in (cc)

-- ---- the refusals of a post

past : (n o : ℕ) → (n ≡ 0) ⊎ (o < n) → ((n == 0) || nat_lt o n) ≡ true
past n o (inl h) = grind (arith, nat_tests)
past n o (inr h) = grind (arith, nat_tests)

past_unit : (m u : ℕ) → m ≤ u → nat_le m u ≡ true
past_unit m u h = grind (arith, nat_tests)

not_holder : (o : Option ℕ) (c : ℕ) → (o ≡ Some c → ⊥) → is_holder o c ≡ false
not_holder None c h = refl
not_holder (Some d) c h = choose (d == c) refl
  where
    choose : (t : Bool) → (d == c) ≡ t → t ≡ false
    choose true is = absurd (h (ap (λ (x : ℕ). Some x) (same_number d c is)))
    choose false is = refl

module _ {P R A D : Type 0} (g : Rules P R A) (h : List (Event A)) (differs : P → Option D) (c n u : ℕ) (a : A) where
  abbrev p : Posts A
  p = posts h

  abbrev o : ℕ
  o = opened g p

  abbrev own : Option D
  own = differs (prices_at g p n)

  abbrev ends : Bool
  ends = is_closed g (with_post p c n u a) n

  abbrev with_holder : Bool → PostReply D
  with_holder t = last o g.units own (p n u) (holders h n u) ends c n u t

  abbrev with_poster : Option (ℕ × A) → PostReply D
  with_poster x = doubled o g.units own (p n u) (holders h n u) ends c n u x

  abbrev with_content : Option D → PostReply D
  with_content d = content o g.units own (p n u) (holders h n u) ends c n u d

  in_proposal : 0 < n → n ≤ o →
      post_reply g h differs c n u a ≡ cond (nat_le g.units u) (OtherUnit u g.units) (with_content own)
  in_proposal low high =
      ap (λ (b : Bool). cond b (OtherProposal n o) (cond (nat_le g.units u) (OtherUnit u g.units) (with_content own)))
      (not_past n o low high)

  in_task : IsOpenTask g p n u → post_reply g h differs c n u a ≡ with_content own
  in_task t = in_proposal t.from_one t.open_ ∙
      ap (λ (b : Bool). cond b (OtherUnit u g.units) (with_content own)) (not_past_unit g.units u t.unit)

  in_content : IsOpenTask g p n u → own ≡ None → post_reply g h differs c n u a ≡ with_poster (p n u)
  in_content t same = in_task t ∙ ap with_content same

  in_first : IsOpenTask g p n u → own ≡ None → p n u ≡ None →
      post_reply g h differs c n u a ≡ with_holder (is_holder (holders h n u) c)
  in_first t same first = in_content t same ∙ ap with_poster first

  pub post_says : PostSays g h differs c n u a
  post_says = record {
    proposal = λ i. ap (λ (b : Bool). cond b (OtherProposal n o)
        (cond (nat_le g.units u) (OtherUnit u g.units) (with_content own))) (past n o i);
    unit = λ low high i. in_proposal low high ∙
        ap (λ (b : Bool). cond b (OtherUnit u g.units) (with_content own)) (past_unit g.units u i);
    content = λ t d e. in_task t ∙ ap with_content e;
    doubled = λ t same x e. in_content t same ∙ ap with_poster e;
    holder = λ t same first other. in_first t same first ∙ ap with_holder (not_holder (holders h n u) c other);
    taken = λ t same first held. in_first t same first ∙ ap with_holder (is_holder_of (holders h n u) c held);
  }

-- ---- what calls append

-- an event that a post appended was that of a post that is taken
appended : {D A : Type 0} (h : List (Event A)) (e f : Event A) (r : PostReply D) → with_answer h e r ≡ h ++ f ∷ [] →
    (closed : Option ℕ) × (r ≡ TakenPost closed) × (e ≡ f)
appended h e f (OtherProposal n o) same = longer h f same
appended h e f (OtherUnit u m) same = longer h f same
appended h e f (OtherContent d) same = longer h f same
appended h e f (Doubled d) same = longer h f same
appended h e f (OtherHolder c d) same = longer h f same
appended h e f (TakenPost closed) same = (closed, refl, last_same h e f same)

event_open : {A : Type 0} (t : Bool) (c n u : ℕ) (a : A) → cond t (Closing c n u a) (Taken c n u a) ≡ Taken c n u a →
    t ≡ false
event_open true c n u a h = (cc)
event_open false c n u a h = refl

event_closing : {A : Type 0} (t : Bool) (c n u : ℕ) (a : A) →
    cond t (Closing c n u a) (Taken c n u a) ≡ Closing c n u a → t ≡ true
event_closing true c n u a h = refl
event_closing false c n u a h = (cc)

given_event : {A : Type 0} (h : List (Event A)) (c n u : ℕ) (r : ClaimReply) →
    with_claim h c r ≡ h ++ Given c n u ∷ [] → r ≡ GivenTask n u
given_event h c n u Finished same = longer h (Given c n u) same
given_event h c n u Halted same = longer h (Given c n u) same
given_event h c n u (GivenTask m v) same =
    let e = last_same h (Given c m v) (Given c n u) same in
    let a : m ≡ n = (cc) in let b : v ≡ u = (cc) in ap (λ (x : ℕ). GivenTask x v) a ∙ ap (λ (x : ℕ). GivenTask n x) b
given_event h c n u NotYet same = longer h (Given c n u) same

halt_event : {A : Type 0} (h : List (Event A)) (c : ℕ) (t : Bool) →
    cond t h (h ++ Stopped c ∷ []) ≡ h ++ Stopped c ∷ [] → t ≡ false
halt_event h c true same = longer h (Stopped c) same
halt_event h c false same = refl

module _ {P R A : Type 0} (g : Rules P R A) (fits : ℕ → P → A → Type 0) (h : List (Event A)) where
  module _ {D : Type 0} (differs : P → Option D) (c n u : ℕ) (a : A) where
    post_of_taken : IsTaken g fits h differs c n u a → fits u (prices_at g (posts h) n) a →
        IsPost g fits (posts h) (holders h) c n u a
    post_of_taken t fit = record {
      from_one = t.from_one;
      open_ = t.open_;
      unit = t.unit;
      held_by = t.held_by;
      first =
          t.first;
      fit = fit;
    }

    taken_of_post : differs (prices_at g (posts h) n) ≡ None → IsPost g fits (posts h) (holders h) c n u a →
        IsTaken g fits h differs c n u a
    taken_of_post same t = record {
      from_one = t.from_one;
      open_ = t.open_;
      unit = t.unit;
      same = same;
      first = t.first;
      held_by = t.held_by;
    }

    -- the event of a post that is taken is a legal one
    pub event_is_next : c < g.callers → IsPost g fits (posts h) (holders h) c n u a →
        IsNext g fits h (post_event g (posts h) c n u a)
    event_is_next caller post = choose (is_closed g (with_post (posts h) c n u a) n) refl
      where
        choose : (t : Bool) → is_closed g (with_post (posts h) c n u a) n ≡ t →
            IsNext g fits h (cond t (Closing c n u a) (Taken c n u a))
        choose true is = (caller, post, is)
        choose false is = (caller, post, is)

    -- a post keeps a history legal, where an answer that is taken fits
    pub post_stays : c < g.callers → IsLegal g fits h →
        (IsTaken g fits h differs c n u a → fits u (prices_at g (posts h) n) a) →
        IsLegal g fits (events_after_post g h differs c n u a)
    post_stays caller legal fit = choose (post_reply g h differs c n u a) refl
      where
        choose : (r : PostReply D) → post_reply g h differs c n u a ≡ r →
            IsLegal g fits (with_answer h (post_event g (posts h) c n u a) r)
        choose (OtherProposal m o) is = legal
        choose (OtherUnit v m) is = legal
        choose (OtherContent d) is = legal
        choose (Doubled d) is = legal
        choose (OtherHolder d k) is = legal
        choose (TakenPost closed) is =
            let t = reply_says g fits h differs c n u a closed is in
            legal_more g fits h (post_event g (posts h) c n u a) legal (event_is_next caller (post_of_taken t (fit t)))

  pub claim_stays : (c : ℕ) → c < g.callers → IsLegal g fits h → IsLegal g fits (events_after_claim g h c)
  claim_stays c caller legal = choose (claim_reply g h) refl
    where
      choose : (r : ClaimReply) → claim_reply g h ≡ r → IsLegal g fits (with_claim h c r)
      choose Finished is = legal
      choose Halted is = legal
      choose (GivenTask n u) is = legal_more g fits h (Given c n u) legal (caller, is)
      choose NotYet is = legal

  pub halt_stays : (c : ℕ) → c < g.callers → IsLegal g fits h → IsLegal g fits (events_after_halt h c)
  halt_stays c caller legal = choose (list_any (is_halt_of c) h) refl
    where
      choose : (t : Bool) → list_any (is_halt_of c) h ≡ t → IsLegal g fits (cond t h (h ++ Stopped c ∷ []))
      choose true is = legal
      choose false is = legal_more g fits h (Stopped c) legal (caller, is)

  -- ---- each legal event is what the machine appends

  post_made : (c n u : ℕ) (a : A) (e : Event A) → post_event g (posts h) c n u a ≡ e →
      IsPost g fits (posts h) (holders h) c n u a → events_after_post g h no_difference c n u a ≡ h ++ e ∷ []
  post_made c n u a e is post =
      ap (λ (r : PostReply ℕ). with_answer h (post_event g (posts h) c n u a) r)
      (reply_taken g fits h no_difference c n u a (taken_of_post no_difference c n u a refl post)) ∙
      ap (λ (f : Event A). h ++ f ∷ []) is

  next_is_made : (e : Event A) → IsNext g fits h e → IsMachineStep g fits h e
  next_is_made (Given c n u) next = (next.0, ap (λ (r : ClaimReply). with_claim h c r) next.1)
  next_is_made (Taken c n u a) next = (
    next.0,
    next.1.fit,
    post_made c n u a (Taken c n u a)
        (ap (λ (t : Bool). cond t (Closing c n u a) (Taken c n u a)) next.2) next.1,
  )
  next_is_made (Closing c n u a) next = (
    next.0,
    next.1.fit,
    post_made c n u a (Closing c n u a)
        (ap (λ (t : Bool). cond t (Closing c n u a) (Taken c n u a)) next.2) next.1,
  )
  next_is_made (Stopped c) next = (next.0, ap (λ (t : Bool). cond t h (h ++ Stopped c ∷ [])) next.1)

  made_is_next : (e : Event A) → IsMachineStep g fits h e → IsNext g fits h e
  made_is_next (Given c n u) step = (step.0, given_event h c n u (claim_reply g h) step.1)
  made_is_next (Taken c n u a) step =
      let r = appended h (post_event g (posts h) c n u a) (Taken c n u a) (post_reply g h no_difference c n u a)
      step.2 in (
        step.0,
        post_of_taken no_difference c n u a (reply_says g fits h no_difference c n u a r.0 r.1) step.1,
        event_open (is_closed g (with_post (posts h) c n u a) n) c n u a r.2,
      )
  made_is_next (Closing c n u a) step =
      let r = appended h (post_event g (posts h) c n u a) (Closing c n u a) (post_reply g h no_difference c n u a)
      step.2 in (
        step.0,
        post_of_taken no_difference c n u a (reply_says g fits h no_difference c n u a r.0 r.1) step.1,
        event_closing (is_closed g (with_post (posts h) c n u a) n) c n u a r.2,
      )
  made_is_next (Stopped c) step = (step.0, halt_event h c (list_any (is_halt_of c) h) step.1)

  pub steps_are_machine : (e : Event A) → IsNext g fits h e ↔ IsMachineStep g fits h e
  steps_are_machine e = (next_is_made e, made_is_next e)
