-- A call goes on with what its seat had seen.
use Rattle.answer_workers.proofs.Common.{◌≡◌, ◌≢◌, inl, inr, ℕ, Bool, true, false, cond, List, [], ◌∷◌, ◌++◌, sym, ap}
use Rattle.answer_workers.proofs.Common.{◌∙◌, refl, subst, append-nil, append_assoc, All, All-nil, All-cons, All-append}
use Rattle.answer_workers.proofs.Common.{All-weaker, Answer, Content, rules_of, differs_from, after_claim, after_post}
use Rattle.answer_workers.proofs.Common.{Given, Taken, Closing, Stopped, ClaimReply, Finished, Halted, GivenTask}
use Rattle.answer_workers.proofs.Common.{NotYet, PostReply, OtherProposal, OtherUnit, OtherContent, Doubled}
use Rattle.answer_workers.proofs.Common.{OtherHolder, TakenPost, claim_reply, post_reply, post_event, posts, with_post}
use Rattle.answer_workers.proofs.Common.{is_closed, with_claim, with_answer, AnyUnit, PriceLists, Called, BoardEvent}
use Rattle.answer_workers.proofs.Common.{View, caller_of, content, Came, GoesOn}
use Rattle.board_share.specs.Rule.{Past}

pub stays : (v : View) → GoesOn v v
stays v = record { more = []; longer = append-nil v.seen; came = All-nil (Came v); same = refl }

pub then_on : (u v w : View) → GoesOn u v → GoesOn v w → GoesOn u w
then_on u v w a b = record {
  more = a.more ++ b.more;
  longer = sym (append_assoc u.seen a.more b.more) ∙ (ap (λ (l : List BoardEvent). l ++ b.more) a.longer ∙ b.longer);
  came = All-append (Came u) a.more b.more a.came (subst (λ (x : View). All (Came x) b.more) a.same b.came);
  same = b.same ∙ ap (λ (x : View). let y : View = record x { seen = w.seen } in y) a.same;
}

others_came : (v : View) (e : BoardEvent) → Past v e → Came v e
others_came v e p = ((λ is. p.0 (ap caller_of is)), (λ owner. inr (p.1 owner)))

own_came : (v : View) (e : BoardEvent) → caller_of e ≡ v.caller → e ≢ Stopped v.caller → Came v e
own_came v e by other = (other, (λ owner. inl (by ∙ owner)))

-- what a call adds to the history where it stood
abbrev Adds : View → List BoardEvent → List BoardEvent → Type 0
Adds v h h' = (m : List BoardEvent) × (h ++ m ≡ h') × All (Came v) m

none : (v : View) (h : List BoardEvent) → Adds v h h
none v h = ([], append-nil h, All-nil (Came v))

one : (v : View) (h : List BoardEvent) (e : BoardEvent) → Came v e → Adds v h (h ++ e ∷ [])
one v h e came = (e ∷ [], refl, All-cons (Came v) e [] came (All-nil (Came v)))

called : (tells : Content → Type 0) (after : Content → Content) (v w : View) →
    ((h : List BoardEvent) → Adds v h (after (content v.setup h)).events) → Called tells after v w → GoesOn v w
called tells after v w adds c =
    let m = adds c.before in
    let is : w.seen ≡ (after (content v.setup c.before)).events = ap (λ (x : View). x.seen) c.seen in
    let past : All (Came v) c.sees.rest = All-weaker (Past v) (Came v) (others_came v) c.sees.rest c.sees.past in
    record {
      more = c.sees.rest ++ m.0;
      longer = sym (append_assoc v.seen c.sees.rest m.0) ∙
          (ap (λ (l : List BoardEvent). l ++ m.0) c.sees.whole ∙ (m.1 ∙ sym is));
      came = All-append (Came v) c.sees.rest m.0 past m.2;
      same = c.seen ∙ ap (λ (l : List BoardEvent). let y : View = record v { seen = l } in y) (sym is);
    }

-- ---- a claim

given_no_halt : (c n u d : ℕ) (e : BoardEvent) → e ≡ Given c n u → e ≡ Stopped d → ⊥
given_no_halt c n u d e is halt = cc

claim_adds : (v : View) (h : List BoardEvent) (r : ClaimReply) → Adds v h (with_claim h v.caller r)
claim_adds v h Finished = none v h
claim_adds v h Halted = none v h
claim_adds v h (GivenTask n u) = one v h (Given v.caller n u)
    (own_came v (Given v.caller n u) refl (given_no_halt v.caller n u v.caller (Given v.caller n u) refl))
claim_adds v h NotYet = none v h

pub claim_goes : (tells : Content → Type 0) (v w : View) → Called tells (λ b. after_claim b v.caller) v w → GoesOn v w
claim_goes tells v w c = called tells (λ b. after_claim b v.caller) v w
    (λ h. claim_adds v h (claim_reply (rules_of v.setup) h)) c

-- ---- a post

taken_no_halt : (c n u d : ℕ) (a : Answer) → Taken c n u a ≡ Stopped d → ⊥
taken_no_halt c n u d a e = cc

closing_no_halt : (c n u d : ℕ) (a : Answer) → Closing c n u a ≡ Stopped d → ⊥
closing_no_halt c n u d a e = cc

post_came : (v : View) (closes : Bool) (n u : ℕ) (a : Answer) →
    Came v (cond closes (Closing v.caller n u a) (Taken v.caller n u a))
post_came v true n u a = own_came v (Closing v.caller n u a) refl (closing_no_halt v.caller n u v.caller a)
post_came v false n u a = own_came v (Taken v.caller n u a) refl (taken_no_halt v.caller n u v.caller a)

answer_adds : {D : Type 0} (v : View) (h : List BoardEvent) (e : BoardEvent) (r : PostReply D) → Came v e →
    Adds v h (with_answer h e r)
answer_adds v h e (OtherProposal n o) came = none v h
answer_adds v h e (OtherUnit u m) came = none v h
answer_adds v h e (OtherContent d) came = none v h
answer_adds v h e (Doubled d) came = none v h
answer_adds v h e (OtherHolder k d) came = none v h
answer_adds v h e (TakenPost closed) came = one v h e came

pub post_goes : (tells : Content → Type 0) (n u : ℕ) (ρ : PriceLists) (x : AnyUnit) (a : Answer) (v w : View) →
    Called tells (λ b. after_post b v.caller n u ρ x a) v w → GoesOn v w
post_goes tells n u ρ x a v w c =
    called tells (λ b. after_post b v.caller n u ρ x a) v w
    (λ h. answer_adds v h (post_event (rules_of v.setup) (posts h) v.caller n u a)
    (post_reply (rules_of v.setup) h (differs_from v.setup u ρ x) v.caller n u a)
    (post_came v (is_closed (rules_of v.setup) (with_post (posts h) v.caller n u a) n) n u a))
    c
