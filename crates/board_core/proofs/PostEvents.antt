-- The events of a board whose store has one more answer.
use Rattle.board_core.proofs.Common.{◌≡◌, ℕ, ◌+◌, ◌-◌, Bool, true, false, cond, ◌==◌, Option, Some, None, List, [], ◌∷◌}
use Rattle.board_core.proofs.Common.{◌++◌, get_or, refl, sym, ap, ◌∙◌, subst, set, get_or-set_same, get_or-set_other}
use Rattle.board_core.proofs.Common.{map-append, is_some, Setup, Answer, no_answer, rules_of, Event, Taken, Closing}
use Rattle.board_core.proofs.Common.{sooner, only_at, posts, post_event, Entry, unit_count, task_number, event_by}
use Rattle.board_core.proofs.Common.{event_of, events_of, LedgerValue, Lists, IsBoard, reply_of}
use Rattle.board_store.specs.Laws.{AnswersOfHistoryFitTheirTasks}
use Rattle.board_store.specs.declared.entries.Call.TheVariants as calls
use Rattle.board_store.specs.declared.entries.Reply.{Reply}
use Rattle.board_store.specs.declared.entries.Reply.TheVariants as replies
use Rattle.board_core.proofs.Lists.{some_of, place_same}
use Rattle.board_core.proofs.PostLists.{IsHeldTask, only_here, kept_inside, closes_is}

some_sooner : {X : Type 0} (a b : Option X) → is_some b ≡ true → is_some (sooner a b) ≡ true
some_sooner None b h = h
some_sooner (Some x) b h = refl

sooner_first : {X : Type 0} (a b : Option X) (x : X) → a ≡ Some x → is_some (sooner a b) ≡ true
sooner_first a b x e = ap (λ o. is_some (sooner o b)) e

-- no entry's answer is at that place
abbrev Elsewhere : ℕ → List Answer → ℕ → List Entry → Type 0
Elsewhere units kept i es = (m v : ℕ) → is_some (posts (events_of units kept es) m v) ≡ true →
    task_number units m v ≡ i → ⊥

event_kept : (units : ℕ) (kept : List Answer) (i : ℕ) (a : Answer) (t : Reply) (c m v : ℕ) (es : List Entry) →
    ((w : Answer) → is_some (posts (event_by t c m v w ∷ events_of units kept es) m v) ≡ true →
    task_number units m v ≡ i → ⊥) →
    event_by t c m v (get_or (set kept i a) (task_number units m v) no_answer) ≡ event_by t c m v
    (get_or kept (task_number units m v) no_answer)
event_kept units kept i a replies.Given c m v es f = refl
event_kept units kept i a replies.Taken c m v es f =
    ap (Taken c m v) (get_or-set_other kept i (task_number units m v) a no_answer
    (f no_answer (sooner_first (only_at m v (c, no_answer) m v) (posts (events_of units kept es) m v) (c, no_answer)
    (only_here m v (c, no_answer)))))
event_kept units kept i a replies.Closing c m v es f =
    ap (Closing c m v) (get_or-set_other kept i (task_number units m v) a no_answer
    (f no_answer (sooner_first (only_at m v (c, no_answer) m v) (posts (events_of units kept es) m v) (c, no_answer)
    (only_here m v (c, no_answer)))))
event_kept units kept i a replies.Stopped c m v es f = refl

events_kept : (units : ℕ) (kept : List Answer) (i : ℕ) (a : Answer) (es : List Entry) → Elsewhere units kept i es →
    events_of units (set kept i a) es ≡ events_of units kept es
events_kept units kept i a [] f = refl
events_kept units kept i a (e ∷ es) f =
    ap (λ (x : Event Answer). x ∷ events_of units (set kept i a) es)
    (event_kept units kept i a e.reply e.caller e.proposal e.unit es
    (λ w s. f e.proposal e.unit (other_answer units kept e.reply e.caller e.proposal e.unit es w s)))
    ∙ ap (λ (xs : List (Event Answer)). event_of units kept e ∷ xs)
    (events_kept units kept i a es
    (λ m v s. f m v (later_post (event_of units kept e) (events_of units kept es) m v s)))
  where
    later_post : (x : Event Answer) (xs : List (Event Answer)) (m v : ℕ) → is_some (posts xs m v) ≡ true →
        is_some (posts (x ∷ xs) m v) ≡ true
    later_post x xs m v s = some_sooner _ (posts xs m v) s

    other_answer : (units : ℕ) (kept : List Answer) (t : Reply) (c m v : ℕ) (es : List Entry) (w : Answer) →
        is_some (posts (event_by t c m v w ∷ events_of units kept es) m v) ≡ true →
        is_some (posts (event_by t c m v (get_or kept (task_number units m v) no_answer) ∷ events_of units kept es) m v)
        ≡ true
    other_answer units kept replies.Given c m v es w s = s
    other_answer units kept replies.Taken c m v es w s =
        sooner_first (only_at m v (c, get_or kept (task_number units m v) no_answer) m v)
        (posts (events_of units kept es) m v) (c, get_or kept (task_number units m v) no_answer)
        (only_here m v (c, get_or kept (task_number units m v) no_answer))
    other_answer units kept replies.Closing c m v es w s =
        sooner_first (only_at m v (c, get_or kept (task_number units m v) no_answer) m v)
        (posts (events_of units kept es) m v) (c, get_or kept (task_number units m v) no_answer)
        (only_here m v (c, get_or kept (task_number units m v) no_answer))
    other_answer units kept replies.Stopped c m v es w s = s

event_is : (t : Bool) (c n u : ℕ) (a : Answer) →
    event_by (reply_of t) c n u a ≡ cond t (Closing c n u a) (Taken c n u a)
event_is true c n u a = refl
event_is false c n u a = refl

module _ (answered : AnswersOfHistoryFitTheirTasks) (b : Setup) (h : List (Event Answer)) (x : Lists) (l : LedgerValue)
    (I : IsBoard b h x l) (c n u : ℕ) (a : Answer) (H : IsHeldTask b h l c n u)
    (entries : List Entry) (is : events_of (unit_count b.market) x.kept entries ≡ h) where
  abbrev units : ℕ
  units = unit_count b.market

  abbrev i : ℕ
  i = task_number units n u

  fresh : Elsewhere units x.kept i entries
  fresh m v some_ same =
      let there : is_some (posts h m v) ≡ true =
      subst (λ (z : List (Event Answer)). is_some (posts z m v) ≡ true) is some_ in
      let y = some_of (posts h m v) there in
      let answer = answered b h m v y.0 I.legal y.1 in
      let s = place_same units m v n u answer.from_one H.one answer.unit H.inside same in
      let now : posts h n u ≡ Some y.0 = ap (λ (j : ℕ). posts h n j) (sym s.1) ∙ ap (λ (j : ℕ). posts h j v) (sym s.0) ∙
      y.1 in
      never (posts h n u) y.0 now H.none_yet
    where
      never : {X : Type 0} (o : Option X) (y : X) → o ≡ Some y → o ≡ None → ⊥
      never o y e f = (cc)

  pub events_posted : (closes : Bool) → closes ≡ (get_or x.counts (n - 1) 0 + 1 == units) → (e : Entry) →
      e ≡ record { caller = c; call = calls.Post; proposal = n; unit = u; reply = reply_of closes } →
      events_of units (set x.kept i a) (entries ++ e ∷ []) ≡ h ++ post_event (rules_of b) (posts h) c n u a ∷ []
  events_posted closes closes_as e e_is =
      let kept2 = set x.kept i a in
      map-append (event_of units kept2) entries (e ∷ [])
      ∙ ap (λ (z : List (Event Answer)). z ++ event_of units kept2 e ∷ [])
      (events_kept units x.kept i a entries fresh ∙ is)
      ∙ ap (λ (y : Entry). h ++ event_of units kept2 y ∷ []) e_is
      ∙ ap (λ (y : Answer). h ++ event_by (reply_of closes) c n u y ∷ [])
      (get_or-set_same x.kept i a no_answer (kept_inside b h x l I c n u a H))
      ∙ ap (λ (y : Event Answer). h ++ y ∷ [])
      (event_is closes c n u a
      ∙ ap (λ (t : Bool). cond t (Closing c n u a) (Taken c n u a)) (closes_as ∙ sym (closes_is b h x l I c n u a H)))
