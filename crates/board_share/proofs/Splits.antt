-- A split keeps the rule.
use Rattle.board_share.proofs.Common.{⊎_elim, ◌≡◌, ℕ, suc, ◌+◌, ◌<◌, ◌≤◌, List, [], ◌∷◌, ◌++◌, length, set, subst, sym}
use Rattle.board_share.proofs.Common.{ap, ◌∙◌, refl, arith, All, Contains, All-append, Contains-append_left}
use Rattle.board_share.proofs.Common.{Contains-append_cases, some, get_elem?, Splits, at_longer, at_last, Setup}
use Rattle.board_share.proofs.Common.{Content, BoardEvent, caller_of, Stage, idle, turn, View, cut_left, cut_right}
use Rattle.board_share.proofs.Common.{live_count, ticket_count, Homes, Shared, Sees, Spot, home, away, InSpot}
use Rattle.board_share.proofs.Common.{HasTicket, Joined, Tickets, Slot, Counted, Callers}
use Rattle.board_share.proofs.Views.{each_set, pairs_set, each_snoc, pairs_snoc, sum_set, sum_snoc, set_at, one_view}
use Rattle.board_share.proofs.Views.{there_set}
use Rattle.board_share.proofs.TicketSteps.{kept_tickets}
use Rattle.board_share.proofs.SlotSteps.{kept_slot}
use Rattle.board_share.proofs.HistorySteps.{kept_history, all_one}
use Rattle.board_share.proofs.CallerSteps.{is_made}
use Rattle.board_share.proofs.Outs.{has_last, differ_more, in_cons, in_none}

idle_turn : (st : Stage) (t : ℕ) → st ≡ idle → st ≡ turn t → ⊥
idle_turn st t a b = cc

idle_ticket : (st : Stage) (t : ℕ) → st ≡ idle → HasTicket st t → ⊥
idle_ticket st t e h = subst (λ (s : Stage). HasTicket s t) e h

-- one more seat that waits for nothing
more_tickets : (serving next : ℕ) (words : List ℕ) (views : List View) → Tickets serving next words views → (w : View) →
    w.stage ≡ idle → Tickets serving next words (views ++ w ∷ [])
more_tickets serving next words views old w st = record {
  next_is = old.next_is;
  serving_is = old.serving_is;
  counted = omega (arith, sum_snoc (λ (v : View). ticket_count v.stage) views w, ap ticket_count st, old.counted);
  in_range = each_snoc (λ j x. (t : ℕ) → HasTicket x.stage t → (serving ≤ t) × (t < next)) views w
      (λ t h. absurd (idle_ticket w.stage t st h)) old.in_range;
  differ = pairs_snoc (λ i u j x. (t : ℕ) → HasTicket u.stage t → HasTicket x.stage t → i ≡ j) views w (λ t _ _. refl)
      (λ j x _ t h _. absurd (idle_ticket w.stage t st h)) (λ j x _ t _ h. absurd (idle_ticket w.stage t st h))
      old.differ;
}

more_slot : (serving : ℕ) (spot : Spot) (homes : Homes) (views : List View) → Slot serving spot homes views →
    (w : View) → w.stage ≡ idle → Slot serving spot homes (views ++ w ∷ [])
more_slot serving spot homes views old w st = record {
  lies = lies_on spot old.lies;
  turns = each_snoc (λ j x. (t : ℕ) → x.stage ≡ turn t → spot ≡ away j) views w
      (λ t e. absurd (idle_turn w.stage t st e)) old.turns;
}
  where
    lies_on : (spot : Spot) → InSpot serving homes views spot → InSpot serving homes (views ++ w ∷ []) spot
    lies_on home l = l
    lies_on (away j) l = (l.0, at_longer views (w ∷ []) j l.0 l.1, l.2, l.3)

more_history : (about : Setup) (history : List BoardEvent) (words : List ℕ) (homes : Homes) (views : List View) →
    Counted about history words homes views → (w : View) → w.stage ≡ idle → Sees w history → w.setup ≡ about
    → Counted about history words homes (views ++ w ∷ [])
more_history about history words homes views old w st sees named = record {
  length_is = old.length_is;
  kept = old.kept;
  held = each_snoc (λ j x. (t : ℕ) → x.stage ≡ turn t → x.seen ≡ history) views w
      (λ t e. absurd (idle_turn w.stage t st e)) old.held;
  sees = each_snoc (λ j x. live_count x.stage ≡ 1 → Sees x history) views w (λ _. sees) old.sees;
  names = each_snoc (λ j x. live_count x.stage ≡ 1 → x.setup ≡ about) views w (λ _. named) old.names;
}

-- the owner v gives the next caller a seat
more_callers : (made : ℕ) (out : List ℕ) (history : List BoardEvent) (views : List View) →
    Callers made out history views → (v : View) → get_elem? views 0 ≡ some v → v.stage ≡ idle → v.caller ≡ 0 →
    v.made ≡ made → v.out ≡ out → made + 1 ≤ 4294967296
    → Callers (made + 1) (out ++ made ∷ []) history (set views 0 (cut_left v) ++ cut_right v ∷ [])
more_callers made out history views old v at st who makes outs room =
    let left : View = cut_left v in let right : View = cut_right v in let vs : List View = set views 0 left in
    let live : live_count v.stage ≡ 1 = ap live_count st in
    let low : (j : ℕ) (x : View) → get_elem? views j ≡ some x → live_count x.stage ≡ 1 → x.caller < made =
    is_made made out history views old in record {
      few = let more = old.few in
          omega (
            arith,
            sum_snoc (λ (v : View). live_count v.stage) vs right,
            sum_set (λ (v : View). live_count v.stage) views 0 v left at,
          );
      limit = room;
      owner = left;
      owner_at = at_longer vs (right ∷ []) 0 left (set_at views 0 v left at);
      owner_is = (who, ap (λ (k : ℕ). k + 1) makes, (λ i. outs i ++ makes i ∷ []), live);
      outs = each_snoc (λ j x. live_count x.stage ≡ 1 → Contains (out ++ made ∷ []) x.caller) vs right
          (λ _. subst (Contains (out ++ made ∷ [])) (sym makes) (has_last out made))
          (each_set (λ j x. live_count x.stage ≡ 1 → Contains (out ++ made ∷ []) x.caller) views 0 left
          (λ _. Contains-append_left out (made ∷ []) left.caller (old.outs 0 v at live))
          (λ j x _ at' l. Contains-append_left out (made ∷ []) x.caller (old.outs j x at' l)));
      each_out = λ c h. ⊎_elim
          (λ (t : Contains out c). let f = old.each_out c t in
          let g = there_set (λ (x : View). (live_count x.stage ≡ 1) × (x.caller ≡ c)) views 0 v left f.0 f.1 at f.2
          (f.3, f.4) (λ e. e) in (f.0, g.0, at_longer vs (right ∷ []) f.0 g.0 g.1, g.2.0, g.2.1))
          (λ (t : Contains (made ∷ []) c). (
            length vs,
            right,
            at_last vs right (length vs) refl,
            refl,
            makes ∙
                ⊎_elim (λ (e : made ≡ c). e) (λ (n : Contains [] c). absurd (in_none c n)) (in_cons made [] c t),
          ))
          (Contains-append_cases out (made ∷ []) c h);
      apart = pairs_snoc (λ i u j x. live_count u.stage ≡ 1 → live_count x.stage ≡ 1 → u.caller ≡ x.caller → i ≡ j) vs
          right (λ _ _ _. refl)
          (each_set (λ j x. live_count right.stage ≡ 1 → live_count x.stage ≡ 1 → right.caller ≡ x.caller →
          length vs ≡ j) views 0 left
          (λ _ l e. let lt = low 0 v at live in absurd (omega arith))
          (λ j x _ at' _ l e. let lt = low j x at' l in absurd (omega arith)))
          (each_set (λ j x. live_count x.stage ≡ 1 → live_count right.stage ≡ 1 → x.caller ≡ right.caller →
          j ≡ length vs) views 0 left
          (λ l _ e. let lt = low 0 v at live in absurd (omega arith))
          (λ j x _ at' l _ e. let lt = low j x at' l in absurd (omega arith)))
          (pairs_set (λ i u j x. live_count u.stage ≡ 1 → live_count x.stage ≡ 1 → u.caller ≡ x.caller → i ≡ j) views 0
          left (λ _ _ _. refl)
          (λ j x _ at' l m e. old.apart 0 v j x at at' live m e) (λ j x _ at' l m e. old.apart j x 0 v at' at l live e)
          old.apart);
      differ = differ_more out made old.differ
          (λ h. let lt = subst (λ (k : ℕ). k < made) h.2 (old.below h.0 made h.1) in omega arith);
      below = All-append (λ c. c < made + 1) out (made ∷ []) (λ k d lt. let b = old.below k d lt in omega arith)
          (all_one (λ c. c < made + 1) made (omega arith));
      events_below = λ k d lt. let b = old.events_below k d lt in omega arith;
      joins = each_snoc (λ j x. Joined x x.stage) vs right tt
          (each_set (λ j x. Joined x x.stage) views 0 left (subst (Joined left) (sym st) tt)
          (λ j x _ at'. old.joins j x at'));
    }

all_right : {A : Type 0} (P : A → Type 0) (xs ys : List A) → All P (xs ++ ys) → All P ys
all_right P [] ys all = all
all_right P (x ∷ xs) ys all = all_right P xs ys (λ k d lt. all (suc k) d (omega arith))

pub splits : (key : Content) (id : ℕ) (v : View) → id ≡ 0 → v.stage ≡ idle → v.caller ≡ 0 → v.made + 1 ≤ 4294967296 →
    Splits (Shared key) id v (cut_left v) (cut_right v)
splits key id v first st who room s r at' =
    let at : get_elem? s.views 0 ≡ some v = subst (λ (k : ℕ). get_elem? s.views k ≡ some v) first at' in
    let left : View = cut_left v in let right : View = cut_right v in let vs : List View = set s.views 0 left in
    let live : live_count v.stage ≡ 1 = ap live_count st in let o = r.callers in
    let is : v ≡ o.owner = one_view s.views 0 v o.owner at o.owner_at in
    let makes : v.made ≡ r.made = ap (λ (x : View). x.made) is ∙ o.owner_is.1 in
    let outs : v.out ≡ r.out = ap (λ (x : View). x.out) is ∙ o.owner_is.2 in
    let sees = r.counted.sees 0 v at live in let named = r.counted.names 0 v at live in
    let low : v.caller < r.made = is_made r.made r.out r.history s.views o 0 v at live in
    let below : All (λ (e : BoardEvent). (caller_of e) < r.made) sees.rest =
    all_right (λ (e : BoardEvent). (caller_of e) < r.made) v.seen sees.rest
    (subst (All (λ (e : BoardEvent). (caller_of e) < r.made)) (sym sees.whole) o.events_below) in
    subst (λ (k : ℕ). Shared key record { words = s.words; homes = s.homes; views = set s.views k left ++ right ∷ [] })
    (sym first) record {
      serving = r.serving;
      next = r.next;
      spot = r.spot;
      history = r.history;
      made = r.made + 1;
      out = r.out ++ r.made ∷ [];
      wide = r.wide;
      tickets = more_tickets r.serving r.next s.words vs
          (kept_tickets r.serving r.next s.words s.views r.tickets s.words refl refl 0 v left at refl (λ _ h. h)) right
          refl;
      slot = more_slot r.serving r.spot s.homes vs
          (kept_slot r.serving s.homes s.views r.spot r.slot 0 v left at (λ t. idle_turn v.stage t st)
          (λ t. idle_turn v.stage t st)) right refl;
      counted = more_history key.setup r.history s.words s.homes vs
          (kept_history key.setup r.history s.words s.homes s.views r.counted s.words s.homes refl r.counted.kept 0 left
          (λ t e. absurd (idle_turn v.stage t st e))
          (λ _. (
            record {
              rest = sees.rest;
              whole = sees.whole;
              past = λ k d lt. let p = sees.past k d lt in
                  (p.0, λ e. Contains-append_left v.out (v.made ∷ []) _ (p.1 e));
            },
            named,
          )))
          right refl record {
            rest = sees.rest;
            whole = sees.whole;
            past = λ k d lt. let b = below k d lt in
                ((λ e. omega arith), (λ e. let e' : v.made ≡ 0 = e in absurd (omega arith)));
          } named;
      callers = more_callers r.made r.out r.history s.views o v at st who makes outs (omega arith);
    }
