-- Each step keeps the rule.
use Rattle.board_share.proofs.Common.{◌≡◌, ℕ, ◌+◌, ◌%◌, ◌^◌, ◌<◌, List, [], ◌∷◌, ◌++◌, length, get_or, set, subst, sym}
use Rattle.board_share.proofs.Common.{ap, ◌∙◌, refl, arith, length-set, length-append, ⊎_elim, get_or-set_other}
use Rattle.board_share.proofs.Common.{set-get_or, some, none, get_elem?, ℕ_discrete, set_again, set_here, State, Step}
use Rattle.board_share.proofs.Common.{step, Act, keeps, takes, gives, Allows, Valid, carried_after, stepped, Setup}
use Rattle.board_share.proofs.Common.{Content, BoardEvent, caller_of, content, Stage, idle, waits, turn, View, at_stage}
use Rattle.board_share.proofs.Common.{live_count, ticket_count, Shared, home, away, HasTicket, Joined, Follows, Mine}
use Rattle.board_share.proofs.Common.{drew, Took, ticket_of, looked, hand_history, grew, passed}
use Rattle.board_share.proofs.TicketSteps.{is_served, drawn, kept_tickets, passed_on}
use Rattle.board_share.proofs.SlotSteps.{which, same_board, at_home, in_hand, taken, kept_slot, kept_turn, returned}
use Rattle.board_share.proofs.HistorySteps.{not_out, sees_all, kept_history, grown}
use Rattle.board_share.proofs.CallerSteps.{kept_callers, more_events, past_others, is_made, only_made}

idle_turn : (st : Stage) (t : ℕ) → st ≡ idle → st ≡ turn t → ⊥
idle_turn st t a b = cc

waits_turn : (st : Stage) (t u : ℕ) → st ≡ waits t → st ≡ turn u → ⊥
waits_turn st t u a b = cc

pub draws : (key : Content) (n id : ℕ) (me : Mine) → me.0.stage ≡ idle →
    Allows (Shared key) n id me 1 (λ k. (k + 1) % 2 ^ 64) (drew (step n 1 1 0 none) me)
draws key n id me st s r deep at _ = let v : View = me.0 in let w : View = at_stage v (waits r.next) in
    let live : live_count v.stage ≡ 1 = ap live_count st in (
      w,
      keeps,
      tt,
      record {
        serving = r.serving;
        next = r.next + 1;
        spot = r.spot;
        history = r.history;
        made = r.made;
        out = r.out;
        wide = length-set s.words 1 _ ∙ r.wide;
        tickets = drawn r.serving r.next s.words s.views r.tickets r.wide id v at (ap ticket_count st);
        slot = kept_slot r.serving s.homes s.views r.spot r.slot id v w at (λ t. idle_turn v.stage t st)
            (λ t. waits_turn w.stage r.next t refl);
        counted = kept_history key.setup r.history s.words s.homes s.views r.counted (set s.words 1 _) s.homes
            (get_or-set_other s.words 1 0 _ 0 (λ e. omega arith)) r.counted.kept id w
            (λ t e. absurd (waits_turn w.stage r.next t refl e))
            (λ _. let o = r.counted.sees id v at live in
            (record { rest = o.rest; whole = o.whole; past = o.past }, r.counted.names id v at live));
        callers = kept_callers r.made r.out r.history s.views r.callers id v w at (sym live) refl refl refl tt;
      },
      (r.next, r.tickets.next_is, refl, refl),
    )

abbrev St : Type 0
St = State Content View

-- a step that changes nothing
pub still : (key : Content) (s : St) (i id : ℕ) (c : List (ℕ × Content)) (v : View) → Shared key s →
    get_elem? s.views id ≡ some v → Shared key (stepped s i (get_or s.words i 0) id c v keeps)
still key s i id c v r at =
    subst (λ (z : List ℕ × List View). Shared key record { words = z.0; homes = s.homes; views = z.1 })
    (λ j. (sym (set-get_or s.words i 0) j, sym (set_again s.views id v at) j)) r

-- word i as it is after it is written as it was
unwritten : (ws : List ℕ) (i j : ℕ) → get_or (set ws i (get_or ws i 0)) j 0 ≡ get_or ws j 0
unwritten ws i j = ap (λ (l : List ℕ). get_or l j 0) (set-get_or ws i 0)

-- the seat's turn has come: it takes the board, and has seen all that it tells
pub takes_turn : (key : Content) (s : St) (id : ℕ) (me : Mine) (t : ℕ) → Shared key s → length s.homes ≡ 1 →
    get_elem? s.views id ≡ some me.0 → me.0.stage ≡ waits t → get_or s.words 2 0 ≡ t % 2 ^ 64
    → (w : View) × (b : Content) × (get_elem? s.homes 0 ≡ some (some b)) ×
    Shared key (stepped s 2 (get_or s.words 2 0) id me.1 w (takes 0 b)) × Took t me (w, (0, b) ∷ me.1)
takes_turn key s id me t r deep at st found =
    let v : View = me.0 in let live : live_count v.stage ≡ 1 = ap live_count st in let few = r.callers.few in
    let limit = r.callers.limit in
    let has : HasTicket v.stage t = subst (λ (x : Stage). HasTicket x t) (sym st) refl in
    let served : r.serving ≡ t =
    is_served r.serving r.next s.words s.views r.tickets (omega arith) id v at t has found in
    let lies = at_home r.serving s.homes s.views r.next s.words r.tickets id v at (st ∙ ap waits (sym served)) r.spot
    r.slot.lies in let b : Content = lies.1.0 in
    let is : b ≡ content key.setup r.history = r.counted.kept b lies.1.1 in
    let w : View = record v { seen = r.history; stage = turn t } in
    let named : v.setup ≡ key.setup = r.counted.names id v at live in let sees = r.counted.sees id v at live in
    let gone : get_elem? (set s.homes 0 none) 0 ≡ some none = set_here s.homes 0 none (omega arith) in (
      w,
      b,
      lies.1.1,
      record {
        serving = r.serving;
        next = r.next;
        spot = away id;
        history = r.history;
        made = r.made;
        out = r.out;
        wide = length-set s.words 2 _ ∙ r.wide;
        tickets = kept_tickets r.serving r.next s.words s.views r.tickets (set s.words 2 (get_or s.words 2 0))
            (unwritten s.words 2 1) (unwritten s.words 2 2) id v w at (sym (ap ticket_count st))
            (λ u e. subst (λ (x : ℕ). HasTicket v.stage x) e has);
        slot = taken r.serving s.homes s.views r.spot r.slot deep lies.0 id v w at (ap turn (sym served));
        counted = kept_history key.setup r.history s.words s.homes s.views r.counted
            (set s.words 2 (get_or s.words 2 0)) (set s.homes 0 none) (unwritten s.words 2 0)
            (λ b' at'. absurd (not_out (get_elem? (set s.homes 0 none) 0) b' gone at'))
            id w (λ _ _. refl) (λ _. (sees_all w r.history refl, named));
        callers = kept_callers r.made r.out r.history s.views r.callers id v w at (sym live) refl refl refl tt;
      },
      (
        r.history,
        (sees, only_made r.made r.out r.history s.views r.callers id v at live),
        refl,
        ap (λ (x : Content). (0, x) ∷ me.1) (is ∙ ap (λ (k : Setup). content k r.history) (sym named)),
      ),
    )

pub looks : (key : Content) (n id : ℕ) (me : Mine) (t : ℕ) → n ≡ 1 → me.0.stage ≡ waits t →
    Allows (Shared key) n id me 2 (λ k. k) (looked (step n 2 0 0 none) me)
looks key n id me t one st s r deep at _ = by_found (ℕ_discrete (get_or s.words 2 0) (u % 2 ^ 64))
  where
    u : ℕ
    u = ticket_of me.0.stage

    st' : me.0.stage ≡ waits (ticket_of me.0.stage)
    st' = st ∙ ap waits (sym (ap ticket_of st))

    by_found : Dec (get_or s.words 2 0 ≡ ticket_of me.0.stage % 2 ^ 64) →
        (w : View) × (a : Act Content) × Valid s.homes me.1 a ×
        Shared key (stepped s 2 (get_or s.words 2 0) id me.1 w a) ×
        looked (step n 2 0 0 none) me (get_or s.words 2 0) (w, carried_after me.1 a)
    by_found (yes hit) = let go = takes_turn key s id me (ticket_of me.0.stage) r (deep ∙ one) at st' hit in
        (go.0, takes 0 go.1, go.2, go.3, ((λ _. go.4), λ miss. absurd (miss hit)))
    by_found (no miss) = (me.0, keeps, tt, still key s 2 id me.1 me.0 r at, ((λ hit. absurd (miss hit)), λ _. refl))

turn_alone : (st : Stage) (t : ℕ) → st ≡ turn t → ticket_count st ≡ 1
turn_alone st t e = ap ticket_count e

-- the seat that has the board, with one more event of its caller in hand, sets the length
pub grows : (key : Content) (n id : ℕ) (me : Mine) (t : ℕ) (b : Content) (more : List (ℕ × Content)) (e : BoardEvent)
    (new : ℕ) → me.0.stage ≡ turn t → me.1 ≡ (0, b) ∷ more → (caller_of e) ≡ me.0.caller
    → b.events ≡ me.0.seen ++ e ∷ [] → new ≡ length me.0.seen + 1 →
    Allows (Shared key) n id me 0 (λ _. new) (λ _. grew (step n 0 new 0 none) me new)
grows key n id me t b more e new st has by goes longer s r deep at _ =
    let v : View = me.0 in let live : live_count v.stage ≡ 1 = ap live_count st in
    let w : View = record v { seen = hand_history me.1 } in
    let hand = in_hand r.serving s.homes s.views r.next s.words r.tickets id v t at st r.spot r.slot in
    let all : v.seen ≡ r.history = r.counted.held id v at t st in
    let seen : hand_history me.1 ≡ r.history ++ e ∷ [] =
    ap hand_history has ∙ goes ∙ ap (λ (l : List BoardEvent). l ++ e ∷ []) all in
    let mine : w.stage ≡ turn r.serving = st ∙ ap turn hand.1 in
    let lt : (caller_of e) < r.made =
    subst (λ (k : ℕ). k < r.made) (sym by) (is_made r.made r.out r.history s.views r.callers id v at live) in (
      w,
      keeps,
      tt,
      record {
        serving = r.serving;
        next = r.next;
        spot = r.spot;
        history = r.history ++ e ∷ [];
        made = r.made;
        out = r.out;
        wide = length-set s.words 0 _ ∙ r.wide;
        tickets = kept_tickets r.serving r.next s.words s.views r.tickets (set s.words 0 new)
            (get_or-set_other s.words 0 1 _ 0 (λ e. omega arith)) (get_or-set_other s.words 0 2 _ 0 (λ e. omega arith))
            id v w at refl (λ _ h. h);
        slot = kept_turn r.serving s.homes s.views r.spot r.slot id v w at hand.0 hand.2 mine;
        counted = grown key.setup r.history s.words s.homes s.views r.counted r.wide hand.2 id w e new
            (longer ∙ ap (λ (l : List BoardEvent). length l + 1) all) seen (r.counted.names id v at live)
            (past_others r.made r.out r.history s.views r.callers id v at live e by)
            (λ j x other at' u is. other (which j id (sym (r.slot.turns j x at' u is) ∙ hand.0)));
        callers = more_events r.made r.out r.history (set s.views id w)
            (kept_callers r.made r.out r.history s.views r.callers id v w at refl refl refl refl
            (subst (Joined w) (sym st) tt)) e lt;
      },
      (refl, refl),
    )

-- the seat that has the board gives it back and passes the turn
pub passes : (key : Content) (n id : ℕ) (me : Mine) (t : ℕ) (b : Content) (more : List (ℕ × Content)) → n ≡ 1 →
    me.0.stage ≡ turn t → me.1 ≡ (0, b) ∷ more → b ≡ content me.0.setup me.0.seen
    → Allows (Shared key) n id me 2 (λ k. (k + 1) % 2 ^ 64) (passed (step n 2 1 0 none) me)
passes key n id me t b more one st has is s r deep at _ =
    let v : View = me.0 in let live : live_count v.stage ≡ 1 = ap live_count st in let w : View = at_stage v idle in
    let hand = in_hand r.serving s.homes s.views r.next s.words r.tickets id v t at st r.spot r.slot in
    let all : v.seen ≡ r.history = r.counted.held id v at t st in
    let named : v.setup ≡ key.setup = r.counted.names id v at live in
    let mine : HasTicket v.stage r.serving = subst (λ (x : Stage). HasTicket x r.serving) (sym st) hand.1 in
    let whole : length s.homes ≡ 1 = deep ∙ one in
    subst (λ (c : List (ℕ × Content)). (w : View) × (a : Act Content) × Valid s.homes c a ×
    Shared key (stepped s 2 ((get_or s.words 2 0 + 1) % 2 ^ 64) id c w a) ×
    passed (step n 2 1 0 none) (v, c) (get_or s.words 2 0) (w, carried_after c a)) (sym has) (
      w,
      gives,
      tt,
      record {
        serving = r.serving + 1;
        next = r.next;
        spot = home;
        history = r.history;
        made = r.made;
        out = r.out;
        wide = length-set s.words 2 _ ∙ r.wide;
        tickets = passed_on r.serving r.next s.words s.views r.tickets r.wide id v w at (ap ticket_count st) mine refl
            (λ t h. h);
        slot = returned r.serving s.homes s.views r.spot r.slot whole id w b hand.0 (λ u. idle_turn w.stage u refl);
        counted = kept_history key.setup r.history s.words s.homes s.views r.counted (set s.words 2 _)
            (set s.homes 0 (some b)) (get_or-set_other s.words 2 0 _ 0 (λ e. omega arith))
            (λ b' at'. same_board (get_elem? (set s.homes 0 (some b)) 0) b b'
            (set_here s.homes 0 (some b) (omega arith)) at' ∙ (is ∙ (λ i. content (named i) (all i))))
            id w (λ u e. absurd (idle_turn w.stage u refl e)) (λ _. (sees_all w r.history all, named));
        callers = kept_callers r.made r.out r.history s.views r.callers id v w at (sym live) refl refl refl tt;
      },
      (refl, refl),
    )

-- where the length changed, there is one more event
pub grown_by : (c : ℕ) (h h' : List BoardEvent) (before after : ℕ) → Follows c h h' → after ≡ length h' →
    before ≡ length h → (after ≡ before → ⊥)
    → (e : BoardEvent) × (caller_of e ≡ c) × (h' ≡ h ++ e ∷ []) × (after ≡ length h + 1)
grown_by c h h' before after next a b ne = ⊎_elim (λ (is : h' ≡ h). absurd (ne (a ∙ ap length is ∙ sym b)))
    (λ (t : (e : BoardEvent) × (caller_of e ≡ c) × (h' ≡ h ++ e ∷ [])).
    (t.0, t.1, t.2, a ∙ ap length t.2 ∙ length-append h (t.0 ∷ []))) next

-- and where it did not, there is none
pub not_grown : (c : ℕ) (h h' : List BoardEvent) (before after : ℕ) → Follows c h h' → after ≡ length h' →
    before ≡ length h → after ≡ before → h' ≡ h
not_grown c h h' before after next a b is = ⊎_elim (λ (is : h' ≡ h). is)
    (λ (t : (e : BoardEvent) × (caller_of e ≡ c) × (h' ≡ h ++ e ∷ [])).
    let l : after ≡ length h + 1 = a ∙ ap length t.2 ∙ length-append h (t.0 ∷ []) in absurd (omega arith)) next

-- what a look that found the seat's ticket tells
pub took_from : (m0 m m' : Mine) (s : Step Content) (t n ticket : ℕ) → m ≡ m0 → m0.0.stage ≡ waits t →
    ticket ≡ t % 2 ^ 64 → n ≡ ticket → looked s m n m' → Took t m0 m'
took_from m0 m m' s t n ticket same st is found told =
    let u : ticket_of m.0.stage ≡ t = ap (λ (x : Mine). ticket_of x.0.stage) same ∙ ap ticket_of st in
    subst (λ (x : Mine). Took t x m') same
    (subst (λ (k : ℕ). Took k m m') u (told.0 (found ∙ (is ∙ ap (λ (k : ℕ). k % 2 ^ 64) (sym u)))))
