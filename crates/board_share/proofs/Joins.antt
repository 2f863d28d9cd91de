-- A join keeps the rule, and what the read after it tells.
use Rattle.board_share.proofs.Common.{◌≡◌, ◌≢◌, ℕ, Bool, true, false, zero, suc, ◌+◌, ◌<◌, ◌≤◌, List, [], ◌∷◌, ◌++◌}
use Rattle.board_share.proofs.Common.{length, set, subst, sym, ap, ◌∙◌, refl, arith, append-nil, All, Contains, nat_lt}
use Rattle.board_share.proofs.Common.{if◌then◌else◌, set-get_or, some, none, get_elem?, Joins, Allows, step, keeps}
use Rattle.board_share.proofs.Common.{set_else, Content, BoardEvent, caller_of, Stage, idle, turn, spent, joined, View}
use Rattle.board_share.proofs.Common.{at_stage, nobody, glued, longer, without, live_count, ticket_count, Shared, Sees}
use Rattle.board_share.proofs.Common.{Past, Joined, Callers, Mine, told, OnlyMade, HasJoined}
use Rattle.std.proofs.lemmas.Bool.Decides.{nat_tests}
use Rattle.board_share.proofs.Views.{each_set, pairs_set, sum_set, set_at, one_view, there_set}
use Rattle.board_share.proofs.TicketSteps.{kept_tickets}
use Rattle.board_share.proofs.SlotSteps.{kept_slot}
use Rattle.board_share.proofs.HistorySteps.{kept_history}
use Rattle.board_share.proofs.CallerSteps.{kept_callers, only_made}
use Rattle.board_share.proofs.Outs.{length-without, in_without, differ_without, all_without, from_without}
use Rattle.board_share.proofs.Outs.{not_in_without}

idle_turn : (st : Stage) (t : ℕ) → st ≡ idle → st ≡ turn t → ⊥
idle_turn st t a b = cc

joined_turn : (a b : List BoardEvent) (l : List ℕ) (c t : ℕ) → joined a b l c ≡ turn t → ⊥
joined_turn a b l c t e = cc

spent_turn : (t : ℕ) → spent ≡ turn t → ⊥
spent_turn t e = cc

same_head : {A : Type 0} (x y : A) (xs ys : List A) → x ∷ xs ≡ y ∷ ys → x ≡ y
same_head x y xs ys e = cc

same_tail : {A : Type 0} (x y : A) (xs ys : List A) → x ∷ xs ≡ y ∷ ys → xs ≡ ys
same_tail x y xs ys e = cc

-- of two beginnings of one list the shorter begins the longer
pub between : {A : Type 0} (a b x y : List A) → a ++ x ≡ b ++ y → length a ≤ length b →
    (m : List A) × (a ++ m ≡ b) × (x ≡ m ++ y)
between [] b x y e le = (b, refl, e)
between (c ∷ a) [] x y e le = absurd (omega arith)
between (c ∷ a) (d ∷ b) x y e le = let go = between a b x y (same_tail c d (a ++ x) (b ++ y) e) (omega arith) in
    (go.0, (λ i. same_head c d (a ++ x) (b ++ y) e i ∷ go.1 i), go.2)

all_left : {A : Type 0} (P : A → Type 0) (xs ys : List A) → All P (xs ++ ys) → All P xs
all_left P [] ys all k d lt = absurd (omega arith)
all_left P (x ∷ xs) ys all zero d lt = all zero d (omega arith)
all_left P (x ∷ xs) ys all (suc k) d lt = all_left P xs ys (λ k d lt. all (suc k) d (omega arith)) k d (omega arith)

all_right : {A : Type 0} (P : A → Type 0) (xs ys : List A) → All P (xs ++ ys) → All P ys
all_right P [] ys all = all
all_right P (x ∷ xs) ys all = all_right P xs ys (λ k d lt. all (suc k) d (omega arith))

all_both : {A : Type 0} (P Q R : A → Type 0) (xs : List A) → ((x : A) → P x → Q x → R x) → All P xs → All Q xs →
    All R xs
all_both P Q R xs f p q k d lt = f _ (p k d lt) (q k d lt)

all_of : {A : Type 0} (P Q : A → Type 0) (xs : List A) → ((x : A) → P x → Q x) → All P xs → All Q xs
all_of P Q xs f p k d lt = f _ (p k d lt)

no_event : (P : BoardEvent → Type 0) → All P []
no_event P k d lt = absurd (omega arith)

lt_true : (x y : ℕ) → nat_lt x y ≡ true → x ≤ y
lt_true x y e = grind (arith, nat_tests)

lt_false : (x y : ℕ) → nat_lt x y ≡ false → y ≤ x
lt_false x y e = grind (arith, nat_tests)

longer_cases : (a b : List BoardEvent) (F : List BoardEvent → Type 0) → (length a ≤ length b → F b) →
    (length b ≤ length a → F a) → F (longer a b)
longer_cases a b F hit miss = go (nat_lt (length a) (length b)) refl
  where
    go : (t : Bool) → nat_lt (length a) (length b) ≡ t → F (if t then b else a)
    go true e = hit (lt_true (length a) (length b) e)
    go false e = miss (lt_false (length a) (length b) e)

-- what the owner's view is after the step, and what it keeps of the other's
glues : (v w : View) (h : List BoardEvent) → Sees v h → Sees w h → Contains v.out w.caller →
    Sees (glued v w) h × Joined (glued v w) (glued v w).stage
glues v w h sv sw out = longer_cases v.seen w.seen Goal
    (λ le. let m = between v.seen w.seen sv.rest sw.rest (sv.whole ∙ sym sw.whole) le in
    let past : All (Past v) sw.rest = all_right (Past v) m.0 sw.rest (subst (All (Past v)) m.2 sv.past) in
    let fresh : All (Past v) m.0 = all_left (Past v) m.0 sw.rest (subst (All (Past v)) m.2 sv.past) in (
      record {
        rest = sw.rest;
        whole = sw.whole;
        past =
            all_both (Past v) (Past w) Both sw.rest past_both past sw.past;
      },
      (
        record { rest = m.0; whole = m.1; past = fresh },
        ([], append-nil w.seen, no_event (λ e. (caller_of e) ≢ w.caller)),
        counts,
      ),
    ))
    (λ le. let m = between w.seen v.seen sw.rest sv.rest (sw.whole ∙ sym sv.whole) le in
    let whole : All (Past w) (m.0 ++ sv.rest) = subst (All (Past w)) m.2 sw.past in (
      record {
        rest = sv.rest;
        whole = sv.whole;
        past =
            all_both (Past v) (Past w) Both sv.rest past_both sv.past (all_right (Past w) m.0 sv.rest whole);
      },
      (
        record { rest = []; whole = append-nil v.seen; past = no_event (Past v) },
        (
          m.0,
          m.1,
          all_of (Past w) (λ e. (caller_of e) ≢ w.caller) m.0 (λ e p. p.0)
              (all_left (Past w) m.0 sv.rest whole),
        ),
        counts,
      ),
    ))
  where
    Goal : List BoardEvent → Type 0
    Goal l =
        let u : View = record v {
          seen = l;
          out = without w.caller v.out;
          stage = joined v.seen w.seen v.out w.caller;
        } in
        Sees u h × Joined u u.stage

    Both : BoardEvent → Type 0
    Both e = ((caller_of e) ≢ v.caller) × (v.caller ≡ 0 → Contains (without w.caller v.out) (caller_of e))

    counts : length v.out ≡ length (without w.caller v.out) + 1
    counts = length-without w.caller v.out out

    past_both : (e : BoardEvent) → Past v e → Past w e → Both e
    past_both e p q = (p.0, λ z. in_without w.caller v.out (caller_of e) (p.1 z) q.0)

fewer_callers : (made : ℕ) (out : List ℕ) (history : List BoardEvent) (views : List View) →
    Callers made out history views → (v : View) (other : ℕ) (w both : View) → get_elem? views 0 ≡ some v →
    live_count v.stage ≡ 1 → other ≢ 0 → get_elem? views other ≡ some w
    → live_count w.stage ≡ 1 → both.caller ≡ v.caller → both.made ≡ v.made → both.out ≡ without w.caller v.out →
    live_count both.stage ≡ 1 → Joined both both.stage → get_elem? (set views 0 both) other ≡ some w
    → Callers made (without w.caller out) history (set (set views 0 both) other nobody)
fewer_callers made out history views old v other w both at live ne at_w live_w who makes outs live_b joins at' =
    let c : ℕ = w.caller in let is : v ≡ old.owner = one_view views 0 v old.owner at old.owner_at in
    let vs : List View = set views 0 both in
    let apart : v.caller ≢ c = λ e. ne (sym (old.apart 0 v other w at at_w live live_w e)) in
    let Out : ℕ → View → Type 0 = λ j x. j ≢ other → live_count x.stage ≡ 1 → Contains (without c out) x.caller in
    let R : ℕ → View → ℕ → View → Type 0 = λ i u j x. live_count u.stage ≡ 1 → live_count x.stage ≡ 1 →
    u.caller ≡ x.caller → i ≡ j in record {
      few = omega (
        arith,
        sum_set (λ (v : View). live_count v.stage) views 0 v both at,
        sum_set (λ (v : View). live_count v.stage) vs other w nobody at',
        old.few,
      );
      limit = old.limit;
      owner = both;
      owner_at = set_else vs other 0 nobody (λ e. ne (sym e)) ∙ set_at views 0 v both at;
      owner_is = (
        who ∙ (ap (λ (x : View). x.caller) is ∙ old.owner_is.0),
        makes ∙
            (ap (λ (x : View). x.made) is ∙ old.owner_is.1),
        outs ∙
            ap (without c) (ap (λ (x : View). x.out) is ∙ old.owner_is.2),
        live_b,
      );
      outs = each_set (λ j x. live_count x.stage ≡ 1 → Contains (without c out) x.caller) vs other nobody
          (λ l. absurd (omega arith))
          (λ j x off at'' l. each_set Out views 0 both
          (λ _ _. subst (Contains (without c out)) (sym who)
          (in_without c out v.caller (old.outs 0 v at live) apart))
          (λ j x _ at3 off l. in_without c out x.caller (old.outs j x at3 l)
          (λ e. off (old.apart j x other w at3 at_w l live_w e))) j x at'' off l);
      each_out = λ k h. let f = old.each_out k (from_without c out k h) in
          let off : f.0 ≢ other = λ e. not_in_without c out old.differ
          (subst (Contains (without c out))
          (sym f.4 ∙ ap (λ (x : View). x.caller)
          (one_view views other f.1 w (subst (λ (i : ℕ). get_elem? views i ≡ some f.1) e f.2) at_w)) h) in
          let g = there_set (λ (x : View). (live_count x.stage ≡ 1) × (x.caller ≡ k)) views 0 v both f.0 f.1 at f.2
          (f.3, f.4) (λ e. (live_b, who ∙ e.1)) in
          (f.0, g.0, set_else vs other f.0 nobody off ∙ g.1, g.2.0, g.2.1);
      apart = pairs_set R vs other nobody (λ _ _ _. refl) (λ j x _ _ l _ _. absurd (omega arith))
          (λ j x _ _ _ l _. absurd (omega arith))
          (pairs_set R views 0 both (λ _ _ _. refl) (λ j x _ at'' _ m e. old.apart 0 v j x at at'' live m (sym who ∙ e))
          (λ j x _ at'' l _ e. old.apart j x 0 v at'' at l live (e ∙ who)) old.apart);
      differ = differ_without c out old.differ;
      below = all_without (λ c. c < made) c out old.below;
      events_below = old.events_below;
      joins = each_set (λ j x. Joined x x.stage) vs other nobody tt
          (λ j x _ at''. each_set (λ j x. Joined x x.stage) views 0 both joins (λ j x _ at3. old.joins j x at3) j x
          at'');
    }

pub joins : (key : Content) (id other : ℕ) (v w : View) → id ≡ 0 → v.stage ≡ idle → w.stage ≡ idle →
    Joins (Shared key) id v other w (glued v w) nobody
joins key id other v w first st st' s r at0 apart0 at0' =
    let both : View = glued v w in let vs : List View = set s.views 0 both in
    let at : get_elem? s.views 0 ≡ some v = subst (λ (k : ℕ). get_elem? s.views k ≡ some v) first at0 in
    let ne : other ≢ 0 = λ e. apart0 (e ∙ sym first) in
    let at' : get_elem? vs other ≡ some w =
    subst (λ (k : ℕ). get_elem? (set s.views k both) other ≡ some w) first at0' in
    let at_w : get_elem? s.views other ≡ some w = sym (set_else s.views 0 other both ne) ∙ at' in let o = r.callers in
    let live : live_count v.stage ≡ 1 = ap live_count st in let live_w : live_count w.stage ≡ 1 = ap live_count st' in
    let is : v ≡ o.owner = one_view s.views 0 v o.owner at o.owner_at in
    let outs : v.out ≡ r.out = ap (λ (x : View). x.out) is ∙ o.owner_is.2 in
    let out : Contains v.out w.caller =
    subst (λ (l : List ℕ). Contains l w.caller) (sym outs) (o.outs other w at_w live_w) in
    let g = glues v w r.history (r.counted.sees 0 v at live) (r.counted.sees other w at_w live_w) out in
    subst (λ (k : ℕ). Shared key record {
      words = s.words;
      homes = s.homes;
      views =
          set (set s.views k both) other nobody;
    }) (sym first) record {
      serving = r.serving;
      next = r.next;
      spot = r.spot;
      history = r.history;
      made = r.made;
      out = without w.caller r.out;
      wide = r.wide;
      tickets = kept_tickets r.serving r.next s.words vs
          (kept_tickets r.serving r.next s.words s.views r.tickets s.words refl refl 0 v both at
          (sym (ap ticket_count st)) (λ _ h. absurd h)) s.words refl refl other w nobody at' (sym (ap ticket_count st'))
          (λ _ h. absurd h);
      slot = kept_slot r.serving s.homes vs r.spot
          (kept_slot r.serving s.homes s.views r.spot r.slot 0 v both at (λ t. idle_turn v.stage t st)
          (λ t. joined_turn v.seen w.seen v.out w.caller t)) other w nobody at' (λ t. idle_turn w.stage t st')
          (λ t. spent_turn t);
      counted = kept_history key.setup r.history s.words s.homes vs
          (kept_history key.setup r.history s.words s.homes s.views r.counted s.words s.homes refl r.counted.kept 0 both
          (λ t e. absurd (joined_turn v.seen w.seen v.out w.caller t e)) (λ _. (g.0, r.counted.names 0 v at live)))
          s.words s.homes refl r.counted.kept other nobody (λ t e. absurd (spent_turn t e)) (λ l. absurd (omega arith));
      callers = fewer_callers r.made r.out r.history s.views o v other w both at live ne at_w live_w refl refl refl refl
          g.1 at';
    }

abbrev IsMade : View → BoardEvent → Type 0
IsMade v e = (caller_of e) < v.made

-- the read after a join
pub tells : (key : Content) (n id : ℕ) (me : Mine) (a b : List BoardEvent) (l : List ℕ) (c : ℕ) →
    me.0.stage ≡ joined a b l c → Allows (Shared key) n id me 0 (λ x. x) (told (step n 0 0 0 none) me)
tells key n id me a b l c st s r deep at _ =
    let v : View = me.0 in let w : View = at_stage v idle in let live : live_count v.stage ≡ 1 = ap live_count st in
    let sees = r.counted.sees id v at live in (
      w,
      keeps,
      tt,
      subst (λ (ws : List ℕ). Shared key record { words = ws; homes = s.homes; views = set s.views id w })
          (sym (set-get_or s.words 0 0)) record {
            serving = r.serving;
            next = r.next;
            spot = r.spot;
            history = r.history;
            made = r.made;
            out = r.out;
            wide = r.wide;
            tickets = kept_tickets r.serving r.next s.words s.views r.tickets s.words refl refl id v w at
                (sym (ap ticket_count st)) (λ _ h. absurd h);
            slot = kept_slot r.serving s.homes s.views r.spot r.slot id v w at
                (λ t e. joined_turn a b l c t (sym st ∙ e))
                (λ t. idle_turn w.stage t refl);
            counted = kept_history key.setup r.history s.words s.homes s.views r.counted s.words s.homes refl
                r.counted.kept
                id w (λ t e. absurd (idle_turn w.stage t refl e))
                (λ _. (
                  record { rest = sees.rest; whole = sees.whole; past = sees.past },
                  r.counted.names id v at live,
                ));
            callers = kept_callers r.made r.out r.history s.views r.callers id v w at (sym live) refl refl refl tt;
          },
      (
        refl,
        refl,
        r.callers.joins id v at,
        (λ who. all_left (IsMade v) v.seen sees.rest
            (subst (All (IsMade v)) (sym sees.whole)
            (only_made r.made r.out r.history s.views r.callers id v at live who))),
      ),
    )

-- what a join comes to
pub has_joined : (v w u : View) → u ≡ at_stage (glued v w) idle → Joined (glued v w) (glued v w).stage →
    OnlyMade (glued v w) (glued v w).seen → HasJoined v w u
has_joined v w u is kept made = subst (HasJoined v w) (sym is) record {
  fresh = record { rest = kept.0.rest; whole = kept.0.whole; past = kept.0.past };
  made = made;
  others = kept.1;
  fewer = kept.2;
}
