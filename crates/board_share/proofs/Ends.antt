-- What is left when the owner's seat alone is out.
use Rattle.board_share.proofs.Common.{◌≡◌, ℕ, zero, suc, List, [], ◌∷◌, ◌++◌, length, subst, sym, ap, ◌∙◌, refl, arith}
use Rattle.board_share.proofs.Common.{append-nil, All, Contains, some, get_elem?, State, Final, Seen, Content}
use Rattle.board_share.proofs.Common.{BoardEvent, caller_of, content, Stage, idle, turn, View, live_count, Shared, Past}
use Rattle.board_share.proofs.Common.{Spot, home, away, InSpot}
use Rattle.board_share.proofs.Views.{one_view}

-- the members of a list of one are equal
one_member : (xs : List ℕ) (a b : ℕ) → length xs ≡ 1 → Contains xs a → Contains xs b → a ≡ b
one_member [] a b l x y = absurd (omega arith)
one_member (c ∷ []) a b l (zero, lt, e) (zero, lt', e') = sym e ∙ e'
one_member (c ∷ []) a b l (zero, lt, e) (suc k, lt', e') = absurd (omega arith)
one_member (c ∷ []) a b l (suc k, lt, e) y = absurd (omega arith)
one_member (c ∷ d ∷ xs) a b l x y = absurd (omega arith)

none_left : (P : BoardEvent → Type 0) (rest : List BoardEvent) → All P rest → ((e : BoardEvent) → P e → ⊥) → rest ≡ []
none_left P [] all out = refl
none_left P (e ∷ rest) all out = absurd (out e (all 0 e (omega arith)))

idle_turn : (st : Stage) (t : ℕ) → st ≡ idle → st ≡ turn t → ⊥
idle_turn st t a b = cc

pub ends : (key : Content) (s : State Content View) (v : View) → Shared key s → get_elem? s.views 0 ≡ some v →
    v.stage ≡ idle → length v.out ≡ 1 → get_elem? s.homes 0 ≡ some (some (content v.setup v.seen))
ends key s v r at st one =
    let is : v ≡ r.callers.owner = one_view s.views 0 v r.callers.owner at r.callers.owner_at in
    let who : v.caller ≡ 0 = ap (λ (x : View). x.caller) is ∙ r.callers.owner_is.0 in
    let outs : v.out ≡ r.out = ap (λ (x : View). x.out) is ∙ r.callers.owner_is.2 in
    let live : live_count v.stage ≡ 1 = ap live_count st in
    let mine : Contains v.out v.caller =
    subst (λ (l : List ℕ). Contains l v.caller) (sym outs) (r.callers.outs 0 v at live) in
    let sees = r.counted.sees 0 v at live in
    let no_more : sees.rest ≡ [] = none_left (Past v) sees.rest sees.past
    (λ e p. p.0 (one_member v.out (caller_of e) v.caller one (p.1 who) mine)) in
    let all : v.seen ≡ r.history = sym (append-nil v.seen) ∙
    (ap (λ (l : List BoardEvent). v.seen ++ l) (sym no_more) ∙ sees.whole) in
    let named : v.setup ≡ key.setup = r.counted.names 0 v at live in
    by_spot r.spot r.slot.lies all named
  where
    by_spot : (spot : Spot) → InSpot r.serving s.homes s.views spot → v.seen ≡ r.history → v.setup ≡ key.setup →
        get_elem? s.homes 0 ≡ some (some (content v.setup v.seen))
    by_spot home l all named = l.1 ∙ ap (λ (b : Content). some (some b))
        (r.counted.kept l.0 l.1 ∙ (λ i. content (sym named i) (sym all i)))
    by_spot (away j) l all named = let u : View = l.0 in let o = r.callers in
        let is : v ≡ o.owner = one_view s.views 0 v o.owner at o.owner_at in
        let outs : v.out ≡ r.out = ap (λ (x : View). x.out) is ∙ o.owner_is.2 in
        let here : Contains v.out u.caller =
        subst (λ (l : List ℕ). Contains l u.caller) (sym outs) (o.outs j u l.1 (ap live_count l.2)) in
        let mine : Contains v.out v.caller =
        subst (λ (l : List ℕ). Contains l v.caller) (sym outs) (o.outs 0 v at (ap live_count st)) in
        let first : j ≡ 0 = o.apart j u 0 v l.1 at (ap live_count l.2) (ap live_count st)
        (one_member v.out u.caller v.caller one here mine) in
        let same : u ≡ v = one_view s.views 0 u v (subst (λ (k : ℕ). get_elem? s.views k ≡ some u) first l.1) at in
        absurd (idle_turn v.stage r.serving st (sym (ap (λ (x : View). x.stage) same) ∙ l.2))

pub ends_with : (key : Content) (id : ℕ) (v : View) (ws : List ℕ) (xs : List Content) →
    Final (Seen (Shared key) id v) ws xs → id ≡ 0 → v.stage ≡ idle → length v.out ≡ 1 →
    get_elem? xs 0 ≡ some (content v.setup v.seen)
ends_with key id v ws xs f first st one = f.4 0 (content v.setup v.seen)
    (ends key f.0 v f.1.0 (subst (λ (k : ℕ). get_elem? f.0.views k ≡ some v) first f.1.1) st one)
