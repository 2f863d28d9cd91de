-- The callers, after each kind of step.
use Rattle.board_share.proofs.Common.{◌≡◌, ℕ, ◌<◌, ◌≢◌, List, [], ◌∷◌, ◌++◌, set, subst, sym, ap, ◌∙◌, refl, arith, All}
use Rattle.board_share.proofs.Common.{Contains, All-append, some, get_elem?, BoardEvent, caller_of, View, live_count}
use Rattle.board_share.proofs.Common.{Past, Joined, Callers, OnlyMade}
use Rattle.board_share.proofs.Views.{each_set, pairs_set, sum_set, there_set, one_view}
use Rattle.board_share.proofs.HistorySteps.{all_one}

module _ (made : ℕ) (out : List ℕ) (history : List BoardEvent) (views : List View)
    (old : Callers made out history views) where
  abbrev pub IsOwner : View → Type 0
  IsOwner o = (o.caller ≡ 0) × (o.made ≡ made) × (o.out ≡ out) × (live_count o.stage ≡ 1)

  -- a step that makes no event, of a seat that stays the same caller's
  pub kept_callers : (id : ℕ) (v w : View) → get_elem? views id ≡ some v → live_count w.stage ≡ live_count v.stage →
      w.caller ≡ v.caller → w.made ≡ v.made → w.out ≡ v.out → Joined w w.stage →
      Callers made out history (set views id w)
  kept_callers id v w at live who makes outs joins =
      let o = there_set IsOwner views id v w 0 old.owner at old.owner_at old.owner_is
      (λ f. (who ∙ f.0, makes ∙ f.1, outs ∙ f.2, live ∙ f.3)) in record {
        few = omega (arith, sum_set (λ (v : View). live_count v.stage) views id v w at, old.few);
        limit = old.limit;
        owner = o.0;
        owner_at = o.1;
        owner_is = o.2;
        outs = each_set (λ j x. live_count x.stage ≡ 1 → Contains out x.caller) views id w
            (λ l. subst (Contains out) (sym who) (old.outs id v at (sym live ∙ l))) (λ j x _ at' l. old.outs j x at' l);
        each_out = λ c h. let f = old.each_out c h in
            let g = there_set (λ (x : View). (live_count x.stage ≡ 1) × (x.caller ≡ c)) views id v w f.0 f.1 at f.2
            (f.3, f.4) (λ e. (live ∙ e.0, who ∙ e.1)) in (f.0, g.0, g.1, g.2.0, g.2.1);
        apart = pairs_set (λ i u j x. live_count u.stage ≡ 1 → live_count x.stage ≡ 1 → u.caller ≡ x.caller → i ≡ j)
            views id w (λ _ _ _. refl)
            (λ j x _ at' l m e. old.apart id v j x at at' (sym live ∙ l) m (sym who ∙ e))
            (λ j x _ at' l m e. old.apart j x id v at' at l (sym live ∙ m) (e ∙ who)) old.apart;
        differ = old.differ;
        below = old.below;
        events_below = old.events_below;
        joins = each_set (λ j x. Joined x x.stage) views id w joins (λ j x _ at'. old.joins j x at');
      }

  -- the same history with one more event, of a caller with a seat
  pub more_events : (e : BoardEvent) → (caller_of e) < made → Callers made out (history ++ e ∷ []) views
  more_events e lt = record {
    few = old.few;
    limit = old.limit;
    owner = old.owner;
    owner_at = old.owner_at;
    owner_is = old.owner_is;
    outs = old.outs;
    each_out = old.each_out;
    apart = old.apart;
    differ = old.differ;
    below = old.below;
    events_below = All-append (λ (e : BoardEvent). (caller_of e) < made) history (e ∷ []) old.events_below
        (all_one (λ (e : BoardEvent). (caller_of e) < made) e lt);
    joins = old.joins;
  }

  -- what a caller with a seat does is past what each other seat has seen
  pub past_others : (id : ℕ) (v : View) → get_elem? views id ≡ some v → live_count v.stage ≡ 1 → (e : BoardEvent) →
      (caller_of e) ≡ v.caller
      → (j : ℕ) (x : View) → j ≢ id → get_elem? views j ≡ some x → live_count x.stage ≡ 1 → Past x e
  past_others id v at live e by j x other at' l = (
    λ same. other (old.apart j x id v at' at l live (sym same ∙ by)),
    λ is. let first : j ≡ 0 = old.apart j x 0 old.owner at' old.owner_at l old.owner_is.3 (is ∙ sym old.owner_is.0) in
        let one : x ≡ old.owner = one_view views 0 x old.owner (subst (λ (k : ℕ). get_elem? views k ≡ some x) first at')
        old.owner_at in
        let has : Contains out (caller_of e) = subst (Contains out) (sym by) (old.outs id v at live) in
        subst (λ (l : List ℕ). Contains l (caller_of e)) (sym (ap (λ (y : View). y.out) one ∙ old.owner_is.2)) has,
  )

  -- a caller with a seat has a number below the number made
  pub is_made : (id : ℕ) (v : View) → get_elem? views id ≡ some v → live_count v.stage ≡ 1 → v.caller < made
  is_made id v at live = let c = old.outs id v at live in subst (λ (k : ℕ). k < made) c.2 (old.below c.0 v.caller c.1)

  -- the owner knows that events are of callers whose seats were made
  pub only_made : (id : ℕ) (v : View) → get_elem? views id ≡ some v → live_count v.stage ≡ 1 → OnlyMade v history
  only_made id v at live who =
      let first : id ≡ 0 = old.apart id v 0 old.owner at old.owner_at live old.owner_is.3 (who ∙ sym old.owner_is.0) in
      let is : v ≡ old.owner = one_view views 0 v old.owner (subst (λ (k : ℕ). get_elem? views k ≡ some v) first at)
      old.owner_at in
      subst (λ (n : ℕ). All (λ (e : BoardEvent). (caller_of e) < n) history)
      (sym (ap (λ (x : View). x.made) is ∙ old.owner_is.1)) old.events_below
