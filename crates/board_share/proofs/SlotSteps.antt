-- Where the board is, after each kind of step.
use Rattle.board_share.proofs.Common.{◌≡◌, ℕ, ◌+◌, List, length, set, subst, sym, ap, ◌∙◌, refl, arith, some, none}
use Rattle.board_share.proofs.Common.{get_elem?, set_here, set_else, Content, Stage, waits, turn, View, Homes}
use Rattle.board_share.proofs.Common.{HasTicket, Tickets, Spot, home, away, InSpot, Slot}
use mathlib.Core.Option as maybe
use Rattle.board_share.proofs.Views.{each_set, one_view, set_at}

-- a view with a turn that is not the other's is another view
not_turn : (st : Stage) (t u : ℕ) → st ≡ waits t → st ≡ turn u → ⊥
not_turn st t u a b = cc

home_away : (spot : Spot) (j : ℕ) → spot ≡ home → spot ≡ away j → ⊥
home_away spot j a b = cc

pub which : (i j : ℕ) → away i ≡ away j → i ≡ j
which i j e = cc

which_turn : (t u : ℕ) → turn t ≡ turn u → t ≡ u
which_turn t u e = cc

pub same_board : (o : maybe.Option (maybe.Option Content)) (b c : Content) → o ≡ some (some b) → o ≡ some (some c) →
    c ≡ b
same_board o b c p q = cc

module _ (serving : ℕ) (homes : Homes) (views : List View) where
  -- the seat that is served and has not had its turn finds the board at home
  pub at_home : (next : ℕ) (words : List ℕ) → Tickets serving next words views → (id : ℕ) (v : View) →
      get_elem? views id ≡ some v → v.stage ≡ waits serving → (spot : Spot) → InSpot serving homes views spot
      → (spot ≡ home) × ((b : Content) × (get_elem? homes 0 ≡ some (some b)))
  at_home next words tickets id v at st home lies = (refl, lies)
  at_home next words tickets id v at st (away j) lies =
      let u : View = lies.0 in
      let has : HasTicket u.stage serving = subst (λ (s : Stage). HasTicket s serving) (sym lies.2) refl in
      let mine : HasTicket v.stage serving = subst (λ (s : Stage). HasTicket s serving) (sym st) refl in
      let same : j ≡ id = tickets.differ j u id v lies.1 at serving has mine in
      let is : v ≡ u = one_view views id v u at (subst (λ (k : ℕ). get_elem? views k ≡ some u) same lies.1) in
      absurd (not_turn v.stage serving serving st (ap (λ (x : View). x.stage) is ∙ lies.2))

  -- the seat that has its turn has the board
  pub in_hand : (next : ℕ) (words : List ℕ) → Tickets serving next words views → (id : ℕ) (v : View) (t : ℕ) →
      get_elem? views id ≡ some v → v.stage ≡ turn t → (spot : Spot) → Slot serving spot homes views
      → (spot ≡ away id) × (t ≡ serving) × (get_elem? homes 0 ≡ some none)
  in_hand next words tickets id v t at st spot old = from spot old.lies (old.turns id v at t st)
    where
      from : (spot : Spot) → InSpot serving homes views spot → spot ≡ away id →
          (spot ≡ away id) × (t ≡ serving) × (get_elem? homes 0 ≡ some none)
      from home l is = absurd (home_away home id refl is)
      from (away j) l is = let same : j ≡ id = which j id is in let u : View = l.0 in
          let one : v ≡ u = one_view views id v u at (subst (λ (k : ℕ). get_elem? views k ≡ some u) same l.1) in
          (is, which_turn t serving (sym st ∙ ap (λ (x : View). x.stage) one ∙ l.2), l.3)

  module _ (spot : Spot) (old : Slot serving spot homes views) where
    -- the seat takes the board
    pub taken : length homes ≡ 1 → spot ≡ home → (id : ℕ) (v w : View) → get_elem? views id ≡ some v →
        w.stage ≡ turn serving → Slot serving (away id) (set homes 0 none) (set views id w)
    taken deep is id v w at st = record {
      lies = (w, set_at views id v w at, st, set_here homes 0 none (omega arith));
      turns = each_set (λ j x. (t : ℕ) → x.stage ≡ turn t → away id ≡ away j) views id w (λ t _. refl)
          (λ j x _ at' t e. absurd (home_away spot j is (old.turns j x at' t e)));
    }

    -- a seat whose stage is no turn goes on to one that is none either
    pub kept_slot : (id : ℕ) (v w : View) → get_elem? views id ≡ some v → ((t : ℕ) → v.stage ≡ turn t → ⊥) →
        ((t : ℕ) → w.stage ≡ turn t → ⊥) → Slot serving spot homes (set views id w)
    kept_slot id v w at before after = record {
      lies = lies_on spot old.lies;
      turns = each_set (λ j x. (t : ℕ) → x.stage ≡ turn t → spot ≡ away j) views id w (λ t e. absurd (after t e))
          (λ j x _ at' t e. old.turns j x at' t e);
    }
      where
        lies_on : (spot : Spot) → InSpot serving homes views spot → InSpot serving homes (set views id w) spot
        lies_on home l = l
        lies_on (away j) l = let u : View = l.0 in (
          u,
          set_else views id j w
              (λ e. before serving (ap (λ (x : View). x.stage)
              (one_view views id v u at (subst (λ (k : ℕ). get_elem? views k ≡ some u) e l.1)) ∙ l.2)) ∙ l.1,
          l.2,
          l.3,
        )

    -- the seat that has the board keeps it
    pub kept_turn : (id : ℕ) (v w : View) → get_elem? views id ≡ some v → spot ≡ away id →
        get_elem? homes 0 ≡ some none → w.stage ≡ turn serving → Slot serving spot homes (set views id w)
    kept_turn id v w at is out st = record {
      lies = subst (InSpot serving homes (set views id w)) (sym is) (w, set_at views id v w at, st, out);
      turns = each_set (λ j x. (t : ℕ) → x.stage ≡ turn t → spot ≡ away j) views id w (λ t _. is)
          (λ j x _ at' t e. old.turns j x at' t e);
    }

    -- and gives it back
    pub returned : length homes ≡ 1 → (id : ℕ) (w : View) (b : Content) → spot ≡ away id →
        ((t : ℕ) → w.stage ≡ turn t → ⊥) → Slot (serving + 1) home (set homes 0 (some b)) (set views id w)
    returned deep id w b is after = record {
      lies = (b, set_here homes 0 (some b) (omega arith));
      turns = each_set (λ j x. (t : ℕ) → x.stage ≡ turn t → home ≡ away j) views id w (λ t e. absurd (after t e))
          (λ j x other at' t e. absurd (other (which j id (sym (old.turns j x at' t e) ∙ is))));
    }
