-- The tickets, after each kind of step.
use Rattle.board_share.proofs.Common.{◌≡◌, ℕ, ◌+◌, ◌%◌, ◌^◌, ◌<◌, ◌≤◌, ◌≢◌, List, length, get_or, set, subst, sym, ap}
use Rattle.board_share.proofs.Common.{◌∙◌, refl, arith, get_or-set_same, get_or-set_other, sum_by-le-sum_by, some}
use Rattle.board_share.proofs.Common.{get_elem?, one_turn, Stage, idle, waits, turn, spent, joined, View, at_stage}
use Rattle.board_share.proofs.Common.{ticket_count, live_count, HasTicket, tickets_of, live_of, Tickets}
use Rattle.std.proofs.Math.Nat.{mod-add-mod}
use Rattle.board_share.proofs.Views.{each_set, pairs_set, sum_set}

-- no more seats wait than there are
ticket_le_live : (st : Stage) → ticket_count st ≤ live_count st
ticket_le_live idle = omega arith
ticket_le_live (waits t) = omega arith
ticket_le_live (turn t) = omega arith
ticket_le_live spent = omega arith
ticket_le_live (joined a b l c) = omega arith

pub tickets_le_live : (vs : List View) → tickets_of vs ≤ live_of vs
tickets_le_live vs = sum_by-le-sum_by (λ (v : View). ticket_count v.stage) (λ (v : View). live_count v.stage) vs
    (λ v. ticket_le_live v.stage)

module _ (serving next : ℕ) (words : List ℕ) (views : List View) (old : Tickets serving next words views) where
  -- the ticket is the one that is served where their remainders agree
  pub is_served : live_of views ≤ 4294967296 → (id : ℕ) (v : View) → get_elem? views id ≡ some v → (t : ℕ) →
      HasTicket v.stage t → get_or words 2 0 ≡ t % 2 ^ 64 → serving ≡ t
  is_served few id v at t has found = let r = old.in_range id v at t has in let low : serving ≤ t = r.0 in
      let high : t < next = r.1 in let le = tickets_le_live views in let c = old.counted in
      one_turn serving t (2 ^ 64) low (omega arith) (sym old.serving_is ∙ found)

  -- a seat draws the next ticket
  pub drawn : length words ≡ 3 → (id : ℕ) (v : View) → get_elem? views id ≡ some v → ticket_count v.stage ≡ 0
      → Tickets serving (next + 1) (set words 1 ((get_or words 1 0 + 1) % 2 ^ 64))
      (set views id (at_stage v (waits next)))
  drawn wide id v at none = let w : View = at_stage v (waits next) in record {
    next_is = get_or-set_same words 1 _ 0 (omega arith) ∙ ap (λ (k : ℕ). (k + 1) % 2 ^ 64) old.next_is ∙
        mod-add-mod next (2 ^ 64) 1;
    serving_is = get_or-set_other words 1 2 _ 0 (λ e. omega arith) ∙ old.serving_is;
    counted = omega (arith, sum_set (λ (v : View). ticket_count v.stage) views id v w at, old.counted);
    in_range = each_set (λ j x. (t : ℕ) → HasTicket x.stage t → (serving ≤ t) × (t < next + 1)) views id w
        (λ t is. let is' : next ≡ t = is in let c = old.counted in (omega arith, omega arith))
        (λ j x _ at' t has. let r = old.in_range j x at' t has in (r.0, omega arith));
    differ = pairs_set (λ i u j x. (t : ℕ) → HasTicket u.stage t → HasTicket x.stage t → i ≡ j) views id w
        (λ t a b. refl)
        (λ j x _ at' t is has. let is' : next ≡ t = is in let r = old.in_range j x at' t has in absurd (omega arith))
        (λ j x _ at' t has is. let is' : next ≡ t = is in let r = old.in_range j x at' t has in absurd (omega arith))
        old.differ;
  }

  -- a step that changes neither word, of a seat that keeps its ticket, if it has one
  pub kept_tickets : (words' : List ℕ) → get_or words' 1 0 ≡ get_or words 1 0 → get_or words' 2 0 ≡ get_or words 2 0 →
      (id : ℕ) (v w : View) → get_elem? views id ≡ some v → ticket_count w.stage ≡ ticket_count v.stage
      → ((t : ℕ) → HasTicket w.stage t → HasTicket v.stage t) → Tickets serving next words' (set views id w)
  kept_tickets words' a b id v w at same has = record {
    next_is = a ∙ old.next_is;
    serving_is = b ∙ old.serving_is;
    counted = omega (arith, sum_set (λ (v : View). ticket_count v.stage) views id v w at, old.counted);
    in_range = each_set (λ j x. (t : ℕ) → HasTicket x.stage t → (serving ≤ t) × (t < next)) views id w
        (λ t h. old.in_range id v at t (has t h)) (λ j x _ at' t h. old.in_range j x at' t h);
    differ = pairs_set (λ i u j x. (t : ℕ) → HasTicket u.stage t → HasTicket x.stage t → i ≡ j) views id w
        (λ t _ _. refl)
        (λ j x _ at' t mine h. old.differ id v j x at at' t (has t mine) h)
        (λ j x _ at' t h mine. old.differ j x id v at' at t h (has t mine)) old.differ;
  }

  -- the seat that is served passes the turn
  pub passed_on : length words ≡ 3 → (id : ℕ) (v w : View) → get_elem? views id ≡ some v → ticket_count v.stage ≡ 1 →
      HasTicket v.stage serving → ticket_count w.stage ≡ 0 → ((t : ℕ) → HasTicket w.stage t → ⊥)
      → Tickets (serving + 1) next (set words 2 ((get_or words 2 0 + 1) % 2 ^ 64)) (set views id w)
  passed_on wide id v w at one mine none free = record {
    next_is = get_or-set_other words 2 1 _ 0 (λ e. omega arith) ∙ old.next_is;
    serving_is = get_or-set_same words 2 _ 0 (omega arith) ∙ ap (λ (k : ℕ). (k + 1) % 2 ^ 64) old.serving_is ∙
        mod-add-mod serving (2 ^ 64) 1;
    counted = omega (arith, sum_set (λ (v : View). ticket_count v.stage) views id v w at, old.counted);
    in_range = each_set (λ j x. (t : ℕ) → HasTicket x.stage t → (serving + 1 ≤ t) × (t < next)) views id w
        (λ t h. absurd (free t h))
        (λ j x other at' t h. let r = old.in_range j x at' t h in
        let ne : serving ≢ t = λ e. other (old.differ j x id v at' at t h (subst (HasTicket v.stage) e mine)) in
        (omega arith, r.1));
    differ = pairs_set (λ i u j x. (t : ℕ) → HasTicket u.stage t → HasTicket x.stage t → i ≡ j) views id w
        (λ t _ _. refl) (λ j x _ _ t h _. absurd (free t h)) (λ j x _ _ t _ h. absurd (free t h)) old.differ;
  }
