-- The ledger with the opening proposals.
use Rattle.board_core.proofs.Common.{◌≡◌, ℕ, zero, suc, ◌<◌, ◌≤◌, ◌⊎◌, ℤ, pos, inl, inr, List, length, get_or, refl}
use Rattle.board_core.proofs.Common.{sym, ap, ◌∙◌, arith, set, length-set, get_or-replicate, length-replicate}
use Rattle.board_core.proofs.Common.{get_or-set_same, get_or-set_other, length-map, replicate, Proposal}
use Rattle.board_core.proofs.Common.{opening_prices_of, LedgerValue, blank, with_prices, blank_ledger, with_openings}

same_or : (x y : ℕ) → (x ≡ y) ⊎ (x ≡ y → ⊥)
same_or x y = grind arith

pub same_ledger : (p p2 : List Proposal) (e e2 : List ℤ) (k k2 o o2 : ℕ) → p ≡ p2 → e ≡ e2 → k ≡ k2 → o ≡ o2 →
    (let a : LedgerValue = record { proposals = p; earned = e; closed = k; opened = o } in
    let b : LedgerValue = record { proposals = p2; earned = e2; closed = k2; opened = o2 } in a ≡ b)
same_ledger p p2 e e2 k k2 o o2 f g h i =
    ap (λ (x : List Proposal). let a : LedgerValue = record { proposals = x; earned = e; closed = k; opened = o } in a)
    f
    ∙ ap (λ (x : List ℤ). let a : LedgerValue = record { proposals = p2; earned = x; closed = k; opened = o } in a) g
    ∙ ap (λ (x : ℕ). let a : LedgerValue = record { proposals = p2; earned = e2; closed = x; opened = o } in a) h
    ∙ ap (λ (x : ℕ). let a : LedgerValue = record { proposals = p2; earned = e2; closed = k2; opened = x } in a) i

-- the first n proposals of a blank ledger are open at the opening prices
pub record IsOpened (start : List ℤ) (budget n : ℕ) (l : LedgerValue) : Type 0 where
  pub count : length l.proposals ≡ budget
  pub earned : l.earned ≡ replicate budget (pos 0)
  pub closed : l.closed ≡ 0
  pub opened : l.opened ≡ n
  pub prices : (k : ℕ) (d : Proposal) → k < n → (get_or l.proposals k d).prices ≡ opening_prices_of start (suc k)
  pub horizon : (k : ℕ) (d : Proposal) → k < budget → length (get_or l.proposals k d).prices.energy ≡ length start
  pub supply : (k : ℕ) (d : Proposal) → k < budget → (get_or l.proposals k d).supply ≡ replicate (length start) (pos 0)
  pub reserve : (k : ℕ) (d : Proposal) → k < budget →
      (get_or l.proposals k d).reserve ≡ replicate (length start) (pos 0)

pub opened : (start : List ℤ) (budget n : ℕ) → n ≤ budget →
    IsOpened start budget n (with_openings start (blank_ledger (length start) budget) n)
opened start budget zero h =
    let T = length start in
    let at_ : (k : ℕ) (d : Proposal) → k < budget → get_or (replicate budget (blank T)) k d ≡ blank T =
    λ k d lt. get_or-replicate budget k (blank T) d lt in
    record {
      count = length-replicate budget (blank T);
      earned = refl;
      closed = refl;
      opened = refl;
      prices = λ k d lt. absurd (omega (arith, lt));
      horizon = λ k d lt. ap (λ (r : Proposal). length r.prices.energy) (at_ k d lt) ∙ length-replicate T (pos 0);
      supply = λ k d lt. ap (λ (r : Proposal). r.supply) (at_ k d lt);
      reserve = λ k d lt. ap (λ (r : Proposal). r.reserve) (at_ k d lt);
    }
opened start budget (suc n) h =
    let l = with_openings start (blank_ledger (length start) budget) n in
    let old = opened start budget n (omega (arith, h)) in
    let π = opening_prices_of start (suc n) in
    let was = get_or l.proposals l.opened (blank 0) in
    let new = with_prices was π in
    let xs = set l.proposals l.opened new in
    let c = old.count in
    let o = old.opened in
    let lt0 : l.opened < length l.proposals = omega (arith, c, o, h) in
    let here : (d : Proposal) → get_or xs n d ≡ new =
    λ d. ap (λ (j : ℕ). get_or xs j d) (sym o) ∙ get_or-set_same l.proposals l.opened new d lt0 in
    let there : (k : ℕ) (d : Proposal) → (k ≡ n → ⊥) → get_or xs k d ≡ get_or l.proposals k d =
    λ k d f. get_or-set_other l.proposals l.opened k new d (λ e. f (e ∙ o)) in
    record {
      count = length-set l.proposals l.opened new ∙ old.count;
      earned = old.earned;
      closed = old.closed;
      opened = omega (arith, o);
      prices = λ k d lt. elim (same_or k n) [
        | inl e ↦ ap (λ (j : ℕ). (get_or xs j d).prices) e ∙ ap (λ (r : Proposal). r.prices) (here d) ∙
            ap (λ (j : ℕ). opening_prices_of start (suc j)) (sym e)
        | inr f ↦ ap (λ (r : Proposal). r.prices) (there k d f) ∙ old.prices k d (below k n lt f)
      ];
      horizon = λ k d lt. elim (same_or k n) [
        | inl e ↦ ap (λ (j : ℕ). length (get_or xs j d).prices.energy) e ∙
            ap (λ (r : Proposal). length r.prices.energy) (here d) ∙ length-map start _
        | inr f ↦ ap (λ (r : Proposal). length r.prices.energy) (there k d f) ∙ old.horizon k d lt
      ];
      supply = λ k d lt. elim (same_or k n) [
        | inl e ↦ ap (λ (j : ℕ). (get_or xs j d).supply) e ∙ ap (λ (r : Proposal). r.supply) (here d) ∙
            old.supply l.opened (blank 0) (omega (arith, o, h))
        | inr f ↦ ap (λ (r : Proposal). r.supply) (there k d f) ∙ old.supply k d lt
      ];
      reserve = λ k d lt. elim (same_or k n) [
        | inl e ↦ ap (λ (j : ℕ). (get_or xs j d).reserve) e ∙ ap (λ (r : Proposal). r.reserve) (here d) ∙
            old.reserve l.opened (blank 0) (omega (arith, o, h))
        | inr f ↦ ap (λ (r : Proposal). r.reserve) (there k d f) ∙ old.reserve k d lt
      ];
    }
  where
    below : (k n : ℕ) → k < suc n → (k ≡ n → ⊥) → k < n
    below k n lt f = grind (arith, lt, f)
