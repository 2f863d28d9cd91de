-- Rows as proposals, one of them written.
use Rattle.board_core.proofs.Common.{◌≡◌, ℕ, suc, ◌<◌, ℤ, pos, ◌+ℤ◌, List, map, length, get_or, sym, ap, ◌∙◌, arith}
use Rattle.board_core.proofs.Common.{set, ints, length-map, get_or-map, map-set, fill_by_all, IsRaised, AnyUnit}
use Rattle.board_core.proofs.Common.{PriceLists, Schedule, supply_in, proposal_of, Proposal, reserve_in, int_at, Row}
use Rattle.board_core.proofs.Common.{raised_by, with_schedule}

pub at_mapped : (xs : List Row) (i : ℕ) (r : Row) (d : Proposal) → i < length (map proposal_of xs) → r ≡ get_or xs i r →
    get_or (map proposal_of xs) i d ≡ proposal_of r
at_mapped xs i r d lt read = get_or-map proposal_of xs i r d (omega (arith, lt, length-map xs proposal_of)) ∙
    ap proposal_of (sym read)

pub set_mapped : (F : Proposal → Proposal) (xs : List Row) (i : ℕ) (r r2 : Row) (d : Proposal) →
    i < length (map proposal_of xs) → r ≡ get_or xs i r → proposal_of r2 ≡ F (proposal_of r) →
    map proposal_of (set xs i r2) ≡ set (map proposal_of xs) i (F (get_or (map proposal_of xs) i d))
set_mapped F xs i r r2 d lt read made =
    map-set proposal_of xs i r2 ∙ ap (λ (p : Proposal). set (map proposal_of xs) i p)
    (made ∙ ap F (sym (at_mapped xs i r d lt read)))

pub same_proposal : (π ρ : PriceLists) (v w : ℤ) (s t r q : List ℤ) → π ≡ ρ → v ≡ w → s ≡ t → r ≡ q →
    (let a : Proposal = record { prices = π; value = v; supply = s; reserve = r } in
    let b : Proposal = record { prices = ρ; value = w; supply = t; reserve = q } in a ≡ b)
same_proposal π ρ v w s t r q e f g h =
    ap (λ (x : PriceLists). let a : Proposal = record { prices = x; value = v; supply = s; reserve = r } in a) e
    ∙ ap (λ (x : ℤ). let a : Proposal = record { prices = ρ; value = x; supply = s; reserve = r } in a) f
    ∙ ap (λ (x : List ℤ). let a : Proposal = record { prices = ρ; value = w; supply = x; reserve = r } in a) g
    ∙ ap (λ (x : List ℤ). let a : Proposal = record { prices = ρ; value = w; supply = t; reserve = x } in a) h

raised_is : (old new : List ℤ) (f : ℕ → ℤ) → IsRaised old new f → new ≡ raised_by old f
raised_is old new f h = fill_by_all (λ k. int_at old k +ℤ f k) new (length old) (pos 0) h.same_length h.each

pub added : (r r2 : Proposal) (u : AnyUnit) (s : Schedule) → IsRaised r.supply r2.supply (λ k. supply_in u s (suc k)) →
    IsRaised r.reserve r2.reserve (λ k. reserve_in s (suc k)) →
    r2.prices ≡ r.prices → r2.value ≡ r.value → r2 ≡ with_schedule r u s
added r r2 u s supply reserve prices value =
    same_proposal r2.prices r.prices r2.value r.value r2.supply (raised_by r.supply (λ k. supply_in u s (suc k)))
    r2.reserve (raised_by r.reserve (λ k. reserve_in s (suc k)))
    prices value (raised_is r.supply r2.supply (λ k. supply_in u s (suc k)) supply)
    (raised_is r.reserve r2.reserve (λ k. reserve_in s (suc k)) reserve)

-- nothing is added
pub unraised : (old new : List ℤ) (f : ℕ → ℤ) → new ≡ old → ((k : ℕ) → k < length old → f k ≡ pos 0) →
    IsRaised old new f
unraised old new f e none = record {
  same_length = ap (λ (xs : List ℤ). length xs) e;
  each = λ k lt. let z = none k lt in let x : int_at new k ≡ int_at old k = ap (λ (xs : List ℤ). int_at xs k) e in
      omega (arith, ints, z, x);
}
