-- The first greatest of the closed proposals, where one proposal is changed.
use Rattle.board_core.proofs.Common.{◌≡◌, ◌≢◌, ℕ, zero, suc, ◌<◌, ℤ, pos, List, [], ◌∷◌, take, get_or, refl, ap, ◌∙◌}
use Rattle.board_core.proofs.Common.{arith, ints, map-set, get_or-set_other, IsFirstUpTo, values_of, Proposal, int_at}
use Rattle.std.proofs.Common.{set}

-- a change that leaves the value
pub same_values : (ps : List Proposal) (i : ℕ) (r d : Proposal) → r.value ≡ (get_or ps i d).value →
    values_of (set ps i r) ≡ values_of ps
same_values [] i r d e = refl
same_values (p ∷ ps) zero r d e = ap (λ (z : ℤ). z ∷ values_of ps) e
same_values (p ∷ ps) (suc i) r d e = ap (λ (zs : List ℤ). p.value ∷ zs) (same_values ps i r d e)

-- numbers that are the same up to there
same_first : (values others : List ℤ) (count place : ℕ) → ((k : ℕ) → k < count → int_at others k ≡ int_at values k) →
    IsFirstUpTo values count place → IsFirstUpTo others count place
same_first values others count place same h =
    let w = h.within in
    let here = same place w in record {
      within = w;
      greatest = λ k l. let a = same k l in let g = h.greatest k l in omega (arith, ints, a, here, g);
      first = λ k l. let a = same k (omega (arith, l, w)) in let g = h.first k l in omega (arith, ints, a, here, g);
    }

-- a change at the place after them
pub kept_first : (ps : List Proposal) (count place : ℕ) (r : Proposal) → IsFirstUpTo (values_of ps) count place →
    IsFirstUpTo (values_of (set ps count r)) count place
kept_first ps count place r h = same_first (values_of ps) (values_of (set ps count r)) count place
    (λ k l. let off : k ≢ count = λ e. omega (arith, e, l) in
    ap (λ (zs : List ℤ). int_at zs k) (map-set (λ (p : Proposal). p.value) ps count r) ∙
    get_or-set_other (values_of ps) count k r.value (pos 0) off) h

take_value : (ps : List Proposal) (n k : ℕ) → k < n → int_at (values_of (take n ps)) k ≡ int_at (values_of ps) k
take_value ps zero k l = absurd (omega (arith, l))
take_value [] (suc n) k l = refl
take_value (p ∷ ps) (suc n) zero l = refl
take_value (p ∷ ps) (suc n) (suc k) l = take_value ps n k (omega (arith, l))

-- among those alone
pub first_of_taken : (ps : List Proposal) (count place : ℕ) → IsFirstUpTo (values_of ps) count place →
    IsFirstUpTo (values_of (take count ps)) count place
first_of_taken ps count place h =
    same_first (values_of ps) (values_of (take count ps)) count place (take_value ps count) h
