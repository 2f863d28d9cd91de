-- Where there is a row, one is chosen.
use Rattle.right_report.proofs.Common.{◌≡◌, ℕ, suc, ◌<◌, ◌≤◌, Bool, true, false, ◌&&◌, cond, ℤ, pos, Some, None, Option}
use Rattle.right_report.proofs.Common.{List, [], ◌∷◌, map, length, get_or, inl, inr, refl, ap, arith, int_le, unwrap_or}
use Rattle.right_report.proofs.Common.{list_all, position_or_len, option_map, lt-ltb, ints, length-map, Proposal}
use Rattle.right_report.proofs.Common.{first_greatest, OneIsChosen}
use Rattle.std.proofs.lemmas.Bool.Decides.{leb_tells}
use Rattle.std.proofs.lemmas.List.Sums.{fails_before_first}

abbrev is_top : List ℤ → ℤ → Bool
is_top values v = list_all (λ w. int_le w v) values

le_up : (a b c : ℤ) → int_le a b ≡ true → int_le b c ≡ true → int_le a c ≡ true
le_up a b c p q = grind (arith, ints)

le_self : (a : ℤ) → int_le a a ≡ true
le_self a = grind (arith, ints)

le_other : (a b : ℤ) → int_le a b ≡ false → int_le b a ≡ true
le_other a b h = grind (arith, ints)

both : (a b : Bool) → a ≡ true → b ≡ true → (a && b) ≡ true
both true true p q = refl
both true false p q = q
both false b p q = p

first_part : (a b : Bool) → (a && b) ≡ true → a ≡ true
first_part true b h = refl
first_part false b h = h

other_part : (a b : Bool) → (a && b) ≡ true → b ≡ true
other_part true b h = h
other_part false b h = absurd cc

top_up : (values : List ℤ) (a b : ℤ) → is_top values a ≡ true → int_le a b ≡ true → is_top values b ≡ true
top_up [] a b h le = refl
top_up (v ∷ vs) a b h le =
    both _ _ (le_up v a b (first_part _ _ h) le) (top_up vs a b (other_part _ _ h) le)

-- one of the values is at least each
some_top : (v : ℤ) (vs : List ℤ) → (k : ℕ) × (k < length (v ∷ vs)) ×
    (is_top (v ∷ vs) (get_or (v ∷ vs) k (pos 0)) ≡ true)
some_top v [] = (0, omega arith, both _ _ (le_self v) refl)
some_top v (w ∷ ws) = by_test (some_top w ws)
  where
    by_test : (k : ℕ) × (k < length (w ∷ ws)) × (is_top (w ∷ ws) (get_or (w ∷ ws) k (pos 0)) ≡ true)
        → (k : ℕ) × (k < length (v ∷ w ∷ ws)) × (is_top (v ∷ w ∷ ws) (get_or (v ∷ w ∷ ws) k (pos 0)) ≡ true)
    by_test (k, inside, top) = choose (int_le v (get_or (w ∷ ws) k (pos 0))) refl
      where
        choose : (b : Bool) → int_le v (get_or (w ∷ ws) k (pos 0)) ≡ b →
            (k : ℕ) × (k < length (v ∷ w ∷ ws)) × (is_top (v ∷ w ∷ ws) (get_or (v ∷ w ∷ ws) k (pos 0)) ≡ true)
        choose true e = (suc k, omega (arith, inside), both _ _ e top)
        choose false e = (0, omega arith, both _ _ (le_self v) (top_up (w ∷ ws) _ v top (le_other v _ e)))

-- a place that passes isn't before the first
not_before : (values : List ℤ) (k : ℕ) → is_top values (get_or values k (pos 0)) ≡ true →
    k < position_or_len (is_top values) values → ⊥
not_before values k top before = let fails = fails_before_first (is_top values) values k (pos 0) before in cc

found : (values : List ℤ) → 1 ≤ length values → (k : ℕ) × (k < length values) × (first_greatest values ≡ Some k)
found [] some = absurd (omega (arith, some))
found (v ∷ vs) some =
    let values : List ℤ = v ∷ vs in
    let top = some_top v vs in
    let n : ℕ = position_or_len (is_top values) values in
    let inside : n < length values = elim (leb_tells n top.0) [
      | inl p ↦ omega (arith, p.1, top.1)
      | inr q ↦ absurd (not_before values top.0 top.2 q.1)
    ] in
    (n, inside, ap (λ (b : Bool). cond b (Some n) None) (lt-ltb n (length values) inside))

-- the chosen number counts one of the rows
pub one_is_chosen : OneIsChosen
one_is_chosen rows some =
    let long = length-map rows (λ (r : Proposal). r.value) in
    let top = found (map (λ (r : Proposal). r.value) rows) (omega (arith, some, long)) in
    (top.0, omega (arith, top.1, long), ap (λ (o : Option ℕ). unwrap_or (option_map (λ k. suc k) o) 0) top.2)
