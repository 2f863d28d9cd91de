-- Laws of knots, over the powers p and the heights v by index.
use Rattle.ramp_step.proofs.Common.{◌≡◌, ◌≢◌, length, get_or-set_same, get_or-set_other, ℕ, zero, suc, ◌+◌, ◌-◌, ◌<◌}
use Rattle.ramp_step.proofs.Common.{List, refl, sym, ap, ◌∙◌, arith, inl, inr, slice_set, ℤ, pos, ◌+ℤ◌, ◌-ℤ◌, ◌*ℤ◌}
use Rattle.ramp_step.proofs.Common.{◌≤ℤ◌, ◌<ℤ◌, ints, cases_lt, Knot, knot, power, IsStraight, IsConvex, StandFor}
use Rattle.ramp_step.proofs.Common.{IsInside, HaveSameEnds, AreRaised, IsRun}
use Rattle.ramp_step.proofs.TimesLaws.{times_next, times_prev}

-- the powers rise from each knot to each later one
pub rises : (n : ℕ) (p : ℕ → ℤ) → ((k : ℕ) → k + 1 < n → p k <ℤ p (k + 1)) → (d i j : ℕ) → j ≡ i + d → j < n →
    p i ≤ℤ p j
rises n p rise zero i j e h = let same : p j ≡ p i = ap p (omega arith) in omega (arith, ints)
rises n p rise (suc d) i j e h =
    let before : p i ≤ℤ p (i + d) = rises n p rise d i (i + d) refl (omega arith) in
    let step : p (i + d) <ℤ p ((i + d) + 1) = rise (i + d) (omega arith) in
    let same : p j ≡ p ((i + d) + 1) = ap p (omega arith) in
    omega (arith, ints)

-- a knot is in the interval
pub is_inside : (ks : List Knot) (n : ℕ) (f : ℤ → ℤ) (k : ℕ) → StandFor ks n f → k < n → IsInside ks n (power ks k)
is_inside ks n f k s h = record {
  some = omega arith;
  from_first = rises n (power ks) s.rise k 0 k (omega arith) h;
  to_last = rises n (power ks) s.rise ((n - 1) - k) k (n - 1) (omega arith) (omega arith);
}

-- a term that is straight between neighbours, and convex, is added
pub StandFor-raised : (term : ℤ → ℤ) (n : ℕ) (ks ks' : List Knot) (f : ℤ → ℤ) → StandFor ks n f →
    AreRaised term n ks ks'
    → ((k : ℕ) → k + 1 < n → IsStraight (power ks k) (power ks (k + 1)) term) →
    IsConvex (power ks 0) (power ks (n - 1)) term
    → StandFor ks' n (λ x. f x +ℤ term x)
StandFor-raised term n ks ks' f s r straight convex = record {
  rise = λ k h. let a = r.powers k (omega arith) in let b = r.powers (k + 1) h in let up = s.rise k h in
      omega (arith, ints);
  meet = λ k h.
      let a = r.heights k h in
      let m = s.meet k h in
      let ef : f (power ks' k) ≡ f (power ks k) = ap f (r.powers k h) in
      let et : term (power ks' k) ≡ term (power ks k) = ap term (r.powers k h) in
      omega (arith, ints);
  straight = λ k h x from to.
      let a = r.powers k (omega arith) in
      let b = r.powers (k + 1) h in
      let g = s.straight k h x (omega (arith, ints)) (omega (arith, ints)) in
      let t = straight k h x (omega (arith, ints)) (omega (arith, ints)) in
      omega (arith, ints);
  convex = λ x from to.
      elim (cases_lt 0 n) [
        | inl some ↦
            let a = r.powers 0 some in
            let b = r.powers (n - 1) (omega arith) in
            let g = s.convex x (omega (arith, ints)) (omega (arith, ints)) in
            let t = convex x (omega (arith, ints)) (omega (arith, ints)) in
            omega (arith, ints)
        | inr none ↦ absurd (let e : power ks' (n - 1) ≡ power ks' 0 = ap (power ks') (omega arith) in
            omega (arith, ints))
      ];
}

pub HaveSameEnds-raised : (term : ℤ → ℤ) (n : ℕ) (ks ks' : List Knot) → AreRaised term n ks ks' →
    HaveSameEnds ks n ks' n
HaveSameEnds-raised term n ks ks' r = record {
  some = λ h. h;
  none = λ h. h;
  first = λ h. r.powers 0 h;
  last = λ h. r.powers (n - 1) (omega arith);
}

-- a line is straight everywhere
pub line_straight : (slope x : ℤ) → (slope *ℤ x +ℤ slope *ℤ x) ≡ (slope *ℤ (x -ℤ pos 1) +ℤ slope *ℤ (x +ℤ pos 1))
line_straight slope x = let a = times_next slope x in let b = times_prev slope x in omega (arith, ints)

pub straight_convex : (a b : ℤ) → a ≡ b → a ≤ℤ b
straight_convex a b h = omega (arith, ints)

-- a knot is written
pub knot_same : (ks : List Knot) (i : ℕ) (q : Knot) → i < length ks → knot (slice_set ks i q) i ≡ q
knot_same ks i q lt = rw get_or-set_same refl

pub knot_other : (ks : List Knot) (i j : ℕ) (q : Knot) → j ≢ i → knot (slice_set ks i q) j ≡ knot ks j
knot_other ks i j q ne = rw get_or-set_other refl

pub HaveSameEnds-then : (ks ks1 ks2 : List Knot) (n n1 n2 : ℕ) → HaveSameEnds ks n ks1 n1 → HaveSameEnds ks1 n1 ks2 n2 →
    HaveSameEnds ks n ks2 n2
HaveSameEnds-then ks ks1 ks2 n n1 n2 a b = record {
  some = λ h. b.some (a.some h);
  none = λ h. b.none (a.none h);
  first = λ h. b.first (a.some h) ∙ a.first h;
  last = λ h. b.last (a.some h) ∙ a.last h;
}

pub inside_same : (ks ks' : List Knot) (n n' : ℕ) (x : ℤ) → HaveSameEnds ks n ks' n' → IsInside ks' n' x →
    IsInside ks n x
inside_same ks ks' n n' x e h =
    let some = h.some in
    let was : 0 < n = elim (cases_lt 0 n) [
      | inl y ↦ y
      | inr empty ↦ let z = e.none (omega arith) in
          absurd (omega arith)
    ] in
    let first = e.first was in
    let last = e.last was in
    record { some = was; from_first = omega (arith, ints); to_last = omega (arith, ints) }

pub HaveSameEnds-back : (ks ks' : List Knot) (n n' : ℕ) → HaveSameEnds ks n ks' n' → HaveSameEnds ks' n' ks n
HaveSameEnds-back ks ks' n n' e = elim (cases_lt 0 n) [
  | inl some ↦ record {
    some = λ h. some;
    none = λ h. let z = e.some some in absurd (omega arith);
    first = λ h. sym (e.first some);
    last = λ h. sym (e.last some);
  }
  | inr empty ↦ record {
    some = λ h. let z = e.none (omega arith) in absurd (omega arith);
    none = λ h. omega arith;
    first = λ h. let z = e.none (omega arith) in absurd (omega arith);
    last = λ h. let z = e.none (omega arith) in absurd (omega arith);
  }
]

-- ---- knots of another list, one after another

module _ (ks ks' : List Knot) (n from n' : ℕ) (run : IsRun ks n from ks' n') (f : ℤ → ℤ) (s : StandFor ks n f) where
  pub power_at : (k : ℕ) → k < n' → power ks' k ≡ power ks (from + k)
  power_at k h = ap (λ (q : Knot). q.at) (run.knots k h)

  pub first_at : power ks' 0 ≡ power ks from
  first_at = power_at 0 run.some ∙ ap (power ks) (omega arith)

  -- the first and the last of them are between the ends of all
  order : (i j : ℕ) → i + j < n → power ks i ≤ℤ power ks (i + j)
  order i j h = rises n (power ks) s.rise j i (i + j) refl h

  pub first_power : power ks 0 ≤ℤ power ks' 0
  first_power = let inside = run.inside in let some = run.some in let o = order 0 from (omega arith) in
      let e : power ks (0 + from) ≡ power ks from = ap (power ks) (omega arith) in let a = first_at in
      omega (arith, ints)

  pub last_power : power ks' (n' - 1) ≤ℤ power ks (n - 1)
  last_power =
      let at = power_at (n' - 1) (omega arith) in
      let o = rises n (power ks) s.rise ((n - 1) - (from + (n' - 1))) (from + (n' - 1)) (n - 1) (omega arith)
      (omega arith) in
      omega (arith, ints)

  pub StandFor-run : StandFor ks' n' f
  StandFor-run = record {
    rise = λ k h.
        let a = power_at k (omega arith) in
        let b = power_at (k + 1) h in
        let inside = run.inside in
        let r = s.rise (from + k) (omega arith) in
        let e : power ks (from + (k + 1)) ≡ power ks ((from + k) + 1) = ap (power ks) (omega arith) in
        omega (arith, ints);
    meet = λ k h. let inside = run.inside in ap (λ (q : Knot). q.value) (run.knots k h) ∙
        s.meet (from + k) (omega arith) ∙ ap f (sym (power_at k h));
    straight = λ k h x low high.
        let a = power_at k (omega arith) in
        let b = power_at (k + 1) h in
        let e : power ks (from + (k + 1)) ≡ power ks ((from + k) + 1) = ap (power ks) (omega arith) in
        s.straight (from + k) (omega arith) x (omega (arith, ints)) (omega (arith, ints));
    convex = λ x low high.
        let a = first_power in
        let b = last_power in
        s.convex x (omega (arith, ints)) (omega (arith, ints));
  }
