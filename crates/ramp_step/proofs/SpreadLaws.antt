-- Knots whose falling part is moved by -down, and whose rising part by up, stand for the window.
use Rattle.ramp_step.proofs.Common.{◌≡◌, ℕ, zero, suc, ◌+◌, ◌-◌, ◌<◌, List, refl, sym, ap, ◌∙◌, subst, arith, inl, inr}
use Rattle.ramp_step.proofs.Common.{ℤ, pos, ◌+ℤ◌, ◌-ℤ◌, ◌≤ℤ◌, ◌<ℤ◌, ints, clamps, by_lt_z, cases_lt, Knot, power}
use Rattle.ramp_step.proofs.Common.{height, IsStraight, IsConvex, StandFor, IsPlace, IsAmount, clamped, IsLeastInReach}
use Rattle.ramp_step.proofs.Common.{IsTurn, AreSpread, AreWindow, IsWindow, IsLimited, IsCut}
use Rattle.ramp_step.proofs.KnotLaws.{rises}
use Rattle.ramp_step.proofs.WindowLaws.{slopes, straight_slope, strict_slope, rising_slope, falls_to, rises_to}
use Rattle.ramp_step.proofs.WindowLaws.{window_law}

-- ---- a convex function falls up to the turn, and rises from it

falls_by : (ks : List Knot) (n j : ℕ) (f : ℤ → ℤ) → StandFor ks n f → IsTurn ks n j → (i : ℕ) → i + 1 ≡ j → (x : ℤ) →
    power ks 0 ≤ℤ x → x <ℤ power ks j → f (x +ℤ pos 1) <ℤ f x
falls_by ks n j f s t i e x low high =
    let p = power ks in
    let inside = t.inside in
    let same : p (i + 1) ≡ p j = ap p e in
    let step = s.rise i (omega arith) in
    let straight : IsStraight (p i) (p j) f = λ y from to. s.straight i (omega arith) y from (omega (arith, ints)) in
    let meet_i = s.meet i (omega arith) in
    let meet_j = s.meet j inside in
    let low_j = t.falls i e in
    let slope = strict_slope f (p i) (p j) straight (omega (arith, ints)) (omega (arith, ints)) in
    let last = straight_slope f (p i) (p j) straight (p j -ℤ pos 1) (omega (arith, ints)) (omega (arith, ints)) in
    let end = rises n p s.rise ((n - 1) - j) j (n - 1) (omega arith) (omega arith) in
    let order = slopes f (p 0) (p (n - 1)) s.convex x (p j -ℤ pos 1) low (omega (arith, ints)) (omega (arith, ints)) in
    omega (arith, ints)

falls_from : (ks : List Knot) (n j : ℕ) (f : ℤ → ℤ) → StandFor ks n f → IsTurn ks n j → (k : ℕ) → k ≡ j → (x : ℤ) →
    power ks 0 ≤ℤ x → x <ℤ power ks j → f (x +ℤ pos 1) <ℤ f x
falls_from ks n j f s t zero e x low high = let same : power ks 0 ≡ power ks j = ap (power ks) e in
    absurd (omega (arith, ints))
falls_from ks n j f s t (suc i) e x low high = falls_by ks n j f s t i (omega arith) x low high

pub turn_falls_strictly : (ks : List Knot) (n j : ℕ) (f : ℤ → ℤ) → StandFor ks n f → IsTurn ks n j → (x : ℤ) →
    power ks 0 ≤ℤ x → x <ℤ power ks j → f (x +ℤ pos 1) <ℤ f x
turn_falls_strictly ks n j f s t = falls_from ks n j f s t j refl

pub turn_falls : (ks : List Knot) (n j : ℕ) (f : ℤ → ℤ) → StandFor ks n f → IsTurn ks n j → (x : ℤ) → power ks 0 ≤ℤ x →
    x <ℤ power ks j → f (x +ℤ pos 1) ≤ℤ f x
turn_falls ks n j f s t x low high = let h = turn_falls_strictly ks n j f s t x low high in omega (arith, ints)

rises_by : (ks : List Knot) (n j : ℕ) (f : ℤ → ℤ) → StandFor ks n f → IsTurn ks n j → j + 1 < n → (x : ℤ) →
    power ks j ≤ℤ x → x <ℤ power ks (n - 1) → f x ≤ℤ f (x +ℤ pos 1)
rises_by ks n j f s t more x low high =
    let p = power ks in
    let step = s.rise j more in
    let meet_j = s.meet j (omega arith) in
    let meet_k = s.meet (j + 1) more in
    let low_j = t.rises more in
    let slope = rising_slope f (p j) (p (j + 1)) (s.straight j more) (omega (arith, ints)) (omega (arith, ints)) in
    let begin = rises n p s.rise j 0 j (omega arith) (omega arith) in
    let order = slopes f (p 0) (p (n - 1)) s.convex (p j) x (omega (arith, ints)) low high in
    omega (arith, ints)

pub turn_rises : (ks : List Knot) (n j : ℕ) (f : ℤ → ℤ) → StandFor ks n f → IsTurn ks n j → (x : ℤ) → power ks j ≤ℤ x →
    x <ℤ power ks (n - 1) → f x ≤ℤ f (x +ℤ pos 1)
turn_rises ks n j f s t x low high =
    elim (cases_lt (j + 1) n) [
      | inl more ↦ rises_by ks n j f s t more x low high
      | inr last ↦ let same : power ks j ≡ power ks (n - 1) = ap (power ks) (omega arith) in
          absurd (omega (arith, ints))
    ]

module _ (ks : List Knot) (n j : ℕ) (f : ℤ → ℤ) (s : StandFor ks n f) (t : IsTurn ks n j) where
  pub turn_from_first : power ks 0 ≤ℤ power ks j
  turn_from_first = let inside = t.inside in rises n (power ks) s.rise j 0 j (omega arith) inside

  pub turn_to_last : power ks j ≤ℤ power ks (n - 1)
  turn_to_last = let inside = t.inside in rises n (power ks) s.rise ((n - 1) - j) j (n - 1) (omega arith) (omega arith)

-- ---- the law of the window over knots

module _ (ks : List Knot) (n j : ℕ) (f : ℤ → ℤ) (up down : ℤ) (s : StandFor ks n f) (t : IsTurn ks n j)
    (is_up : pos 0 ≤ℤ up) (is_down : pos 0 ≤ℤ down) where
  pub window_of_knots : (x : ℤ) → (power ks 0 -ℤ down) ≤ℤ x → x ≤ℤ (power ks (n - 1) +ℤ up)
      → IsLeastInReach f (power ks 0) (power ks (n - 1)) up down x (f (clamped (x -ℤ up) (x +ℤ down) (power ks j)))
  window_of_knots x low high =
      window_law f (power ks 0) (power ks (n - 1)) (power ks j) (turn_falls ks n j f s t) (turn_rises ks n j f s t)
      up down x (turn_from_first ks n j f s t) (turn_to_last ks n j f s t) is_up is_down (omega (arith, ints))
      (omega (arith, ints))

  least_at : (y : ℤ) → power ks 0 ≤ℤ y → y ≤ℤ power ks (n - 1) → f (power ks j) ≤ℤ f y
  least_at y low high = by_lt_z y (power ks j)
      (λ before. falls_to f (power ks 0) (power ks (n - 1)) (power ks j) (turn_falls ks n j f s t)
      (turn_rises ks n j f s t) y (power ks j) low (omega (arith, ints)) (omega (arith, ints)))
      (λ after. rises_to f (power ks 0) (power ks (n - 1)) (power ks j) (turn_falls ks n j f s t)
      (turn_rises ks n j f s t) (power ks j) y (omega (arith, ints)) after high)

  -- where the nearest power is
  near_left : (x y : ℤ) → (x +ℤ down) ≤ℤ power ks j → y ≡ x +ℤ down →
      f (clamped (x -ℤ up) (x +ℤ down) (power ks j)) ≡ f y
  near_left x y h is = let e : clamped (x -ℤ up) (x +ℤ down) (power ks j) ≡ y = omega (arith, ints, clamps) in ap f e

  near_right : (x y : ℤ) → power ks j ≤ℤ (x -ℤ up) → y ≡ x -ℤ up → f (clamped (x -ℤ up) (x +ℤ down) (power ks j)) ≡ f y
  near_right x y h is = let e : clamped (x -ℤ up) (x +ℤ down) (power ks j) ≡ y = omega (arith, ints, clamps) in ap f e

  near_flat : (x : ℤ) → power ks j ≤ℤ (x +ℤ down) → (x -ℤ up) ≤ℤ power ks j →
      f (clamped (x -ℤ up) (x +ℤ down) (power ks j)) ≡ f (power ks j)
  near_flat x h i = let e : clamped (x -ℤ up) (x +ℤ down) (power ks j) ≡ power ks j = omega (arith, ints, clamps) in
      ap f e

  -- the window is convex
  window_convex : IsConvex (power ks 0 -ℤ down) (power ks (n - 1) +ℤ up)
      (λ x. f (clamped (x -ℤ up) (x +ℤ down) (power ks j)))
  window_convex x low high =
      let a = turn_from_first ks n j f s t in
      let b = turn_to_last ks n j f s t in
      by_lt_z (x +ℤ down) (power ks j)
      (λ left.
      let c = s.convex (x +ℤ down) (omega (arith, ints)) (omega (arith, ints)) in
      let e = near_left x (x +ℤ down) (omega (arith, ints)) (omega (arith, ints)) in
      let e0 = near_left (x -ℤ pos 1) ((x +ℤ down) -ℤ pos 1) (omega (arith, ints)) (omega (arith, ints)) in
      let e1 = near_left (x +ℤ pos 1) ((x +ℤ down) +ℤ pos 1) (omega (arith, ints)) (omega (arith, ints)) in
      omega (arith, ints))
      (λ past. by_lt_z (power ks j) (x -ℤ up)
      (λ right.
      let c = s.convex (x -ℤ up) (omega (arith, ints)) (omega (arith, ints)) in
      let e = near_right x (x -ℤ up) (omega (arith, ints)) (omega (arith, ints)) in
      let e0 = near_right (x -ℤ pos 1) ((x -ℤ up) -ℤ pos 1) (omega (arith, ints)) (omega (arith, ints)) in
      let e1 = near_right (x +ℤ pos 1) ((x -ℤ up) +ℤ pos 1) (omega (arith, ints)) (omega (arith, ints)) in
      omega (arith, ints))
      (λ flat.
      let e = near_flat x past flat in
      let l0 = least_at (clamped ((x -ℤ pos 1) -ℤ up) ((x -ℤ pos 1) +ℤ down) (power ks j)) (omega (arith, ints, clamps))
      (omega (arith, ints, clamps)) in
      let l1 = least_at (clamped ((x +ℤ pos 1) -ℤ up) ((x +ℤ pos 1) +ℤ down) (power ks j)) (omega (arith, ints, clamps))
      (omega (arith, ints, clamps)) in
      omega (arith, ints)))

  module _ (ks' : List Knot) (r : AreSpread up down n j ks ks') (some : pos 0 <ℤ (up +ℤ down)) where
    spread_rise : (k : ℕ) → k + 1 < n + 1 → power ks' k <ℤ power ks' (k + 1)
    spread_rise k h =
        elim (cases_lt k j) [
          | inl before ↦
              let a = (r.falling k (omega arith)).0 in
              let b = (r.falling (k + 1) (omega arith)).0 in
              let step = s.rise k (let i = t.inside in omega arith) in
              omega (arith, ints)
          | inr from ↦ elim (cases_lt j k) [
            | inl after ↦
                let a = (r.rising (k - 1) (omega arith) (omega arith)).0 in
                let b = (r.rising k (omega arith) (omega arith)).0 in
                let step = s.rise (k - 1) (omega arith) in
                let e : power ks' ((k - 1) + 1) ≡ power ks' k = ap (power ks') (omega arith) in
                let e' : power ks ((k - 1) + 1) ≡ power ks k = ap (power ks) (omega arith) in
                omega (arith, ints)
            | inr same ↦
                let a = (r.falling k (omega arith)).0 in
                let b = (r.rising k (omega arith) (omega arith)).0 in
                omega (arith, ints)
          ]
        ]

    spread_meet : (k : ℕ) → k < n + 1 →
        height ks' k ≡ f (clamped (power ks' k -ℤ up) (power ks' k +ℤ down) (power ks j))
    spread_meet k h =
        elim (cases_lt j k) [
          | inl after ↦
              let a = r.rising (k - 1) (omega arith) (omega arith) in
              let m = s.meet (k - 1) (omega arith) in
              let e : power ks' ((k - 1) + 1) ≡ power ks' k = ap (power ks') (omega arith) in
              let e' : height ks' ((k - 1) + 1) ≡ height ks' k = ap (height ks') (omega arith) in
              let order = rises n (power ks) s.rise ((k - 1) - j) j (k - 1) (omega arith) (omega arith) in
              let a1 = a.1 in
              let near = near_right (power ks' k) (power ks (k - 1)) (omega (arith, ints)) (omega (arith, ints)) in
              sym e' ∙ a1 ∙ m ∙ sym near
          | inr upto ↦
              let a = r.falling k (omega arith) in
              let inside = t.inside in
              let m = s.meet k (omega arith) in
              let order = rises n (power ks) s.rise (j - k) k j (omega arith) inside in
              let a1 = a.1 in
              let near = near_left (power ks' k) (power ks k) (omega (arith, ints)) (omega (arith, ints)) in
              a1 ∙ m ∙ sym near
        ]

    spread_straight : (k : ℕ) → k + 1 < n + 1 →
        IsStraight (power ks' k) (power ks' (k + 1)) (λ x. f (clamped (x -ℤ up) (x +ℤ down) (power ks j)))
    spread_straight k h x low high =
        let inside = t.inside in
        elim (cases_lt k j) [
          | inl before ↦
              let a = (r.falling k (omega arith)).0 in
              let b = (r.falling (k + 1) (omega arith)).0 in
              let order = rises n (power ks) s.rise (j - (k + 1)) (k + 1) j (omega arith) inside in
              let c = s.straight k (omega arith) (x +ℤ down) (omega (arith, ints)) (omega (arith, ints)) in
              let e = near_left x (x +ℤ down) (omega (arith, ints)) (omega (arith, ints)) in
              let e0 = near_left (x -ℤ pos 1) ((x +ℤ down) -ℤ pos 1) (omega (arith, ints)) (omega (arith, ints)) in
              let e1 = near_left (x +ℤ pos 1) ((x +ℤ down) +ℤ pos 1) (omega (arith, ints)) (omega (arith, ints)) in
              omega (arith, ints)
          | inr from ↦ elim (cases_lt j k) [
            | inl after ↦
                let a = (r.rising (k - 1) (omega arith) (omega arith)).0 in
                let b = (r.rising k (omega arith) (omega arith)).0 in
                let q : power ks' ((k - 1) + 1) ≡ power ks' k = ap (power ks') (omega arith) in
                let q' : power ks ((k - 1) + 1) ≡ power ks k = ap (power ks) (omega arith) in
                let order = rises n (power ks) s.rise ((k - 1) - j) j (k - 1) (omega arith) (omega arith) in
                let c = s.straight (k - 1) (omega arith) (x -ℤ up) (omega (arith, ints)) (omega (arith, ints)) in
                let e = near_right x (x -ℤ up) (omega (arith, ints)) (omega (arith, ints)) in
                let e0 = near_right (x -ℤ pos 1) ((x -ℤ up) -ℤ pos 1) (omega (arith, ints)) (omega (arith, ints)) in
                let e1 = near_right (x +ℤ pos 1) ((x -ℤ up) +ℤ pos 1) (omega (arith, ints)) (omega (arith, ints)) in
                omega (arith, ints)
            | inr same ↦
                let q : power ks k ≡ power ks j = ap (power ks) (omega arith) in
                let a = (r.falling k (omega arith)).0 in
                let b = (r.rising k (omega arith) (omega arith)).0 in
                let e = near_flat x (omega (arith, ints)) (omega (arith, ints)) in
                let e0 = near_flat (x -ℤ pos 1) (omega (arith, ints)) (omega (arith, ints)) in
                let e1 = near_flat (x +ℤ pos 1) (omega (arith, ints)) (omega (arith, ints)) in
                omega (arith, ints)
          ]
        ]

    pub StandFor-spread : StandFor ks' (n + 1) (λ x. f (clamped (x -ℤ up) (x +ℤ down) (power ks j)))
    StandFor-spread = record {
      rise = spread_rise;
      meet = spread_meet;
      straight = spread_straight;
      convex = λ x low high.
          let a = (r.falling 0 (omega arith)).0 in
          let b = (r.rising (n - 1) (omega arith) (omega arith)).0 in
          let e : power ks' ((n + 1) - 1) ≡ power ks' ((n - 1) + 1) = ap (power ks') (omega arith) in
          window_convex x (omega (arith, ints)) (omega (arith, ints));
    }

pub AreWindow-still : (ks : List Knot) (n : ℕ) (up down : ℤ) → 0 < n → up ≡ pos 0 → down ≡ pos 0 →
    AreWindow up down ks n ks n
AreWindow-still ks n up down some no_up no_down = record {
  some = some;
  first = omega (arith, ints);
  last = omega (arith, ints);
  function = λ f s. (
    f,
    s,
    λ x low high. record {
      at = x;
      inside = (omega (arith, ints), omega (arith, ints));
      reached = (omega (arith, ints), omega (arith, ints));
      there = refl;
      least = λ y inside_low inside_high reach_low reach_high. let e : f x ≡ f y = ap f (omega (arith, ints)) in
          omega (arith, ints);
    },
  );
}

pub AreWindow-spread : (ks ks' : List Knot) (n j : ℕ) (up down : ℤ) → pos 0 ≤ℤ up → pos 0 ≤ℤ down →
    pos 0 <ℤ (up +ℤ down)
    → IsTurn ks n j → AreSpread up down n j ks ks' → AreWindow up down ks n ks' (n + 1)
AreWindow-spread ks ks' n j up down is_up is_down some t r = record {
  some = omega arith;
  first = let inside = t.inside in (r.falling 0 (omega arith)).0;
  last =
      let e : power ks' ((n + 1) - 1) ≡ power ks' ((n - 1) + 1) = ap (power ks') (omega arith) in
      e ∙ (r.rising (n - 1) (omega arith) (omega arith)).0;
  function = λ f s. (
    λ x. f (clamped (x -ℤ up) (x +ℤ down) (power ks j)),
    StandFor-spread ks n j f up down s t is_up is_down ks' r some,
    λ x low high. window_of_knots ks n j f up down s t is_up is_down x low high,
  );
}

-- ---- limits

pub IsLimited-still : (ks : List Knot) (n : ℕ) → ((k : ℕ) → k < n → IsPlace (power ks k)) →
    ((k : ℕ) → k < n → IsAmount (height ks k)) → IsLimited ks n
IsLimited-still ks n powers amounts = record {
  powers = λ k h. let a = (powers k h).0 in let b = (powers k h).1 in (omega (arith, ints), omega (arith, ints));
  amounts = amounts;
}

pub IsLimited-spread : (ks ks' : List Knot) (n j : ℕ) (up down : ℤ) → ((k : ℕ) → k < n → IsPlace (power ks k)) →
    ((k : ℕ) → k < n → IsAmount (height ks k))
    → IsPlace up → IsPlace down → j < n → AreSpread up down n j ks ks' → IsLimited ks' (n + 1)
IsLimited-spread ks ks' n j up down powers amounts fits_up fits_down inside r =
    record {
      powers = λ k h. elim (cases_lt j k) [
        | inl after ↦
            let e : power ks' ((k - 1) + 1) ≡ power ks' k = ap (power ks') (omega arith) in
            let m = (r.rising (k - 1) (omega arith) (omega arith)).0 in
            let a = (powers (k - 1) (omega arith)).0 in
            let b = (powers (k - 1) (omega arith)).1 in
            (omega (arith, ints), omega (arith, ints))
        | inr upto ↦
            let m = (r.falling k upto).0 in
            let a = (powers k (omega arith)).0 in
            let b = (powers k (omega arith)).1 in
            (omega (arith, ints), omega (arith, ints))
      ];
      amounts = λ k h. elim (cases_lt j k) [
        | inl after ↦
            let e : height ks' k ≡ height ks (k - 1) =
            ap (height ks') (omega arith) ∙ (r.rising (k - 1) (omega arith) (omega arith)).1 in
            subst IsAmount (sym e) (amounts (k - 1) (omega arith))
        | inr upto ↦ subst IsAmount (sym (r.falling k upto).1) (amounts k (omega arith))
      ];
    }

-- ---- the window, cut

pub IsWindow-cut : (ks k1 k2 k3 : List Knot) (n n1 n2 n3 : ℕ) (up down lo hi : ℤ) → AreWindow up down ks n k1 n1 →
    IsCut (λ x. x ≤ℤ hi) k1 n1 k2 n2 → IsCut (λ x. lo ≤ℤ x) k2 n2 k3 n3
    → 0 < n → IsWindow up down lo hi ks n k3 n3
IsWindow-cut ks k1 k2 k3 n n1 n2 n3 up down lo hi w above below some = record {
  some = λ h. some;
  function = λ f s.
      let g = w.function f s in (
        g.0,
        below.function g.0 (above.function g.0 g.1),
        λ x h.
            let i2 = below.inside x h in
            let i1 = above.inside x i2.0 in
            let from = i1.0.from_first in
            let to = i1.0.to_last in
            (i2.1, i1.1, g.2 x (omega (arith, ints)) (omega (arith, ints))),
      );
  powers = λ x y h low high from to.
      below.back x (above.back x
      (record { some = w.some; from_first = omega (arith, ints); to_last = omega (arith, ints) }) to) from;
}
