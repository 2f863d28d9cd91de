-- The window of a convex function: the falling part moves by -down, the rising part by up, the flat part is between.
use Rattle.ramp_step.proofs.Common.{◌≡◌, ℕ, zero, suc, refl, ap, ◌∙◌, arith, inl, inr, ℤ, pos, negsuc, ◌+ℤ◌, ◌-ℤ◌, ◌*ℤ◌}
use Rattle.ramp_step.proofs.Common.{◌≤ℤ◌, ◌<ℤ◌, ◌⊎◌, ints, clamps, by_lt_z, IsStraight, IsConvex, clamped}
use Rattle.ramp_step.proofs.Common.{IsLeastInReach, *ℤ-zero, *ℤ_comm, mul-mono_of}
use Rattle.ramp_step.proofs.TimesLaws.{times_next, times_minus}

-- ---- slopes

-- y is d powers after x
steps_by : (x y d : ℤ) → y -ℤ x ≡ d → x ≤ℤ y → (k : ℕ) × (y ≡ x +ℤ pos k)
steps_by x y (pos k) e h = (k, omega (arith, ints))
steps_by x y (negsuc k) e h = absurd (omega (arith, ints))

pub steps : (x y : ℤ) → x ≤ℤ y → (k : ℕ) × (y ≡ x +ℤ pos k)
steps x y h = steps_by x y (y -ℤ x) refl h

-- the slope of a convex function at x is no greater than the slope d powers on
slopes_steps : (f : ℤ → ℤ) (a b : ℤ) → IsConvex a b f → (x : ℤ) (d : ℕ) → a ≤ℤ x → (x +ℤ pos d) <ℤ b
    → (f (x +ℤ pos 1) -ℤ f x) ≤ℤ (f ((x +ℤ pos d) +ℤ pos 1) -ℤ f (x +ℤ pos d))
slopes_steps f a b convex x zero low high =
    let e : f (x +ℤ pos 0) ≡ f x = ap f (omega (arith, ints)) in
    let e' : f ((x +ℤ pos 0) +ℤ pos 1) ≡ f (x +ℤ pos 1) = ap f (omega (arith, ints)) in
    omega (arith, ints)
slopes_steps f a b convex x (suc d) low high =
    let before = slopes_steps f a b convex x d low (omega (arith, ints)) in
    let y = x +ℤ pos (suc d) in
    let here = convex y (omega (arith, ints)) (omega (arith, ints)) in
    let e : f (y -ℤ pos 1) ≡ f (x +ℤ pos d) = ap f (omega (arith, ints)) in
    let e' : f ((x +ℤ pos d) +ℤ pos 1) ≡ f y = ap f (omega (arith, ints)) in
    omega (arith, ints)

pub slopes : (f : ℤ → ℤ) (a b : ℤ) → IsConvex a b f → (x y : ℤ) → a ≤ℤ x → x ≤ℤ y → y <ℤ b →
    (f (x +ℤ pos 1) -ℤ f x) ≤ℤ (f (y +ℤ pos 1) -ℤ f y)
slopes f a b convex x y low order high =
    let s = steps x y order in
    let h = slopes_steps f a b convex x s.0 low (omega (arith, ints, s.1)) in
    let e : f y ≡ f (x +ℤ pos s.0) = ap f s.1 in
    let e' : f (y +ℤ pos 1) ≡ f ((x +ℤ pos s.0) +ℤ pos 1) = ap (λ z. f (z +ℤ pos 1)) s.1 in
    omega (arith, ints)

-- a straight part has one slope
straight_steps : (f : ℤ → ℤ) (a b : ℤ) → IsStraight a b f → (d : ℕ) → (a +ℤ pos d) <ℤ b →
    f ((a +ℤ pos d) +ℤ pos 1) ≡ f (a +ℤ pos d) +ℤ (f (a +ℤ pos 1) -ℤ f a)
straight_steps f a b straight zero high =
    let e : f (a +ℤ pos 0) ≡ f a = ap f (omega (arith, ints)) in
    let e' : f ((a +ℤ pos 0) +ℤ pos 1) ≡ f (a +ℤ pos 1) = ap f (omega (arith, ints)) in
    omega (arith, ints)
straight_steps f a b straight (suc d) high =
    let before = straight_steps f a b straight d (omega (arith, ints)) in
    let y = a +ℤ pos (suc d) in
    let here = straight y (omega (arith, ints)) (omega (arith, ints)) in
    let e : f (y -ℤ pos 1) ≡ f (a +ℤ pos d) = ap f (omega (arith, ints)) in
    let e' : f ((a +ℤ pos d) +ℤ pos 1) ≡ f y = ap f (omega (arith, ints)) in
    omega (arith, ints)

-- the values of a straight part
line_steps : (f : ℤ → ℤ) (a b : ℤ) → IsStraight a b f → (d : ℕ) → (a +ℤ pos d) ≤ℤ b →
    f (a +ℤ pos d) ≡ f a +ℤ (f (a +ℤ pos 1) -ℤ f a) *ℤ pos d
line_steps f a b straight zero high =
    let e : f (a +ℤ pos 0) ≡ f a = ap f (omega (arith, ints)) in
    let z = *ℤ-zero (f (a +ℤ pos 1) -ℤ f a) in
    omega (arith, ints)
line_steps f a b straight (suc d) high =
    let before = line_steps f a b straight d (omega (arith, ints)) in
    let here = straight_steps f a b straight d (omega (arith, ints)) in
    let s = f (a +ℤ pos 1) -ℤ f a in
    let e : f (a +ℤ pos (suc d)) ≡ f ((a +ℤ pos d) +ℤ pos 1) = ap f (omega (arith, ints)) in
    let p : s *ℤ pos (suc d) ≡ s *ℤ pos d +ℤ s = ap (λ z. s *ℤ z) (omega (arith, ints)) ∙ times_next s (pos d) in
    omega (arith, ints)

pub straight_line : (f : ℤ → ℤ) (a b : ℤ) → IsStraight a b f → (x : ℤ) → a ≤ℤ x → x ≤ℤ b →
    f x ≡ f a +ℤ (f (a +ℤ pos 1) -ℤ f a) *ℤ (x -ℤ a)
straight_line f a b straight x low high =
    let s = steps a x low in
    let h = line_steps f a b straight s.0 (omega (arith, ints, s.1)) in
    let e : f x ≡ f (a +ℤ pos s.0) = ap f s.1 in
    let e' : (f (a +ℤ pos 1) -ℤ f a) *ℤ (x -ℤ a) ≡ (f (a +ℤ pos 1) -ℤ f a) *ℤ pos s.0 =
    ap (λ z. (f (a +ℤ pos 1) -ℤ f a) *ℤ z) (omega (arith, ints, s.1)) in
    omega (arith, ints)

pub straight_slope : (f : ℤ → ℤ) (a b : ℤ) → IsStraight a b f → (x : ℤ) → a ≤ℤ x → x <ℤ b →
    f (x +ℤ pos 1) -ℤ f x ≡ f (a +ℤ pos 1) -ℤ f a
straight_slope f a b straight x low high =
    let s = steps a x low in
    let h = straight_steps f a b straight s.0 (omega (arith, ints, s.1)) in
    let e : f x ≡ f (a +ℤ pos s.0) = ap f s.1 in
    let e' : f (x +ℤ pos 1) ≡ f ((a +ℤ pos s.0) +ℤ pos 1) = ap (λ z. f (z +ℤ pos 1)) s.1 in
    omega (arith, ints)

-- a straight part that ends lower falls at each power, and one that doesn't end lower has no slope below 0
pub strict_slope : (f : ℤ → ℤ) (a b : ℤ) → IsStraight a b f → a <ℤ b → f b <ℤ f a → (f (a +ℤ pos 1) -ℤ f a) <ℤ pos 0
strict_slope f a b straight order low =
    let s = f (a +ℤ pos 1) -ℤ f a in
    let e = straight_line f a b straight b (omega (arith, ints)) (omega (arith, ints)) in
    by_lt_z s (pos 0)
    (λ down. down)
    (λ up.
    let m = mul-mono_of s (pos 0) (b -ℤ a) up (omega (arith, ints)) in
    let z = *ℤ-zero s in
    absurd (omega (arith, ints)))

pub rising_slope : (f : ℤ → ℤ) (a b : ℤ) → IsStraight a b f → a <ℤ b → f a ≤ℤ f b → pos 0 ≤ℤ (f (a +ℤ pos 1) -ℤ f a)
rising_slope f a b straight order low =
    let s = f (a +ℤ pos 1) -ℤ f a in
    let e = straight_line f a b straight b (omega (arith, ints)) (omega (arith, ints)) in
    by_lt_z s (pos 0)
    (λ down.
    let d = b -ℤ a in
    let m = mul-mono_of d s (negsuc 0) (omega (arith, ints)) (omega (arith, ints)) in
    let t = *ℤ_comm d s in
    let one : d *ℤ negsuc 0 ≡ pos 0 -ℤ d = times_minus d in
    absurd (omega (arith, ints)))
    (λ up. up)

-- ---- the window

module _ (f : ℤ → ℤ) (a b m : ℤ)
    (falls : (x : ℤ) → a ≤ℤ x → x <ℤ m → f (x +ℤ pos 1) ≤ℤ f x)
    (rises : (x : ℤ) → m ≤ℤ x → x <ℤ b → f x ≤ℤ f (x +ℤ pos 1)) where
  falls_steps : (x : ℤ) (d : ℕ) → a ≤ℤ x → (x +ℤ pos d) ≤ℤ m → f (x +ℤ pos d) ≤ℤ f x
  falls_steps x zero low high = let e : f (x +ℤ pos 0) ≡ f x = ap f (omega (arith, ints)) in omega (arith, ints)
  falls_steps x (suc d) low high =
      let before = falls_steps x d low (omega (arith, ints)) in
      let here = falls (x +ℤ pos d) (omega (arith, ints)) (omega (arith, ints)) in
      let e : f (x +ℤ pos (suc d)) ≡ f ((x +ℤ pos d) +ℤ pos 1) = ap f (omega (arith, ints)) in
      omega (arith, ints)

  rises_steps : (x : ℤ) (d : ℕ) → m ≤ℤ x → (x +ℤ pos d) ≤ℤ b → f x ≤ℤ f (x +ℤ pos d)
  rises_steps x zero low high = let e : f (x +ℤ pos 0) ≡ f x = ap f (omega (arith, ints)) in omega (arith, ints)
  rises_steps x (suc d) low high =
      let before = rises_steps x d low (omega (arith, ints)) in
      let here = rises (x +ℤ pos d) (omega (arith, ints)) (omega (arith, ints)) in
      let e : f (x +ℤ pos (suc d)) ≡ f ((x +ℤ pos d) +ℤ pos 1) = ap f (omega (arith, ints)) in
      omega (arith, ints)

  pub falls_to : (x y : ℤ) → a ≤ℤ x → x ≤ℤ y → y ≤ℤ m → f y ≤ℤ f x
  falls_to x y low order high =
      let s = steps x y order in
      let h = falls_steps x s.0 low (omega (arith, ints, s.1)) in
      let e : f y ≡ f (x +ℤ pos s.0) = ap f s.1 in
      omega (arith, ints)

  pub rises_to : (x y : ℤ) → m ≤ℤ x → x ≤ℤ y → y ≤ℤ b → f x ≤ℤ f y
  rises_to x y low order high =
      let s = steps x y order in
      let h = rises_steps x s.0 low (omega (arith, ints, s.1)) in
      let e : f y ≡ f (x +ℤ pos s.0) = ap f s.1 in
      omega (arith, ints)

  -- the nearer to m, the less
  nearer : (z y : ℤ) → a ≤ℤ y → y ≤ℤ b → ((y ≤ℤ z) × (z ≤ℤ m)) ⊎ ((m ≤ℤ z) × (z ≤ℤ y)) → f z ≤ℤ f y
  nearer z y low high (inl p) = falls_to y z low p.0 p.1
  nearer z y low high (inr p) = rises_to z y p.0 p.1 high

  -- with a power in reach and m inside, the least value in reach is at the power that is nearest to m
  pub window_law : (up down x : ℤ) → a ≤ℤ m → m ≤ℤ b → pos 0 ≤ℤ up → pos 0 ≤ℤ down → a ≤ℤ (x +ℤ down) → (x -ℤ up) ≤ℤ b
      → IsLeastInReach f a b up down x (f (clamped (x -ℤ up) (x +ℤ down) m))
  window_law up down x first last is_up is_down low high = record {
    at = clamped (x -ℤ up) (x +ℤ down) m;
    inside = (omega (arith, ints, clamps), omega (arith, ints, clamps));
    reached = (omega (arith, ints, clamps), omega (arith, ints, clamps));
    there = refl;
    least = λ y inside_low inside_high reach_low reach_high.
        by_lt_z m y
        (λ after. nearer (clamped (x -ℤ up) (x +ℤ down) m) y inside_low inside_high
        (by_lt_z (clamped (x -ℤ up) (x +ℤ down) m) m
        (λ left. inl (omega (arith, ints, clamps), omega (arith, ints, clamps)))
        (λ right. inr (right, omega (arith, ints, clamps)))))
        (λ before. nearer (clamped (x -ℤ up) (x +ℤ down) m) y inside_low inside_high
        (by_lt_z m (clamped (x -ℤ up) (x +ℤ down) m)
        (λ right. inr (omega (arith, ints, clamps), omega (arith, ints, clamps)))
        (λ left. inl (omega (arith, ints, clamps), left))));
  }
