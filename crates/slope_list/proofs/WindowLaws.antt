-- The parts of the window: the nearest power in reach goes along with each.
use Rattle.slope_list.proofs.Common.{◌≡◌, ◌+◌, ◌<◌, ◌≤◌, refl, sym, ap, ◌∙◌, arith, ℤ, pos, ◌+ℤ◌, ◌-ℤ◌, ◌*ℤ◌, ◌≤ℤ◌}
use Rattle.slope_list.proofs.Common.{◌<ℤ◌, negsuc, unsigned_abs, ints, clamps, by_lt_z, zero-*ℤ, Step, IsLine, bend_of}
use Rattle.slope_list.proofs.Common.{nearest, one_before, runs_from, IsFlat}
use Rattle.slope_list.proofs.LineLaws.{lt_is, not_lt_is, line_moved, line_same, line_flat}

-- ---- lines that move

module _ (k : ℤ → ℤ) (m up down : ℤ) (is_up : pos 0 ≤ℤ up) (is_down : pos 0 ≤ℤ down) (a b t a' b' : ℤ)
    (line : IsLine k a b t) where
  pub line_falling : b ≤ℤ m → a' +ℤ down ≡ a → b' +ℤ down ≡ b → IsLine (λ z. k (nearest up down m z)) a' b' t
  line_falling high ea eb = line_same (λ z. k (z +ℤ down)) (λ z. k (nearest up down m z)) a' b' t
      (line_moved k a b t down a' b' line ea eb)
      (λ z from to. ap k {x = nearest up down m z} {y = z +ℤ down} (omega (arith, ints, clamps)))

  pub line_rising : m ≤ℤ a → a' ≡ a +ℤ up → b' ≡ b +ℤ up → IsLine (λ z. k (nearest up down m z)) a' b' t
  line_rising low ea eb = line_same (λ z. k (z +ℤ (pos 0 -ℤ up))) (λ z. k (nearest up down m z)) a' b' t
      (line_moved k a b t (pos 0 -ℤ up) a' b' line (omega (arith, ints)) (omega (arith, ints)))
      (λ z from to. ap k {x = nearest up down m z} {y = z +ℤ (pos 0 -ℤ up)} (omega (arith, ints, clamps)))

-- the powers that the least power is the nearest one to, and those up to e where the function is flat
pub line_level_to : (k : ℤ → ℤ) (m up down x y e x' : ℤ) → pos 0 ≤ℤ up → pos 0 ≤ℤ down → y ≡ nearest up down m x →
    y ≡ m → IsFlat k y e → x <ℤ x' → x' ≤ℤ (e +ℤ up) → IsLine (λ z. k (nearest up down m z)) x x' (pos 0)
line_level_to k m up down x y e x' is_up is_down near turn flat rise to =
    let long = flat.from in
    let same : (z : ℤ) → x ≤ℤ z → z ≤ℤ x' → k (nearest up down m z) ≡ k y =
    λ z from upto. flat.same (nearest up down m z) (omega (arith, ints, clamps))
    (omega (arith, ints, clamps)) in
    line_flat (λ z. k (nearest up down m z)) x x' rise
    (λ z from upto. same z from upto ∙ sym (same x (omega (arith, ints)) (omega (arith, ints))))

-- ---- how many runs are left

pub none_from : (m x : ℤ) → m ≤ℤ x → one_before m x ≡ 0
none_from m x h = rw (not_lt_is x m h) refl

pub one_to : (m x : ℤ) → x <ℤ m → one_before m x ≡ 1
one_to m x h = rw (lt_is x m h) refl

pub one_at_most : (m x : ℤ) → one_before m x ≤ 1
one_at_most m x = by_lt_z x m (λ (l : x <ℤ m). let e = one_to m x l in omega arith)
    (λ (l : m ≤ℤ x). let e = none_from m x l in omega arith)

pub no_more : (m m' x y : ℤ) → (x <ℤ m → y <ℤ m') → one_before m x ≤ one_before m' y
no_more m m' x y h = by_lt_z x m
    (λ (l : x <ℤ m). let e = one_to m x l in let f = one_to m' y (h l) in omega arith)
    (λ (l : m ≤ℤ x). let e = none_from m x l in omega arith)

pub runs_most : (s : Step) (m y x : ℤ) → runs_from s m y x ≤ 3
runs_most s m y x =
    let a = one_at_most (bend_of s) y in
    let b = one_at_most m y in
    let c = one_at_most (y +ℤ s.ramp_up) x in
    omega arith

module _ (s : Step) (m y x y' x' : ℤ) (later : y ≤ℤ y') where
  -- the flat part is passed
  pub fewer_flat : x <ℤ (y +ℤ s.ramp_up) → x' ≡ y' +ℤ s.ramp_up → runs_from s m y' x' + 1 ≤ runs_from s m y x
  fewer_flat short past =
      let a = no_more (bend_of s) (bend_of s) y' y (λ h. omega (arith, ints)) in
      let b = no_more m m y' y (λ h. omega (arith, ints)) in
      let c = none_from (y' +ℤ s.ramp_up) x' (omega (arith, ints)) in
      let d = one_to (y +ℤ s.ramp_up) x short in
      omega arith

  -- or the bend, or the turn
  module _ (d : ℤ) (from : x ≡ y +ℤ d) (to : x' ≡ y' +ℤ d) where
    pub fewer_bend : y <ℤ bend_of s → y' ≡ bend_of s → runs_from s m y' x' + 1 ≤ runs_from s m y x
    fewer_bend before at =
        let a = none_from (bend_of s) y' (omega (arith, ints)) in
        let b = one_to (bend_of s) y before in
        let c = no_more m m y' y (λ h. omega (arith, ints)) in
        let e = no_more (y' +ℤ s.ramp_up) (y +ℤ s.ramp_up) x' x (λ h. omega (arith, ints)) in
        omega arith

    pub fewer_turn : y <ℤ m → y' ≡ m → runs_from s m y' x' + 1 ≤ runs_from s m y x
    fewer_turn before at =
        let a = none_from m y' (omega (arith, ints)) in
        let b = one_to m y before in
        let c = no_more (bend_of s) (bend_of s) y' y (λ h. omega (arith, ints)) in
        let e = no_more (y' +ℤ s.ramp_up) (y +ℤ s.ramp_up) x' x (λ h. omega (arith, ints)) in
        omega arith

-- ---- flat parts

pub flat_from_line : (f : ℤ → ℤ) (a b s : ℤ) → IsLine f a b s → s ≡ pos 0 → IsFlat f a b
flat_from_line f a b s l none =
    record {
      from = omega (arith, ints);
      same = λ x low high.
          let p = l.line x low high in
          let e = ap (λ (z : ℤ). z *ℤ (x -ℤ a)) none ∙ zero-*ℤ (x -ℤ a) in
          omega (arith, ints);
    }

pub flat_here : (f : ℤ → ℤ) (a : ℤ) → IsFlat f a a
flat_here f a = record { from = omega (arith, ints); same = λ x low high. ap f (omega (arith, ints)) }

-- ---- bounds

abs_of : (z : ℤ) → pos 0 ≤ℤ z → pos (unsigned_abs z) ≡ z
abs_of (pos n) h = refl
abs_of (negsuc n) h = absurd (omega (arith, ints))

-- nearer to z
pub nearer : (x y z : ℤ) → x <ℤ y → y ≤ℤ z → unsigned_abs (z -ℤ y) < unsigned_abs (z -ℤ x)
nearer x y z l h =
    let a = abs_of (z -ℤ y) (omega (arith, ints)) in
    let b = abs_of (z -ℤ x) (omega (arith, ints)) in
    omega (arith, ints)

-- ---- where the power is

module _ (up down m x y : ℤ) (is_up : pos 0 ≤ℤ up) (is_down : pos 0 ≤ℤ down) (near : y ≡ nearest up down m x) where
  pub falling_at : y <ℤ m → x ≡ y +ℤ (pos 0 -ℤ down)
  falling_at h = omega (arith, ints, clamps)

  pub flat_at : m ≤ℤ y → x <ℤ (y +ℤ up) → y ≡ m
  flat_at h l = omega (arith, ints, clamps)

  pub rising_at : (y +ℤ up) ≤ℤ x → x ≡ y +ℤ up
  rising_at h = omega (arith, ints, clamps)

-- ---- where a step begins

pub nearest_inside : (a b m up down x : ℤ) → a ≤ℤ m → m ≤ℤ b → a ≤ℤ (x +ℤ down) → x ≤ℤ (b +ℤ up) → pos 0 ≤ℤ up →
    pos 0 ≤ℤ down → (a ≤ℤ nearest up down m x) × (nearest up down m x ≤ℤ b)
nearest_inside a b m up down x p q r s u d = (omega (arith, ints, clamps), omega (arith, ints, clamps))

pub level_joined : (f term : ℤ → ℤ) (n n' v l k k' : ℤ) → v ≡ f n → n ≡ n' → k' ≡ k →
    ((v +ℤ term n) +ℤ l) +ℤ k ≡ ((f n' +ℤ term n') +ℤ l) +ℤ k'
level_joined f term n n' v l k k' value near cost =
    let a = ap f near in
    let b = ap term near in
    omega (arith, ints)
