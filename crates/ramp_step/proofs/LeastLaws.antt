-- Where a convex function is least.
use Rattle.ramp_step.proofs.Common.{◌≡◌, ℕ, ◌-◌, List, sym, ap, subst, arith, ℤ, pos, ◌+ℤ◌, ◌-ℤ◌, ◌≤ℤ◌, ◌<ℤ◌, int_min}
use Rattle.ramp_step.proofs.Common.{int_max, ints, clamps, by_lt_z, Knot, knot, power, IsConvex, StandFor, IsInside}
use Rattle.ramp_step.proofs.Common.{clamped, IsLeastInReach, IsTurn, IsLowest, HasNoPower, IsInsideWithin, MovesParts}
use Rattle.ramp_step.proofs.WindowLaws.{slopes, falls_to, rises_to, window_law}
use Rattle.ramp_step.proofs.SpreadLaws.{turn_falls_strictly, turn_falls, turn_rises, turn_from_first, turn_to_last}

module _ (ks : List Knot) (n j : ℕ) (f : ℤ → ℤ) (s : StandFor ks n f) (t : IsTurn ks n j) where
  -- the value falls from each power to each later one up to the turn
  falls_below : (x y : ℤ) → power ks 0 ≤ℤ x → x <ℤ y → y ≤ℤ power ks j → f y <ℤ f x
  falls_below x y low order high =
      let step = turn_falls_strictly ks n j f s t x low (omega (arith, ints)) in
      let rest = falls_to f (power ks 0) (power ks (n - 1)) (power ks j) (turn_falls ks n j f s t)
      (turn_rises ks n j f s t) (x +ℤ pos 1) y (omega (arith, ints)) (omega (arith, ints)) high in
      omega (arith, ints)

  rises_after : (x y : ℤ) → power ks j ≤ℤ x → x ≤ℤ y → y ≤ℤ power ks (n - 1) → f x ≤ℤ f y
  rises_after = rises_to f (power ks 0) (power ks (n - 1)) (power ks j) (turn_falls ks n j f s t)
      (turn_rises ks n j f s t)

  -- the knot at the turn is the lowest
  pub IsLowest-turn : IsLowest (IsInside ks n) f (knot ks j)
  IsLowest-turn =
      let some = t.inside in
      let meet = s.meet j some in
      record {
        inside = record {
          some = omega arith;
          from_first = turn_from_first ks n j f s t;
          to_last =
              turn_to_last ks n j f s t;
        };
        there = sym meet;
        least = λ y h.
            let low = h.from_first in
            let high = h.to_last in
            by_lt_z y (power ks j)
            (λ before. let d = falls_below y (power ks j) low before (omega (arith, ints)) in omega (arith, ints))
            (λ after. let r = rises_after (power ks j) y (omega (arith, ints)) after high in omega (arith, ints));
        first = λ y h e.
            let low = h.from_first in
            by_lt_z y (power ks j)
            (λ before. let d = falls_below y (power ks j) low before (omega (arith, ints)) in
            absurd (omega (arith, ints)))
            (λ after. after);
      }

  -- where the turn is cut off, the nearest power to it that is left is the lowest
  pub IsLowest-within : (lo hi v : ℤ) → lo ≤ℤ hi → IsInside ks n (int_max lo (int_min hi (power ks j))) →
      v ≡ f (int_max lo (int_min hi (power ks j)))
      → IsLowest (IsInsideWithin lo hi ks n) f (record { at = int_max lo (int_min hi (power ks j)); value = v })
  IsLowest-within lo hi v order inside is = record {
    inside = record { inside = inside; from = omega (arith, ints, clamps); to = omega (arith, ints, clamps) };
    there = sym is;
    least = λ y h.
        let low = h.inside.from_first in
        let high = h.inside.to_last in
        let x = int_max lo (int_min hi (power ks j)) in
        by_lt_z y x
        (λ before. let d = falls_below y x low before (omega (arith, ints, clamps)) in omega (arith, ints))
        (λ after. by_lt_z x y
        (λ past. let r = rises_after x y (omega (arith, ints, clamps)) after high in omega (arith, ints))
        (λ upto. let e : f y ≡ f x = ap f (omega (arith, ints)) in omega (arith, ints)));
    first = λ y h e.
        let low = h.inside.from_first in
        let x = int_max lo (int_min hi (power ks j)) in
        by_lt_z y x
        (λ before. let d = falls_below y x low before (omega (arith, ints, clamps)) in absurd (omega (arith, ints)))
        (λ after. after);
  }

  -- where there is a power left, that power is in the interval
  pub HasNoPower-within : (lo hi : ℤ) → (IsInside ks n (int_max lo (int_min hi (power ks j))) → ⊥) →
      HasNoPower (IsInsideWithin lo hi ks n)
  HasNoPower-within lo hi outside y h =
      let a = turn_from_first ks n j f s t in
      let b = turn_to_last ks n j f s t in
      outside (record {
        some = h.inside.some;
        from_first = omega (arith, ints, clamps);
        to_last =
            omega (arith, ints, clamps);
      })

-- ---- the law of the window, from convexity alone

module _ (f : ℤ → ℤ) (a b m : ℤ) (convex : IsConvex a b f) (first : a ≤ℤ m) (last : m ≤ℤ b)
    (least : (y : ℤ) → a ≤ℤ y → y ≤ℤ b → f m ≤ℤ f y) where
  falls_before : (x : ℤ) → a ≤ℤ x → x <ℤ m → f (x +ℤ pos 1) ≤ℤ f x
  falls_before x low high =
      let order = slopes f a b convex x (m -ℤ pos 1) low (omega (arith, ints)) (omega (arith, ints)) in
      let l = least (m -ℤ pos 1) (omega (arith, ints)) (omega (arith, ints)) in
      let e : f ((m -ℤ pos 1) +ℤ pos 1) ≡ f m = ap f (omega (arith, ints)) in
      omega (arith, ints)

  rises_from : (x : ℤ) → m ≤ℤ x → x <ℤ b → f x ≤ℤ f (x +ℤ pos 1)
  rises_from x low high =
      let order = slopes f a b convex m x first low high in
      let l = least (m +ℤ pos 1) (omega (arith, ints)) (omega (arith, ints)) in
      omega (arith, ints)

  at : (up down x y : ℤ) → pos 0 ≤ℤ up → pos 0 ≤ℤ down → clamped (x -ℤ up) (x +ℤ down) m ≡ y → a ≤ℤ (x +ℤ down) →
      (x -ℤ up) ≤ℤ b → IsLeastInReach f a b up down x (f y)
  at up down x y is_up is_down e low high =
      let P : ℤ → Type 0 = λ z. IsLeastInReach f a b up down x (f z) in
      subst P e (window_law f a b m falls_before rises_from up down x first last is_up is_down low high)

  pub MovesParts-convex : (up down : ℤ) → pos 0 ≤ℤ up → pos 0 ≤ℤ down → MovesParts f a b m up down
  MovesParts-convex up down is_up is_down = record {
    falling = λ x low high.
        let e : clamped (x -ℤ up) (x +ℤ down) m ≡ x +ℤ down = omega (arith, ints, clamps) in
        at up down x (x +ℤ down) is_up is_down e (omega (arith, ints)) (omega (arith, ints));
    flat = λ x low high. let e : clamped (x -ℤ up) (x +ℤ down) m ≡ m = omega (arith, ints, clamps) in
        at up down x m is_up is_down e (omega (arith, ints)) (omega (arith, ints));
    rising = λ x low high.
        let e : clamped (x -ℤ up) (x +ℤ down) m ≡ x -ℤ up = omega (arith, ints, clamps) in
        at up down x (x -ℤ up) is_up is_down e (omega (arith, ints)) (omega (arith, ints));
  }
