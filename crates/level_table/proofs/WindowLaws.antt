-- The least values in reach of the powers between the two ends are the window.
use Rattle.level_table.proofs.Common.{◌≡◌, ℕ, ◌-◌, ◌<◌, List, length, get_or, Some, refl, ◌∙◌, arith, inl, inr, ℤ, pos}
use Rattle.level_table.proofs.Common.{◌+ℤ◌, ◌-ℤ◌, ◌≤ℤ◌, ◌<ℤ◌, ◌⊎◌, int_max, int_min, ints, clamps, value_of, IsPlace}
use Rattle.level_table.proofs.Common.{IsWindow, IsLeastIn, Reaches, IsAt-from_value, value-from_is_at, power_split}
use Rattle.level_table.proofs.Common.{table, AreWithin}

module _ (values : List ℤ) (own last up down lo hi from to : ℤ) (count : ℕ)
    (some : 0 < length values) (is_up : pos 0 ≤ℤ up) (is_down : pos 0 ≤ℤ down)
    (last_is : (last +ℤ pos 1) ≡ (own +ℤ pos (length values)))
    (from_is : from ≡ int_max lo (own -ℤ down)) (to_is : to ≡ int_min hi (last +ℤ up))
    (count_is : pos count ≡ int_max (pos 0) ((to +ℤ pos 1) -ℤ from)) where
  pub power_inside : (k : ℕ) → k < count → (lo ≤ℤ (from +ℤ pos k)) × ((from +ℤ pos k) ≤ℤ hi)
  power_inside k h = (omega (arith, ints, clamps), omega (arith, ints, clamps))

  -- the old power nearest to x - up is in reach of x
  nearest : (x : ℤ) → (own -ℤ down) ≤ℤ x → x ≤ℤ (last +ℤ up) → (y : ℤ) → y ≡ int_max own (x -ℤ up) →
      ((k : ℕ) × (y ≡ own +ℤ pos k)) ⊎ (y <ℤ own)
      → (y w : ℤ) × (value_of (table own values) y ≡ Some w) × Reaches up down x y
  nearest x low high y is (inr below) = absurd (omega (arith, ints, clamps))
  nearest x low high y is (inl p) =
      let power = p.1 in
      let inside : p.0 < length values = omega (arith, ints, clamps) in (
        y,
        get_or values p.0 (pos 0),
        value-from_is_at (table own values) y (get_or values p.0 (pos 0))
            (record { offset = p.0; power = power; inside = inside; there = refl }),
        (omega (arith, ints, clamps), omega (arith, ints, clamps)),
      )

  pub some_in_reach : (k : ℕ) → k < count → (y w : ℤ) × (value_of (table own values) y ≡ Some w) ×
      Reaches up down (from +ℤ pos k) y
  some_in_reach k h =
      let x = from +ℤ pos k in
      nearest x (omega (arith, ints, clamps)) (omega (arith, ints, clamps)) (int_max own (x -ℤ up)) refl
      (power_split own (int_max own (x -ℤ up)))

  module _ (out : List ℤ) (len : length out ≡ count)
      (each : (k : ℕ) → k < count → (y : ℤ) ×
      IsLeastIn ((from +ℤ pos k) -ℤ up) ((from +ℤ pos k) +ℤ down) (table own values) (get_or out k (pos 0)) y) where
    new_value : (x y w : ℤ) → value_of (table own values) y ≡ Some w → from ≤ℤ x → x ≤ℤ to → Reaches up down x y →
        ((k : ℕ) × (x ≡ from +ℤ pos k)) ⊎ (x <ℤ from)
        → (v : ℤ) × (value_of (table from out) x ≡ Some v) × (v ≤ℤ w)
    new_value x y w h low high reach (inr below) = absurd (omega (arith, ints))
    new_value x y w h low high reach (inl p) =
        let power = p.1 in
        let inside : p.0 < count = omega (arith, ints, clamps) in
        let a = reach.0 in
        let b = reach.1 in (
          get_or out p.0 (pos 0),
          value-from_is_at (table from out) x (get_or out p.0 (pos 0))
              (record { offset = p.0; power = power; inside = omega arith; there = refl }),
          (each p.0 inside).1.least y w h (omega (arith, ints)) (omega (arith, ints)),
        )

    pub window_is : IsWindow up down lo hi (table own values) (table from out)
    window_is = record {
      reached = λ x v h.
          let i = IsAt-from_value (table from out) x v h in
          let power = i.power in
          let inside : i.offset < count = omega (arith, i.inside) in
          let r = each i.offset inside in
          let l = r.1 in
          let reach = l.inside in
          let a = reach.0 in
          let b = reach.1 in
          let in_power = power_inside i.offset inside in
          let c = in_power.0 in
          let d = in_power.1 in (
            r.0,
            l.there ∙ (let t = i.there in (cc)),
            (omega (arith, ints), omega (arith, ints)),
            (omega (arith, ints), omega (arith, ints)),
          );
      least = λ x y w h inside reach.
          let i = IsAt-from_value (table own values) y w h in
          let power = i.power in
          let in_old = i.inside in
          let a = reach.0 in
          let b = reach.1 in
          let low = inside.0 in
          let high = inside.1 in
          new_value x y w h (omega (arith, ints, clamps)) (omega (arith, ints, clamps)) reach (power_split from x);
    }

-- the first and the last old power are within the limits
pub ends_are_powers : (own : ℤ) (values : List ℤ) → AreWithin own values → 0 < length values →
    IsPlace own × IsPlace ((own +ℤ pos (length values)) -ℤ pos 1)
ends_are_powers own values within some =
    let first = within.powers 0 some in
    let last = within.powers (length values - 1) (omega arith) in
    let a = first.0 in
    let b = first.1 in
    let c = last.0 in
    let d = last.1 in
    ((omega (arith, ints), omega (arith, ints)), (omega (arith, ints), omega (arith, ints)))
