-- What is read off pieces.
use Rattle.slope_list.proofs.Common.{◌≡◌, ℕ, suc, ◌+◌, ◌-◌, ◌<◌, ◌≤◌, List, length, refl, sym, ap, ◌∙◌, subst}
use Rattle.slope_list.proofs.Common.{below_more, arith, Some, ℤ, pos, ◌+ℤ◌, ◌-ℤ◌, ◌*ℤ◌, ◌≤ℤ◌, ◌<ℤ◌, int_min, int_max}
use Rattle.slope_list.proofs.Common.{ints, clamps, by_lt_z, IsLeastIn, HasNone, IsAmount, Piece, Start, piece, end_at}
use Rattle.slope_list.proofs.Common.{last_power, function_of, table_on, AreSlopes, AreWithin, IsValley, IsAbove, CanGo}
use Rattle.slope_list.proofs.PieceLaws.{ends_rise_to, along_first}
use Rattle.slope_list.proofs.CursorLaws.{valley_at, level_from, can_go}
use Rattle.slope_list.proofs.FunctionLaws.{on_inside, on_back, by_power}
use Rattle.slope_list.proofs.ValleyLaws.{falls_to, rises_to, valley_least}

-- a walk over the pieces that fall, with the level at the power that it has come to
pub record HasFallen (start : Start) (ps : List Piece) (k : ℕ) (at value : ℤ) : Type 0 where
  pub at_is : at ≡ end_at start.first ps k
  pub value_is : value ≡ function_of start ps at
  pub falls : (j : ℕ) → j < k → (piece ps j).slope <ℤ pos 0

module _ (start : Start) (ps : List Piece) (slopes : AreSlopes start.first ps) where
  pub fallen_none : HasFallen start ps 0 start.first start.level
  fallen_none = record {
    at_is = refl;
    value_is = sym (along_first start.first start.level ps slopes);
    falls =
        λ j h. absurd (omega arith);
  }

  module _ (k : ℕ) (at value : ℤ) (w : HasFallen start ps k at value) where
    module _ (within : AreWithin start ps) (inside : k < length ps) where
      pub fallen_goes : CanGo value (piece ps k).slope at (piece ps k).end
      fallen_goes = let rise = slopes.rise k inside in
          can_go start ps slopes within k inside (piece ps k).end (omega (arith, ints)) (omega (arith, ints)) value at
          w.at_is w.value_is

      pub fallen_on : (next : ℤ) → next ≡ value +ℤ (piece ps k).slope *ℤ ((piece ps k).end -ℤ at) →
          (piece ps k).slope <ℤ pos 0 → HasFallen start ps (k + 1) (piece ps k).end next
      fallen_on next is down =
          let rise = slopes.rise k inside in
          record {
            at_is = sym (ap (end_at start.first ps) {x = k + 1} {y = suc k} (omega arith));
            value_is = is ∙ sym (level_from start ps slopes within k inside (piece ps k).end (omega (arith, ints))
                (omega (arith, ints)) value at w.at_is w.value_is);
            falls = below_more _ _ w.falls down;
          }

    pub fallen_amount : AreWithin start ps → k ≤ length ps → IsAmount value
    fallen_amount within upto =
        let low = ends_rise_to start.first ps slopes 0 k (omega arith) upto in
        let high = ends_rise_to start.first ps slopes k (length ps) upto (omega arith) in
        let e = w.at_is in
        subst IsAmount (sym w.value_is) (within at (omega (arith, ints)) (omega (arith, ints))).1

    pub fallen_valley : k ≤ length ps → (k < length ps → pos 0 ≤ℤ (piece ps k).slope) →
        IsValley (function_of start ps) start.first (last_power start.first ps) at
    fallen_valley upto rises = subst (IsValley (function_of start ps) start.first (last_power start.first ps))
        (sym w.at_is) (valley_at start ps slopes k upto w.falls rises)

-- above a limit at the least power, above it everywhere
pub above_all : (f : ℤ → ℤ) (a b m : ℤ) → IsValley f a b m → (shift limit : ℤ) → limit <ℤ (f m +ℤ shift) →
    IsAbove (table_on f a b) shift limit
above_all f a b m v shift limit h x w there =
    let o = on_back f a b x w there in
    let l = valley_least f a b m v x o.from o.to in
    omega (arith, ints)

-- the least value of some powers is at the one nearest to the least power
module _ (f : ℤ → ℤ) (a b m : ℤ) (v : IsValley f a b m) (lo hi low high at : ℤ) (low_is : low ≡ int_max lo a)
    (high_is : high ≡ int_min hi b) (some : low ≤ℤ high) (at_is : at ≡ int_max low (int_min high m)) where
  pub at_inside : (a ≤ℤ at) × (at ≤ℤ b) × (lo ≤ℤ at) × (at ≤ℤ hi)
  at_inside = let p = v.from in let q = v.to in (
    omega (arith, ints, clamps),
    omega (arith, ints, clamps),
    omega (arith, ints, clamps),
    omega (arith, ints, clamps),
  )

  least_at : (y : ℤ) → a ≤ℤ y → y ≤ℤ b → lo ≤ℤ y → y ≤ℤ hi → f at ≤ℤ f y
  least_at y from to l h =
      let i = at_inside in
      by_lt_z at m
      (λ (below : at <ℤ m). falls_to f a b m v y at from (omega (arith, ints, clamps)) (omega (arith, ints)))
      (λ (above : m ≤ℤ at). by_lt_z m at
      (λ (past : m <ℤ at). rises_to f a b m v at y above (omega (arith, ints, clamps)) to)
      (λ (here : at ≤ℤ m). let e : f at ≡ f m = ap f (omega (arith, ints)) in
      let g = valley_least f a b m v y from to in omega (arith, ints)))

  first_at : (y : ℤ) → a ≤ℤ y → y ≤ℤ b → lo ≤ℤ y → f y ≡ f at → at ≤ℤ y
  first_at y from to l e =
      by_lt_z y at
      (λ (before : y <ℤ at).
      let below : at ≤ℤ m = omega (arith, ints, clamps) in
      let d = v.falls y from (omega (arith, ints)) in
      let g = falls_to f a b m v (y +ℤ pos 1) at (omega (arith, ints)) (omega (arith, ints)) below in
      absurd (omega (arith, ints)))
      (λ (h : at ≤ℤ y). h)

  pub IsLeastIn-valley : (value : ℤ) → value ≡ f at → IsLeastIn lo hi (table_on f a b) value at
  IsLeastIn-valley value is =
      let i = at_inside in
      record {
        inside = (i.2, i.3);
        there = on_inside f a b at i.0 i.1 ∙ sym (ap (λ (z : ℤ). Some z) is);
        least = λ y w h l r. let o = on_back f a b y w h in let e = o.value in let g = least_at y o.from o.to l r in
            omega (arith, ints);
        first = λ y h l r. let o = on_back f a b y value h in first_at y o.from o.to l (sym o.value ∙ is);
      }

-- no power is asked for
pub HasNone-on : (f : ℤ → ℤ) (a b lo hi : ℤ) → int_min hi b <ℤ int_max lo a → HasNone lo hi (table_on f a b)
HasNone-on f a b lo hi h x low high =
    by_power a b x (λ (l : a ≤ℤ x) (r : x ≤ℤ b). absurd (omega (arith, ints, clamps))) (λ none. none f)
