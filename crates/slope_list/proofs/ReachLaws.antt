-- A valley as a table, and the window over it.
use Rattle.slope_list.proofs.Common.{◌≡◌, Some, sym, ap, ◌∙◌, arith, ℤ, pos, ◌+ℤ◌, ◌-ℤ◌, ◌≤ℤ◌, ◌<ℤ◌, int_min, int_max}
use Rattle.slope_list.proofs.Common.{ints, clamps, by_lt_z, IsWindow, table_on, IsValley, IsBottom, nearest}
use Rattle.slope_list.proofs.FunctionLaws.{on_inside, on_back}
use Rattle.slope_list.proofs.ValleyLaws.{falls_to, rises_to, valley_least}

module _ (f : ℤ → ℤ) (a b m : ℤ) (v : IsValley f a b m) where
  falls_below : (x y : ℤ) → a ≤ℤ x → x <ℤ y → y ≤ℤ m → f y <ℤ f x
  falls_below x y low order high =
      let here = v.falls x low (omega (arith, ints, order, high)) in
      let rest = falls_to f a b m v (x +ℤ pos 1) y (omega (arith, ints, low)) (omega (arith, ints, order)) high in
      omega (arith, ints, here, rest)

  pub IsBottom-valley : IsBottom (table_on f a b) m
  IsBottom-valley = record {
    value = f m;
    there = on_inside f a b m v.from v.to;
    falls = λ y z w u h i order high.
        (let o = on_back f a b y w h in
        let p = on_back f a b z u i in
        let l = falls_below y z o.from order high in
        let e = o.value in
        let k = p.value in
        omega (arith, ints, l, e, k));
    rises = λ y z w u h i low order.
        (let o = on_back f a b y w h in
        let p = on_back f a b z u i in
        let l = rises_to f a b m v y z low order p.to in
        let e = o.value in
        let k = p.value in
        omega (arith, ints, l, e, k));
  }

  -- ---- the window

  module _ (up down lo hi least most : ℤ) (is_up : pos 0 ≤ℤ up) (is_down : pos 0 ≤ℤ down)
      (lo_is : lo ≡ int_max least (a -ℤ down)) (hi_is : hi ≡ int_min most (b +ℤ up)) where
    near_inside : (x : ℤ) → lo ≤ℤ x → x ≤ℤ hi → (a ≤ℤ nearest up down m x) × (nearest up down m x ≤ℤ b)
    near_inside x low high = let from = v.from in let to = v.to in
        (omega (arith, ints, clamps), omega (arith, ints, clamps))

    near_least : (x y : ℤ) → lo ≤ℤ x → x ≤ℤ hi → a ≤ℤ y → y ≤ℤ b → (x -ℤ up) ≤ℤ y → y ≤ℤ (x +ℤ down) →
        f (nearest up down m x) ≤ℤ f y
    near_least x y low high from to reach back =
        let q = nearest up down m x in
        let i = near_inside x low high in
        by_lt_z q m
        (λ (l : q <ℤ m).
        let below : y ≤ℤ q = omega (arith, ints, clamps) in
        falls_to f a b m v y q from below (omega (arith, ints)))
        (λ (l : m ≤ℤ q).
        by_lt_z m q
        (λ (g : m <ℤ q).
        let above : q ≤ℤ y = omega (arith, ints, clamps) in
        rises_to f a b m v q y l above to)
        (λ (g : q ≤ℤ m).
        let e : f q ≡ f m = ap f (omega (arith, ints)) in
        let h = valley_least f a b m v y from to in
        omega (arith, ints)))

    pub IsWindow-valley : IsWindow up down least most (table_on f a b) (table_on (λ x. f (nearest up down m x)) lo hi)
    IsWindow-valley = record {
      reached = λ x v h.
          let o = on_back (λ z. f (nearest up down m z)) lo hi x v h in
          let low = o.from in
          let high = o.to in
          let i = near_inside x low high in (
            nearest up down m x,
            on_inside f a b (nearest up down m x) i.0 i.1 ∙ ap Some (sym o.value),
            (omega (arith, ints, clamps), omega (arith, ints, clamps)),
            (omega (arith, ints, clamps), omega (arith, ints, clamps)),
          );
      least = λ x y w h inside reach.
          let o = on_back f a b y w h in
          let from = o.from in
          let to = o.to in
          let p = reach.0 in
          let q = reach.1 in
          let low : lo ≤ℤ x = omega (arith, ints, clamps) in
          let high : x ≤ℤ hi = omega (arith, ints, clamps) in
          let n = near_least x y low high from to p q in
          (f (nearest up down m x), on_inside (λ z. f (nearest up down m z)) lo hi x low high, omega (arith, ints));
    }
