-- A valley: a part that falls and a part that doesn't.
use Rattle.slope_list.proofs.Common.{◌≡◌, ℕ, zero, suc, refl, sym, ap, arith, ℤ, pos, negsuc, ◌+ℤ◌, ◌-ℤ◌, ◌≤ℤ◌, ◌<ℤ◌}
use Rattle.slope_list.proofs.Common.{ints, by_lt_z, IsLeast, table_on, IsValley}
use Rattle.slope_list.proofs.FunctionLaws.{on_inside, on_back}

steps_by : (x y d : ℤ) → y -ℤ x ≡ d → x ≤ℤ y → (k : ℕ) × (y ≡ x +ℤ pos k)
steps_by x y (pos k) e h = (k, omega (arith, ints))
steps_by x y (negsuc k) e h = absurd (omega (arith, ints))

pub steps : (x y : ℤ) → x ≤ℤ y → (k : ℕ) × (y ≡ x +ℤ pos k)
steps x y h = steps_by x y (y -ℤ x) refl h

module _ (f : ℤ → ℤ) (a b m : ℤ) (v : IsValley f a b m) where
  falls_by : (k : ℕ) (x : ℤ) → a ≤ℤ x → (x +ℤ pos k) ≤ℤ m → f (x +ℤ pos k) ≤ℤ f x
  falls_by zero x low high = let e : f (x +ℤ pos 0) ≡ f x = ap f (omega (arith, ints)) in omega (arith, ints)
  falls_by (suc k) x low high =
      let before = falls_by k x low (omega (arith, ints)) in
      let here = v.falls (x +ℤ pos k) (omega (arith, ints)) (omega (arith, ints)) in
      let e : f (x +ℤ pos (suc k)) ≡ f ((x +ℤ pos k) +ℤ pos 1) = ap f (omega (arith, ints)) in
      omega (arith, ints)

  rises_by : (k : ℕ) (x : ℤ) → m ≤ℤ x → (x +ℤ pos k) ≤ℤ b → f x ≤ℤ f (x +ℤ pos k)
  rises_by zero x low high = let e : f (x +ℤ pos 0) ≡ f x = ap f (omega (arith, ints)) in omega (arith, ints)
  rises_by (suc k) x low high =
      let before = rises_by k x low (omega (arith, ints)) in
      let here = v.rises (x +ℤ pos k) (omega (arith, ints)) (omega (arith, ints)) in
      let e : f (x +ℤ pos (suc k)) ≡ f ((x +ℤ pos k) +ℤ pos 1) = ap f (omega (arith, ints)) in
      omega (arith, ints)

  pub falls_to : (x y : ℤ) → a ≤ℤ x → x ≤ℤ y → y ≤ℤ m → f y ≤ℤ f x
  falls_to x y low order high =
      let s = steps x y order in
      let h = falls_by s.0 x low (omega (arith, ints, s.1)) in
      let e : f y ≡ f (x +ℤ pos s.0) = ap f s.1 in
      omega (arith, ints)

  pub rises_to : (x y : ℤ) → m ≤ℤ x → x ≤ℤ y → y ≤ℤ b → f x ≤ℤ f y
  rises_to x y low order high =
      let s = steps x y order in
      let h = rises_by s.0 x low (omega (arith, ints, s.1)) in
      let e : f y ≡ f (x +ℤ pos s.0) = ap f s.1 in
      omega (arith, ints)

  -- m is the least power of the least value
  pub valley_least : (y : ℤ) → a ≤ℤ y → y ≤ℤ b → f m ≤ℤ f y
  valley_least y low high = by_lt_z y m
      (λ (l : y <ℤ m). falls_to y m low (omega (arith, ints)) (omega (arith, ints)))
      (λ (l : m ≤ℤ y). rises_to m y (omega (arith, ints)) l high)

  pub valley_first : (y : ℤ) → a ≤ℤ y → y ≤ℤ b → f y ≡ f m → m ≤ℤ y
  valley_first y low high same = by_lt_z y m
      (λ (l : y <ℤ m).
      let here = v.falls y low l in
      let rest = falls_to (y +ℤ pos 1) m (omega (arith, ints)) (omega (arith, ints)) (omega (arith, ints)) in
      absurd (omega (arith, ints)))
      (λ (l : m ≤ℤ y). l)

  pub IsLeast-valley : IsLeast (table_on f a b) (f m) m
  IsLeast-valley =
      let from = v.from in
      let to = v.to in
      record {
        there = on_inside f a b m from to;
        least = λ y w h. let o = on_back f a b y w h in let e = o.value in let l = valley_least y o.from o.to in
            omega (arith, ints);
        first = λ y h. let o = on_back f a b y (f m) h in valley_first y o.from o.to (sym o.value);
      }
