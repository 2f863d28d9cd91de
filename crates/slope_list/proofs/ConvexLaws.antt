-- Each effect keeps convexity, whatever the representation.
use Rattle.slope_list.proofs.Common.{◌≡◌, ℕ, zero, suc, ◌+◌, ◌-◌, ◌<◌, length, get_or, Option, Some, None, refl, sym}
use Rattle.slope_list.proofs.Common.{ap}
use Rattle.slope_list.proofs.Common.{◌∙◌, arith, ℤ, pos, ◌+ℤ◌, ◌-ℤ◌, ◌*ℤ◌, ◌≤ℤ◌, ◌<ℤ◌, by_lt_z, ints, clamps}
use Rattle.slope_list.proofs.Common.{option_map}
use Rattle.slope_list.proofs.Common.{Table, value_of, IsConvex, reserve_term, IsWindow, IsSum}
use Rattle.slope_list.proofs.Common.{PointIsConvex, CopyIsConvex, LineKeepsConvexity, ReserveKeepsConvexity}
use Rattle.slope_list.proofs.Common.{WindowKeepsConvexity}
use Rattle.std.specs.Int.{int_min}
use Rattle.plain_lists.proofs.IntLaws.{mul-add, mul-mono_of}
use Rattle.slope_list.proofs.Lookup.{IsAt, IsAt-from_value, value-from_index, value-from_is_at, same_some}
use Rattle.slope_list.proofs.LineLaws.{times_next}

module _ (v : ℕ → ℤ) (n : ℕ) (convex : (k : ℕ) → k + 2 < n → (v (k + 1) +ℤ v (k + 1)) ≤ℤ (v k +ℤ v (k + 2))) where
  -- the slope at i is no greater than the slope at j, d powers on
  pub slopes : (d i j : ℕ) → j ≡ i + d → j + 1 < n → (v (i + 1) +ℤ v j) ≤ℤ (v i +ℤ v (j + 1))
  slopes zero i j e h =
      let same : v j ≡ v i = ap v (omega arith) in
      let next : v (j + 1) ≡ v (i + 1) = ap v (omega arith) in
      omega (arith, ints)
  slopes (suc d) i j e h =
      let before : (v (i + 1) +ℤ v (i + d)) ≤ℤ (v i +ℤ v ((i + d) + 1)) = slopes d i (i + d) refl (omega arith) in
      let here : (v ((i + d) + 1) +ℤ v ((i + d) + 1)) ≤ℤ (v (i + d) +ℤ v ((i + d) + 2)) =
      convex (i + d) (omega arith) in
      let same : v j ≡ v ((i + d) + 1) = ap v (omega arith) in
      let next : v (j + 1) ≡ v ((i + d) + 2) = ap v (omega arith) in
      omega (arith, ints)

-- the same at powers of a table, y below z
pub record Between (f : Table) (y z a b : ℤ) : Type 0 where
  pub up : ℤ
  pub down : ℤ
  pub up_is : value_of f (y +ℤ pos 1) ≡ Some up
  pub down_is : value_of f (z -ℤ pos 1) ≡ Some down
  pub convex : (up +ℤ down) ≤ℤ (a +ℤ b)

between_by : (f : Table) → IsConvex f → (y z a b : ℤ) → IsAt f y a → IsAt f z b → y <ℤ z → Between f y z a b
between_by f h y z a b p q l =
    let v : ℕ → ℤ = λ k. get_or f.values k (pos 0) in
    let i = p.offset in
    let j = q.offset - 1 in
    let order : i < q.offset = omega (arith, ints, p.power, q.power) in
    let next : j + 1 ≡ q.offset = omega arith in
    let inside : q.offset < length f.values = q.inside in
    let s : (v (i + 1) +ℤ v j) ≤ℤ (v i +ℤ v (j + 1)) =
    slopes v (length f.values) h (j - i) i j (omega arith) (omega arith) in
    let there_p : v i ≡ a = p.there in
    let there_q : v (j + 1) ≡ b = ap v next ∙ q.there in
    record {
      up = v (i + 1);
      down = v j;
      up_is = value-from_is_at f (y +ℤ pos 1) (v (i + 1))
          (record { offset = i + 1; power = omega (arith, ints, p.power); inside = omega arith; there = refl });
      down_is = value-from_is_at f (z -ℤ pos 1) (v j)
          (record { offset = j; power = omega (arith, ints, q.power); inside = omega arith; there = refl });
      convex = omega (arith, ints);
    }

pub between : (f : Table) → IsConvex f → (y z a b : ℤ) → value_of f y ≡ Some a → value_of f z ≡ Some b → y <ℤ z →
    Between f y z a b
between f h y z a b p q l = between_by f h y z a b (IsAt-from_value f y a p) (IsAt-from_value f z b q) l

-- a window keeps convexity, whatever the representation
module _ (up down lo hi : ℤ) (f g : Table) (w : IsWindow up down lo hi f g) (h : IsConvex f) where
  -- the value at the middle power is no greater than any old value in its reach
  middle : (x v y b : ℤ) → value_of g x ≡ Some v → value_of f y ≡ Some b → ((lo ≤ℤ x) × (x ≤ℤ hi)) →
      (((x -ℤ up) ≤ℤ y) × (y ≤ℤ (x +ℤ down))) → v ≤ℤ b
  middle x v y b p q inside reach =
      let r = w.least x y b q inside reach in
      let e : r.0 ≡ v = same_some (value_of g x) r.1 p in
      let l : r.0 ≤ℤ b = r.2 in
      omega (arith, ints)

  around : (x v0 v1 v2 : ℤ) → value_of g x ≡ Some v0 → value_of g (x +ℤ pos 1) ≡ Some v1 →
      value_of g (x +ℤ pos 2) ≡ Some v2 → (v1 +ℤ v1) ≤ℤ (v0 +ℤ v2)
  around x v0 v1 v2 p0 p1 p2 =
      let r0 = w.reached x v0 p0 in
      let r2 = w.reached (x +ℤ pos 2) v2 p2 in
      by_lt_z r0.0 r2.0
      (λ (l : r0.0 <ℤ r2.0).
      let s = between f h r0.0 r2.0 v0 v2 r0.1 r2.1 l in
      let a : v1 ≤ℤ s.up = middle (x +ℤ pos 1) v1 (r0.0 +ℤ pos 1) s.up p1 s.up_is
      (omega (arith, ints), omega (arith, ints)) (omega (arith, ints), omega (arith, ints)) in
      let b : v1 ≤ℤ s.down = middle (x +ℤ pos 1) v1 (r2.0 -ℤ pos 1) s.down p1 s.down_is
      (omega (arith, ints), omega (arith, ints)) (omega (arith, ints), omega (arith, ints)) in
      let c = s.convex in
      omega (arith, ints))
      (λ (l : r2.0 ≤ℤ r0.0).
      let a : v1 ≤ℤ v0 = middle (x +ℤ pos 1) v1 r0.0 v0 p1 r0.1 (omega (arith, ints), omega (arith, ints))
      (omega (arith, ints), omega (arith, ints)) in
      let b : v1 ≤ℤ v2 = middle (x +ℤ pos 1) v1 r2.0 v2 p1 r2.1 (omega (arith, ints), omega (arith, ints))
      (omega (arith, ints), omega (arith, ints)) in
      omega (arith, ints))

-- ---- convexity by powers, and sums

-- at three powers side by side
pub convex_at : (f : Table) → IsConvex f → (x a b c : ℤ) → value_of f x ≡ Some a → value_of f (x +ℤ pos 1) ≡ Some b →
    value_of f (x +ℤ pos 2) ≡ Some c → (b +ℤ b) ≤ℤ (a +ℤ c)
convex_at f h x a b c p q r =
    let s = between f h x (x +ℤ pos 2) a c p r (omega (arith, ints)) in
    let power : (x +ℤ pos 2) -ℤ pos 1 ≡ x +ℤ pos 1 = omega (arith, ints) in
    let up : s.up ≡ b = same_some (value_of f (x +ℤ pos 1)) s.up_is q in
    let down : s.down ≡ b = same_some (value_of f (x +ℤ pos 1)) (ap (value_of f) (sym power) ∙ s.down_is) q in
    let l = s.convex in
    omega (arith, ints)

-- and backtracking
pub IsConvex-from_places : (g : Table) →
    ((x a b c : ℤ) → value_of g x ≡ Some a → value_of g (x +ℤ pos 1) ≡ Some b → value_of g (x +ℤ pos 2) ≡ Some c →
    (b +ℤ b) ≤ℤ (a +ℤ c)) → IsConvex g
IsConvex-from_places g h k l =
    let v : ℕ → ℤ = λ k. get_or g.values k (pos 0) in
    let p0 : value_of g (g.lo +ℤ pos k) ≡ Some (v k) = value-from_index g k (omega arith) in
    let p1 : value_of g ((g.lo +ℤ pos k) +ℤ pos 1) ≡ Some (v (k + 1)) =
    value-from_is_at g _ _
    (record { offset = k + 1; power = omega (arith, ints); inside = omega arith; there = refl }) in
    let p2 : value_of g ((g.lo +ℤ pos k) +ℤ pos 2) ≡ Some (v (k + 2)) =
    value-from_is_at g _ _
    (record { offset = k + 2; power = omega (arith, ints); inside = omega arith; there = refl }) in
    h (g.lo +ℤ pos k) (v k) (v (k + 1)) (v (k + 2)) p0 p1 p2

-- what was added at a power with a value
pub added : (term : ℤ → ℤ) (x v : ℤ) (o o' : Option ℤ) → o' ≡ option_map (λ v. v +ℤ term x) o → o' ≡ Some v →
    (u : ℤ) × (o ≡ Some u) × (v ≡ u +ℤ term x)
added term x v None o' e h = let n : o' ≡ None = e in cc
added term x v (Some u) o' e h = let s : o' ≡ Some (u +ℤ term x) = e in (u, refl, (cc))

-- the sum with a convex term is convex, whatever the representation
pub IsConvex-sum : (term : ℤ → ℤ) (f g : Table) → IsSum term f g →
    ((x : ℤ) → (term (x +ℤ pos 1) +ℤ term (x +ℤ pos 1)) ≤ℤ (term x +ℤ term (x +ℤ pos 2))) → IsConvex f → IsConvex g
IsConvex-sum term f g sum is h = IsConvex-from_places g (λ x a b c p q r.
    let u = added term x a (value_of f x) (value_of g x) (sum x) p in
    let v = added term (x +ℤ pos 1) b (value_of f (x +ℤ pos 1)) (value_of g (x +ℤ pos 1)) (sum (x +ℤ pos 1)) q in
    let w = added term (x +ℤ pos 2) c (value_of f (x +ℤ pos 2)) (value_of g (x +ℤ pos 2)) (sum (x +ℤ pos 2)) r in
    let l = convex_at f h x u.0 v.0 w.0 u.1 v.1 w.1 in
    let t = is x in
    omega (arith, ints, u.2, v.2, w.2))

line_convex : (slope x : ℤ) → (slope *ℤ (x +ℤ pos 1) +ℤ slope *ℤ (x +ℤ pos 1)) ≤ℤ (slope *ℤ x +ℤ slope *ℤ (x +ℤ pos 2))
line_convex slope x =
    let a = times_next slope x in
    let b : slope *ℤ (x +ℤ pos 2) ≡ slope *ℤ (x +ℤ pos 1) +ℤ slope =
    ap (λ y. slope *ℤ y) (omega (arith, ints)) ∙ times_next slope (x +ℤ pos 1) in
    omega (arith, ints)

-- min (cap, up + x) is concave, so what is lost by it is convex
reserve_convex : (mu cap up x : ℤ) → pos 0 ≤ℤ mu →
    (reserve_term mu cap up (x +ℤ pos 1) +ℤ reserve_term mu cap up (x +ℤ pos 1))
    ≤ℤ (reserve_term mu cap up x +ℤ reserve_term mu cap up (x +ℤ pos 2))
reserve_convex mu cap up x h =
    let m0 = int_min cap (up +ℤ x) in
    let m1 = int_min cap (up +ℤ (x +ℤ pos 1)) in
    let m2 = int_min cap (up +ℤ (x +ℤ pos 2)) in
    let concave : (m0 +ℤ m2) ≤ℤ (m1 +ℤ m1) = omega (arith, ints, clamps) in
    let e0 = mul-add mu m0 m2 in
    let e1 = mul-add mu m1 m1 in
    let l = mul-mono_of mu (m0 +ℤ m2) (m1 +ℤ m1) h concave in
    omega (arith, ints)

pub IsConvex-line : LineKeepsConvexity
IsConvex-line slope f g sum h = IsConvex-sum (λ x. slope *ℤ x) f g sum (line_convex slope) h

pub IsConvex-reserve : ReserveKeepsConvexity
IsConvex-reserve mu cap up f g is_whole sum h =
    IsConvex-sum (reserve_term mu cap up) f g sum (λ x. reserve_convex mu cap up x is_whole) h

pub IsConvex-point : PointIsConvex
IsConvex-point power value f is = IsConvex-from_places f (λ x a b c p q r.
    let e = is.only x a p in
    let d = is.only (x +ℤ pos 1) b q in
    absurd (omega (arith, ints)))

pub IsConvex-same : CopyIsConvex
IsConvex-same f g same h = IsConvex-from_places g (λ x a b c p q r.
    convex_at f h x a b c (sym (same x) ∙ p) (sym (same (x +ℤ pos 1)) ∙ q) (sym (same (x +ℤ pos 2)) ∙ r))

pub IsConvex-window : WindowKeepsConvexity
IsConvex-window up down lo hi f g w h = IsConvex-from_places g (around up down lo hi f g w h)
