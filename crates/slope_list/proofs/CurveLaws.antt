-- The sum of a convex function and a curve is convex.
use Rattle.slope_list.proofs.Common.{◌≡◌, ℕ, suc, ◌<◌, List, [], ◌∷◌, length, get_or, Option, Some, None, refl, sym, ap}
use Rattle.slope_list.proofs.Common.{◌∙◌, arith, ℤ, pos, ◌+ℤ◌, ◌-ℤ◌, ◌*ℤ◌, ◌≤ℤ◌, ◌<ℤ◌, MatchOption}
use Rattle.slope_list.proofs.Common.{option_map, by_lt_z, ints, *ℤ-zero, rise_at, curve_value, end_of}
use Rattle.slope_list.proofs.Common.{CurveKeepsConvexity, CurvePowersAreWithinLimits, CurveHasValueAtEachPower}
use Rattle.slope_list.proofs.Common.{value_of}
use Rattle.std.specs.List.{All}
use Rattle.uc_model.specs.declared.units.Block.{Block}
use Rattle.uc_model.specs.declared.units.Curve.{Curve}
use Rattle.uc_model.specs.Limits as limits
use Rattle.slope_list.proofs.ConvexLaws.{convex_at, IsConvex-from_places}
use Rattle.slope_list.proofs.Lookup.{same_some}
use Rattle.slope_list.proofs.LineLaws.{lt_is, not_lt_is, times_next}
use Rattle.slope_list.proofs.BlockLaws.{rise_at-past, rise_at-inside, mapped, AreWide, wide_tail, wide_of, up_to_width}
use Rattle.slope_list.proofs.BlockLaws.{end_of-width, curve_value_is}

-- blocks whose prices are at least p, and rise from block to block; no width is negative
abbrev RiseFrom : ℤ → List Block → Type 0
RiseFrom p [] = Unit {0}
RiseFrom p (b ∷ bs) = (p ≤ℤ b.price) × (pos 0 ≤ℤ b.width) × RiseFrom b.price bs

rise_from : (p : ℤ) (bs : List Block) → All (λ b. pos 0 ≤ℤ b.width) bs →
    ((k : ℕ) (d : Block) → suc k < length bs → (get_or bs k d).price ≤ℤ (get_or bs (suc k) d).price)
    → ((d : Block) → 0 < length bs → p ≤ℤ (get_or bs 0 d).price) → RiseFrom p bs
rise_from p [] widths rising first = tt
rise_from p (b ∷ bs) widths rising first = (
  first b (omega arith),
  widths 0 b (omega arith),
  rise_from b.price bs (λ k d h. widths (suc k) d (omega arith)) (λ k d h. rising (suc k) d (omega arith))
      (λ d h. rising 0 d (omega arith)),
)

at_start : (p : ℤ) (bs : List Block) → RiseFrom p bs → rise_at bs (pos 0) ≡ Some (pos 0)
at_start p [] h = refl
at_start p (b ∷ bs) h = rise_at-inside b bs (pos 0) h.1 ∙ ap Some (*ℤ-zero b.price)

-- a value past a block comes from the blocks after it
past_value : (b : Block) (bs : List Block) (x y v : ℤ) → b.width <ℤ x → x -ℤ b.width ≡ y → rise_at (b ∷ bs) x ≡ Some v →
    (u : ℤ) × (rise_at bs y ≡ Some u) × (v ≡ u +ℤ (b.price *ℤ b.width))
past_value b bs x y v h e is =
    let m = mapped (b.price *ℤ b.width) v (rise_at bs (x -ℤ b.width)) (sym (rise_at-past b bs x h) ∙ is) in
    (m.0, ap (rise_at bs) (sym e) ∙ m.1, m.2)

inside_value : (b : Block) (bs : List Block) (x v : ℤ) → x ≤ℤ b.width → rise_at (b ∷ bs) x ≡ Some v → v ≡ b.price *ℤ x
inside_value b bs x v h is = same_some (rise_at (b ∷ bs) x) is (rise_at-inside b bs x h)

none_past_end : (x v : ℤ) → pos 0 <ℤ x → rise_at [] x ≡ Some v → ⊥
none_past_end x v h is = let n : rise_at [] x ≡ None = rw (lt_is (pos 0) x h) in cc

-- each step to the right adds at least the least price
steps : (p : ℤ) (bs : List Block) → RiseFrom p bs → (x a b : ℤ) → pos 0 ≤ℤ x → rise_at bs x ≡ Some a →
    rise_at bs (x +ℤ pos 1) ≡ Some b → (a +ℤ p) ≤ℤ b
steps p [] h x a b low is next = absurd (none_past_end (x +ℤ pos 1) b (omega (arith, ints)) next)
steps p (c ∷ bs) h x a b low is next =
    let at_least = h.0 in
    by_lt_z c.width x
    (λ (l : c.width <ℤ x).
    let u = past_value c bs x (x -ℤ c.width) a l refl is in
    let v = past_value c bs (x +ℤ pos 1) ((x -ℤ c.width) +ℤ pos 1) b (omega (arith, ints)) (omega (arith, ints)) next in
    let i = steps c.price bs h.2 (x -ℤ c.width) u.0 v.0 (omega (arith, ints)) u.1 v.1 in
    let d = u.2 in
    let e = v.2 in
    omega (arith, ints))
    (λ (g : x ≤ℤ c.width).
    let d = inside_value c bs x a g is in
    by_lt_z c.width (x +ℤ pos 1)
    (λ (l : c.width <ℤ (x +ℤ pos 1)).
    let v = past_value c bs (x +ℤ pos 1) (pos 0 +ℤ pos 1) b l (omega (arith, ints)) next in
    let i = steps c.price bs h.2 (pos 0) (pos 0) v.0 (omega (arith, ints)) (at_start c.price bs h.2) v.1 in
    let e = v.2 in
    let same : c.price *ℤ x ≡ c.price *ℤ c.width = ap (λ z. c.price *ℤ z) (omega (arith, ints)) in
    omega (arith, ints))
    (λ (l : (x +ℤ pos 1) ≤ℤ c.width).
    let e = inside_value c bs (x +ℤ pos 1) b l next in
    let t = times_next c.price x in
    omega (arith, ints)))

-- and no step adds less than the one before it
rises : (p : ℤ) (bs : List Block) → RiseFrom p bs → (x a b c : ℤ) → pos 0 ≤ℤ x → rise_at bs x ≡ Some a →
    rise_at bs (x +ℤ pos 1) ≡ Some b → rise_at bs (x +ℤ pos 2) ≡ Some c → (b +ℤ b) ≤ℤ (a +ℤ c)
rises p [] h x a b c low is next last = absurd (none_past_end (x +ℤ pos 1) b (omega (arith, ints)) next)
rises p (k ∷ bs) h x a b c low is next last =
    by_lt_z k.width x
    (λ (l : k.width <ℤ x).
    let u = past_value k bs x (x -ℤ k.width) a l refl is in
    let v = past_value k bs (x +ℤ pos 1) ((x -ℤ k.width) +ℤ pos 1) b (omega (arith, ints)) (omega (arith, ints)) next in
    let w = past_value k bs (x +ℤ pos 2) ((x -ℤ k.width) +ℤ pos 2) c (omega (arith, ints)) (omega (arith, ints)) last in
    let i = rises k.price bs h.2 (x -ℤ k.width) u.0 v.0 w.0 (omega (arith, ints)) u.1 v.1 w.1 in
    let d = u.2 in
    let e = v.2 in
    let f = w.2 in
    omega (arith, ints))
    (λ (g : x ≤ℤ k.width).
    let d = inside_value k bs x a g is in
    by_lt_z k.width (x +ℤ pos 1)
    (λ (l : k.width <ℤ (x +ℤ pos 1)).
    let v = past_value k bs (x +ℤ pos 1) (pos 0 +ℤ pos 1) b l (omega (arith, ints)) next in
    let w = past_value k bs (x +ℤ pos 2) (pos 0 +ℤ pos 2) c (omega (arith, ints)) (omega (arith, ints)) last in
    let i = rises k.price bs h.2 (pos 0) (pos 0) v.0 w.0 (omega (arith, ints)) (at_start k.price bs h.2) v.1 w.1 in
    let e = v.2 in
    let f = w.2 in
    let same : k.price *ℤ x ≡ k.price *ℤ k.width = ap (λ z. k.price *ℤ z) (omega (arith, ints)) in
    omega (arith, ints))
    (λ (l : (x +ℤ pos 1) ≤ℤ k.width).
    let e = inside_value k bs (x +ℤ pos 1) b l next in
    let t = times_next k.price x in
    by_lt_z k.width (x +ℤ pos 2)
    (λ (m : k.width <ℤ (x +ℤ pos 2)).
    let w = past_value k bs (x +ℤ pos 2) (pos 0 +ℤ pos 1) c m (omega (arith, ints)) last in
    let i = steps k.price bs h.2 (pos 0) (pos 0) w.0 (omega (arith, ints)) (at_start k.price bs h.2) w.1 in
    let f = w.2 in
    let same : k.price *ℤ (x +ℤ pos 1) ≡ k.price *ℤ k.width = ap (λ z. k.price *ℤ z) (omega (arith, ints)) in
    omega (arith, ints))
    (λ (m : (x +ℤ pos 2) ≤ℤ k.width).
    let f = inside_value k bs (x +ℤ pos 2) c m last in
    let s : k.price *ℤ (x +ℤ pos 2) ≡ k.price *ℤ (x +ℤ pos 1) +ℤ k.price =
    ap (λ z. k.price *ℤ z) (omega (arith, ints)) ∙ times_next k.price (x +ℤ pos 1) in
    omega (arith, ints))))

-- ---- the curve

pub record IsOnCurve (c : Curve) (x v : ℤ) : Type 0 where
  pub from : c.at ≤ℤ x
  pub rise : ℤ
  pub there : rise_at c.blocks.items (x -ℤ c.at) ≡ Some rise
  pub is : v ≡ rise +ℤ c.value

pub IsOnCurve-from_value : (c : Curve) (x v : ℤ) → curve_value c x ≡ Some v → IsOnCurve c x v
IsOnCurve-from_value c x v h = by_lt_z x c.at
    (λ (l : x <ℤ c.at). let n : curve_value c x ≡ None = rw (lt_is x c.at l) in cc)
    (λ (l : c.at ≤ℤ x).
    let e : curve_value c x ≡ option_map (λ u. u +ℤ c.value) (rise_at c.blocks.items (x -ℤ c.at)) =
    rw (not_lt_is x c.at l) in
    let m = mapped c.value v (rise_at c.blocks.items (x -ℤ c.at)) (sym e ∙ h) in
    record { from = l; rise = m.0; there = m.1; is = m.2 })

abbrev first_price : List Block → ℤ
first_price [] = pos 0
first_price (b ∷ bs) = b.price

rise_from_first : (bs : List Block) → limits.IsCurve bs → RiseFrom (first_price bs) bs
rise_from_first [] is = tt
rise_from_first (b ∷ bs) is = rise_from b.price (b ∷ bs) is.widths is.rising (λ d h. omega (arith, ints))

curve_rises : (c : Curve) → limits.IsCurve c.blocks.items → (x u v w : ℤ) → curve_value c x ≡ Some u →
    curve_value c (x +ℤ pos 1) ≡ Some v → curve_value c (x +ℤ pos 2) ≡ Some w → (v +ℤ v) ≤ℤ (u +ℤ w)
curve_rises c is x u v w p q r =
    let bs = c.blocks.items in
    let a = IsOnCurve-from_value c x u p in
    let b = IsOnCurve-from_value c (x +ℤ pos 1) v q in
    let d = IsOnCurve-from_value c (x +ℤ pos 2) w r in
    let next : (x +ℤ pos 1) -ℤ c.at ≡ (x -ℤ c.at) +ℤ pos 1 = omega (arith, ints) in
    let last : (x +ℤ pos 2) -ℤ c.at ≡ (x -ℤ c.at) +ℤ pos 2 = omega (arith, ints) in
    let from = a.from in
    let i = rises (first_price bs) bs (rise_from_first bs is) (x -ℤ c.at) a.rise b.rise d.rise (omega (arith, ints))
    a.there (ap (rise_at bs) (sym next) ∙ b.there) (ap (rise_at bs) (sym last) ∙ d.there) in
    omega (arith, ints, a.is, b.is, d.is)

-- ---- where it ends

-- a power in a curve within the limits is one
pub IsPlace-on_curve : CurvePowersAreWithinLimits
IsPlace-on_curve c is x v h =
    let a = IsOnCurve-from_value c x v h in
    let from = a.from in
    let to = up_to_width c.blocks.items (x -ℤ c.at) a.rise (wide_of c is) a.there in
    let end = end_of-width c.at c.blocks.items in
    let first = is.first_place.0 in
    let last = is.last_place.1 in
    (omega (arith, ints), omega (arith, ints))

-- up to its end it has values
rise_there : (bs : List Block) (from x : ℤ) → AreWide bs → pos 0 ≤ℤ x →
    (from +ℤ x) ≤ℤ end_of from bs → (v : ℤ) × (rise_at bs x ≡ Some v)
rise_there [] from x widths low high = let none : x ≤ℤ pos 0 = omega (arith, ints, high) in
    (pos 0, rw (not_lt_is (pos 0) x none))
rise_there (b ∷ bs) from x widths low high =
    by_lt_z b.width x
    (λ (l : b.width <ℤ x).
    let r = rise_there bs (from +ℤ b.width) (x -ℤ b.width) (wide_tail b bs widths) (omega (arith, ints, l))
    (omega (arith, ints, high)) in
    (r.0 +ℤ (b.price *ℤ b.width), rise_at-past b bs x l ∙ ap (option_map (λ v. v +ℤ (b.price *ℤ b.width))) r.1))
    (λ (l : x ≤ℤ b.width). (b.price *ℤ x, rise_at-inside b bs x l))

pub curve_value-there : CurveHasValueAtEachPower
curve_value-there c is x low high =
    let r = rise_there c.blocks.items c.at (x -ℤ c.at) (wide_of c is) (omega (arith, ints, low))
    (omega (arith, ints, high)) in
    (r.0 +ℤ c.value, curve_value_is c x r.0 low r.1)

-- what the curve added at a power with a value
pub record IsRaised (curve : ℤ → Option ℤ) (y : ℤ) (o : Option ℤ) (v : ℤ) : Type 0 where
  pub old : ℤ
  pub rise : ℤ
  pub there : o ≡ Some old
  pub on : curve y ≡ Some rise
  pub is : v ≡ old +ℤ rise

pub raised_by : (curve : ℤ → Option ℤ) (y v : ℤ) (o o' : Option ℤ) →
    MatchOption o (o' ≡ None) (λ u. (k : ℤ) × (curve y ≡ Some k) × (o' ≡ Some (u +ℤ k))) → o' ≡ Some v →
    IsRaised curve y o v
raised_by curve y v None o' m h = let n : o' ≡ None = m in cc
raised_by curve y v (Some u) o' m h = record { old = u; rise = m.0; there = refl; on = m.1; is = same_some o' h m.2 }

pub IsConvex-curve_sum : CurveKeepsConvexity
IsConvex-curve_sum c shift f g is sum h = IsConvex-from_places g (λ x a b d p q r.
    let u = raised_by (curve_value c) (x +ℤ shift) a (value_of f x) (value_of g x) (sum x) p in
    let v = raised_by (curve_value c) ((x +ℤ pos 1) +ℤ shift) b (value_of f (x +ℤ pos 1)) (value_of g (x +ℤ pos 1))
    (sum (x +ℤ pos 1)) q in
    let w = raised_by (curve_value c) ((x +ℤ pos 2) +ℤ shift) d (value_of f (x +ℤ pos 2)) (value_of g (x +ℤ pos 2))
    (sum (x +ℤ pos 2)) r in
    let next : (x +ℤ pos 1) +ℤ shift ≡ (x +ℤ shift) +ℤ pos 1 = omega (arith, ints) in
    let last : (x +ℤ pos 2) +ℤ shift ≡ (x +ℤ shift) +ℤ pos 2 = omega (arith, ints) in
    let l = convex_at f h x u.old v.old w.old u.there v.there w.there in
    let k = curve_rises c is (x +ℤ shift) u.rise v.rise w.rise u.on (ap (curve_value c) (sym next) ∙ v.on)
    (ap (curve_value c) (sym last) ∙ w.on) in
    omega (arith, ints, u.is, v.is, w.is))
