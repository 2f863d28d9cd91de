-- What blocks add, one block after another.
use Rattle.cost_curve.proofs.Common.{◌≡◌, suc, ◌⊎◌, inl, inr, ℤ, pos, ◌+ℤ◌, ◌-ℤ◌, ◌*ℤ◌, ◌≤ℤ◌, ◌<ℤ◌, Bool, true, false}
use Rattle.cost_curve.proofs.Common.{cond, Option, Some, None, List, [], ◌∷◌, ◌++◌, refl, sym, ap, ◌∙◌, arith, ints}
use Rattle.cost_curve.proofs.Common.{*ℤ-zero, int_lt, All, option_map, Block, rise_at, end_of, width_of, rise_of}

abbrev pub AreWide : List Block → Type 0
AreWide bs = All (λ (b : Block). pos 0 ≤ℤ b.width) bs

pub tail_wide : (b : Block) (bs : List Block) → AreWide (b ∷ bs) → AreWide bs
tail_wide b bs h = λ k d lt. h (suc k) d (omega arith)

pub head_wide : (b : Block) (bs : List Block) → AreWide (b ∷ bs) → pos 0 ≤ℤ b.width
head_wide b bs h = h 0 b (omega arith)

pub width_least : (bs : List Block) → AreWide bs → pos 0 ≤ℤ width_of bs
width_least [] h = omega (arith, ints)
width_least (b ∷ bs) h = let a = head_wide b bs h in let r = width_least bs (tail_wide b bs h) in
    omega (arith, ints, a, r)

pub end_is : (from : ℤ) (bs : List Block) → end_of from bs ≡ from +ℤ width_of bs
end_is from [] = omega (arith, ints)
end_is from (b ∷ bs) = omega (arith, ints, end_is (from +ℤ b.width) bs)

pub width-append : (bs : List Block) (b : Block) → width_of (bs ++ b ∷ []) ≡ width_of bs +ℤ b.width
width-append [] b = omega (arith, ints)
width-append (a ∷ bs) b = omega (arith, ints, width-append bs b)

pub rise-append : (bs : List Block) (b : Block) → rise_of (bs ++ b ∷ []) ≡ rise_of bs +ℤ (b.price *ℤ b.width)
rise-append [] b = omega (arith, ints)
rise-append (a ∷ bs) b = omega (arith, ints, rise-append bs b)

-- ---- the two cases of a power

pub rise_in : (b : Block) (bs : List Block) (x : ℤ) → x ≤ℤ b.width → rise_at (b ∷ bs) x ≡ Some (b.price *ℤ x)
rise_in b bs x h =
    let e : int_lt b.width x ≡ false = grind (arith, ints) in
    ap (λ (t : Bool). cond t (option_map (λ (v : ℤ). v +ℤ (b.price *ℤ b.width)) (rise_at bs (x -ℤ b.width)))
    (Some (b.price *ℤ x))) e

pub rise_past : (b : Block) (bs : List Block) (x : ℤ) → b.width <ℤ x →
    rise_at (b ∷ bs) x ≡ option_map (λ (v : ℤ). v +ℤ (b.price *ℤ b.width)) (rise_at bs (x -ℤ b.width))
rise_past b bs x h =
    let e : int_lt b.width x ≡ true = grind (arith, ints) in
    ap (λ (t : Bool). cond t (option_map (λ (v : ℤ). v +ℤ (b.price *ℤ b.width)) (rise_at bs (x -ℤ b.width)))
    (Some (b.price *ℤ x))) e

pub in_or_past : (w x : ℤ) → (x ≤ℤ w) ⊎ (w <ℤ x)
in_or_past w x = grind (arith, ints)

-- ---- one block more

-- blocks of no width add nothing
rise_none : (bs : List Block) → AreWide bs → width_of bs ≡ pos 0 → rise_of bs ≡ pos 0
rise_none [] h e = refl
rise_none (b ∷ bs) h e =
    let a = head_wide b bs h in
    let t = tail_wide b bs h in
    let r = width_least bs t in
    let none : b.width ≡ pos 0 = omega (arith, ints, a, r, e) in
    let rest : width_of bs ≡ pos 0 = omega (arith, ints, a, r, e) in
    let p = ap (λ (z : ℤ). b.price *ℤ z) none ∙ *ℤ-zero b.price in
    let i = rise_none bs t rest in
    omega (arith, ints, p, i)

pub none_some : (v : ℤ) → None ≡ Some v → ⊥
none_some v h = cc

some_from : (o : Option ℤ) (g v : ℤ) → option_map (λ (z : ℤ). z +ℤ g) o ≡ Some v → o ≡ Some (v -ℤ g)
some_from None g v e = absurd (none_some v e)
some_from (Some z) g v e = let h : z +ℤ g ≡ v = cc in ap Some (omega (arith, ints, h))

-- what was there stays
pub rise_old : (bs : List Block) (b : Block) (x v : ℤ) → AreWide bs → pos 0 ≤ℤ b.width → pos 0 ≤ℤ x →
    rise_at bs x ≡ Some v → rise_at (bs ++ b ∷ []) x ≡ Some v
rise_old [] b x v wide b_wide x_least e =
    elim (in_or_past (pos 0) x) [
      | inr up ↦ let t : int_lt (pos 0) x ≡ true = grind (arith, ints) in
          absurd (none_some v (sym (ap (λ (q : Bool). cond q None (Some (pos 0))) t) ∙ e))
      | inl low ↦
          let none : x ≡ pos 0 = omega (arith, ints, low, x_least) in
          let f : int_lt (pos 0) x ≡ false = grind (arith, ints) in
          let z : Some (pos 0) ≡ Some v = sym (ap (λ (q : Bool). cond q None (Some (pos 0))) f) ∙ e in
          let m = ap (λ (y : ℤ). b.price *ℤ y) none ∙ *ℤ-zero b.price in
          rise_in b [] x (omega (arith, ints, low, b_wide)) ∙ ap Some m ∙ z
    ]
rise_old (a ∷ bs) b x v wide b_wide x_least e =
    elim (in_or_past a.width x) [
      | inl low ↦ rise_in a (bs ++ b ∷ []) x low ∙ sym (rise_in a bs x low) ∙ e
      | inr up ↦
          let g : ℤ = a.price *ℤ a.width in
          let inner = some_from (rise_at bs (x -ℤ a.width)) g v (sym (rise_past a bs x up) ∙ e) in
          let i = rise_old bs b (x -ℤ a.width) (v -ℤ g) (tail_wide a bs wide) b_wide (omega (arith, ints, up)) inner in
          let back : (v -ℤ g) +ℤ g ≡ v = omega (arith, ints) in
          rise_past a (bs ++ b ∷ []) x up ∙ ap (option_map (λ (z : ℤ). z +ℤ g)) i ∙ ap Some back
    ]

-- past the end of what was there the new block's price counts
pub rise_new : (bs : List Block) (b : Block) (y : ℤ) → AreWide bs → pos 0 ≤ℤ y → y ≤ℤ b.width →
    rise_at (bs ++ b ∷ []) (width_of bs +ℤ y) ≡ Some (rise_of bs +ℤ (b.price *ℤ y))
rise_new [] b y wide least most =
    let e : pos 0 +ℤ y ≡ y = omega (arith, ints) in
    let f : b.price *ℤ y ≡ pos 0 +ℤ (b.price *ℤ y) = omega (arith, ints) in
    ap (rise_at (b ∷ [])) e ∙ rise_in b [] y most ∙ ap Some f
rise_new (a ∷ bs) b y wide least most =
    let t = tail_wide a bs wide in
    let r = width_least bs t in
    let x : ℤ = (a.width +ℤ width_of bs) +ℤ y in
    let g : ℤ = a.price *ℤ a.width in
    elim (in_or_past a.width x) [
      | inl low ↦
          let none : y ≡ pos 0 = omega (arith, ints, low, r, least) in
          let flat : width_of bs ≡ pos 0 = omega (arith, ints, low, r, least) in
          let rest = rise_none bs t flat in
          let m = ap (λ (z : ℤ). b.price *ℤ z) none ∙ *ℤ-zero b.price in
          let whole : x ≡ a.width = omega (arith, ints, none, flat) in
          let p = ap (λ (z : ℤ). a.price *ℤ z) whole in
          let sum : a.price *ℤ x ≡ (g +ℤ rise_of bs) +ℤ (b.price *ℤ y) = omega (arith, ints, p, rest, m) in
          rise_in a (bs ++ b ∷ []) x low ∙ ap Some sum
      | inr up ↦
          let back : x -ℤ a.width ≡ width_of bs +ℤ y = omega (arith, ints) in
          let i = rise_new bs b y t least most in
          let sum : (rise_of bs +ℤ (b.price *ℤ y)) +ℤ g ≡ (g +ℤ rise_of bs) +ℤ (b.price *ℤ y) = omega (arith, ints) in
          rise_past a (bs ++ b ∷ []) x up ∙ ap (λ (z : ℤ). option_map (λ (v : ℤ). v +ℤ g) (rise_at (bs ++ b ∷ []) z))
          back ∙ ap (option_map (λ (v : ℤ). v +ℤ g)) i ∙ ap Some sum
    ]
