-- Of numbers that rise by less and less, the greatest is where they stop to rise.
use Rattle.gap_proof.proofs.Common.{◌≡◌, ℕ, zero, suc, ◌+◌, ◌-◌, ◌<◌, ◌≤◌, Bool, true, false, ℤ, pos, ◌+ℤ◌, ◌-ℤ◌}
use Rattle.gap_proof.proofs.Common.{◌*ℤ◌, ◌≤ℤ◌, ◌<ℤ◌, List, [], ◌∷◌, map, ap, sym, ◌∙◌, subst, arith, ints, clamps}
use Rattle.gap_proof.proofs.Common.{by_lt_z, inl, inr, cases_lt, int_max, All, head_of, tail_of, mul-add}
use Rattle.gap_proof.proofs.Common.{mul-mono_of, Block, NamedRenewableUnit, NamedBidUnit, Market, IsMarket, IsBlock}
use Rattle.gap_proof.proofs.Common.{blocks_at, int_at, total, best_sold, best_bought, flat, greatest, added}
use Rattle.std.proofs.lemmas.Bool.{false≢true}
use Rattle.std.specs.Prelude.{IsTrue, ◌↔◌}
use Rattle.gap_proof.proofs.Bounds.{add-mul, one_mul}
use Rattle.gap_proof.proofs.Greatest.{at_most_greatest, greatest_at_most}

-- ---- numbers by their places

-- each rises by at most what the one before it did
pub record IsConcave (f : ℕ → ℤ) : Type 0 where
  pub falls : (i : ℕ) → (f (suc (suc i)) -ℤ f (suc i)) ≤ℤ (f (suc i) -ℤ f i)

module _ (f : ℕ → ℤ) (h : IsConcave f) where
  rise_after : (i d : ℕ) → (f (suc (i + d)) -ℤ f (i + d)) ≤ℤ (f (suc i) -ℤ f i)
  rise_after i zero =
      let e : i + 0 ≡ i = omega arith in
      let same = ap (λ (j : ℕ). f (suc j) -ℤ f j) e in
      omega (arith, ints, same)
  rise_after i (suc d) =
      let e : i + suc d ≡ suc (i + d) = omega arith in
      let same = ap (λ (j : ℕ). f (suc j) -ℤ f j) e in
      let before = rise_after i d in
      let here = h.falls (i + d) in
      omega (arith, ints, same, before, here)

  -- where one is below the next, all up to there are
  below_from : (d i j : ℕ) → i + d ≡ suc j → f j <ℤ f (suc j) → f i ≤ℤ f (suc j)
  below_from zero i j e rising =
      let here : i ≡ suc j = omega (arith, e) in
      let same = ap f here in
      omega (arith, ints, same)
  below_from (suc d) i j e rising =
      let up : i + d ≡ j = omega (arith, e) in
      let rise = rise_after i d in
      let same = ap (λ (k : ℕ). f (suc k) -ℤ f k) up in
      let next = below_from d (suc i) j (omega (arith, e)) rising in
      omega (arith, ints, rise, same, next, rising)

  pub below_next : (i j : ℕ) → i ≤ suc j → f j <ℤ f (suc j) → f i ≤ℤ f (suc j)
  below_next i j low rising = below_from (suc j - i) i j (omega (arith, low)) rising

  -- where one isn't below the next, none behind it is above it
  above_from : (d i j : ℕ) → i ≡ j + d → f (suc j) ≤ℤ f j → f i ≤ℤ f j
  above_from zero i j e falling =
      let here : i ≡ j = omega (arith, e) in
      let same = ap f here in
      omega (arith, ints, same)
  above_from (suc d) i j e falling =
      let before = above_from d (j + d) j (let r : j + d ≡ j + d = omega arith in r) falling in
      let rise = rise_after j d in
      let here : i ≡ suc (j + d) = omega (arith, e) in
      let same = ap f here in
      omega (arith, ints, before, rise, same, falling)

  pub not_above : (i j : ℕ) → j ≤ i → f (suc j) ≤ℤ f j → f i ≤ℤ f j
  not_above i j low falling = above_from (i - j) i j (omega (arith, low)) falling

-- the greatest of the first numbers lies between two places
pub record IsBetweenPlaces (f : ℕ → ℤ) (n first last : ℕ) : Type 0 where
  pub ordered : first ≤ last
  pub within : last ≤ n
  pub below : (i : ℕ) → i ≤ first → f i ≤ℤ f first
  pub above : (i : ℕ) → last ≤ i → i ≤ n → f i ≤ℤ f last

pub all_between : (f : ℕ → ℤ) (n : ℕ) → IsBetweenPlaces f n 0 n
all_between f n = record {
  ordered = omega arith;
  within = omega arith;
  below = λ i low. let e : i ≡ 0 = omega (arith, low) in let same = ap f e in omega (arith, ints, same);
  above = λ i low high. let e : i ≡ n = omega (arith, low, high) in let same = ap f e in omega (arith, ints, same);
}

pub between_above : (f : ℕ → ℤ) (n first last middle : ℕ) → IsConcave f → IsBetweenPlaces f n first last →
    middle < last → f middle <ℤ f (suc middle) → IsBetweenPlaces f n (middle + 1) last
between_above f n first last middle h b low rising =
    let one : middle + 1 ≡ suc middle = omega arith in
    subst (λ (j : ℕ). IsBetweenPlaces f n j last) (let back : suc middle ≡ middle + 1 = omega arith in back)
    (record {
      ordered = omega (arith, low);
      within = b.within;
      below = λ i up. below_next f h i middle up rising;
      above = b.above;
    })

pub between_below : (f : ℕ → ℤ) (n first last middle : ℕ) → IsConcave f → IsBetweenPlaces f n first last →
    first ≤ middle → middle < last → f (suc middle) ≤ℤ f middle → IsBetweenPlaces f n first middle
between_below f n first last middle h b low high falling =
    let top = b.within in
    record {
      ordered = low;
      within = omega (arith, high, top);
      below = b.below;
      above =
          λ i up most. not_above f h i middle up falling;
    }

pub between_one : (f : ℕ → ℤ) (n first last : ℕ) → IsBetweenPlaces f n first last → last ≤ first →
    f first ≡ greatest n f
between_one f n first last b low =
    let order = b.ordered in
    let top = b.within in
    let e : last ≡ first = omega (arith, low, order) in
    let same = ap f e in
    let up = at_most_greatest n f first (omega (arith, order, top)) in
    let down = greatest_at_most n f (f first) (λ i within. elim (cases_lt first i) [
      | inl behind ↦ let h = b.above i (omega (arith, behind, e)) within in omega (arith, ints, h, same)
      | inr before ↦ b.below i before
    ]) in
    omega (arith, ints, up, down)

-- what a test of two numbers says of them
pub rising_from : (b : Bool) (x y : ℤ) → (IsTrue b ↔ (x <ℤ y)) → b ≡ true → x <ℤ y
rising_from b x y is on = is.0 on

pub falling_from : (b : Bool) (x y : ℤ) → (IsTrue b ↔ (x <ℤ y)) → b ≡ false → y ≤ℤ x
falling_from b x y is off = by_lt_z x y (λ less. absurd (false≢true (sym off ∙ is.1 less))) (λ low. low)

-- ---- what energy prices add

-- g at three prices in a row, the middle one twice
abbrev pub IsConvex : (ℤ → ℤ) → Type 0
IsConvex g = (z : ℤ) → (g (z +ℤ pos 1) +ℤ g (z +ℤ pos 1)) ≤ℤ (g z +ℤ g ((z +ℤ pos 1) +ℤ pos 1))

next_times : (z a : ℤ) → (z +ℤ pos 1) *ℤ a ≡ (z *ℤ a) +ℤ a
next_times z a = let e = add-mul z (pos 1) a in let f = one_mul a in omega (arith, ints, e, f)

sold_convex : (a b : ℤ) → IsConvex (λ (z : ℤ). int_max (z *ℤ a) (z *ℤ b))
sold_convex a b z =
    let p = next_times z a in
    let q = next_times z b in
    let r = next_times (z +ℤ pos 1) a in
    let s = next_times (z +ℤ pos 1) b in
    omega (arith, ints, clamps, p, q, r, s)

gain_convex : (width price : ℤ) → pos 0 ≤ℤ width → IsConvex (λ (z : ℤ). width *ℤ int_max (pos 0) (price -ℤ z))
gain_convex width price wide z =
    let g : ℤ → ℤ = λ (y : ℤ). int_max (pos 0) (price -ℤ y) in
    let inner : (g (z +ℤ pos 1) +ℤ g (z +ℤ pos 1)) ≤ℤ (g z +ℤ g ((z +ℤ pos 1) +ℤ pos 1)) =
    omega (arith, ints, clamps) in
    let e = mul-mono_of width (g (z +ℤ pos 1) +ℤ g (z +ℤ pos 1)) (g z +ℤ g ((z +ℤ pos 1) +ℤ pos 1)) wide inner in
    let p = mul-add width (g (z +ℤ pos 1)) (g (z +ℤ pos 1)) in
    let q = mul-add width (g z) (g ((z +ℤ pos 1) +ℤ pos 1)) in
    omega (arith, ints, e, p, q)

renewables_convex : (k : ℕ) (ns : List NamedRenewableUnit) →
    IsConvex (λ (z : ℤ). total (map (λ (n : NamedRenewableUnit). best_sold n.unit k z) ns))
renewables_convex k [] z = omega (arith, ints)
renewables_convex k (n ∷ ns) z =
    let one = sold_convex (int_at n.unit.least k) (int_at n.unit.most k) z in
    let rest = renewables_convex k ns z in
    omega (arith, ints, one, rest)

blocks_convex : (bs : List Block) → All IsBlock bs → IsConvex (best_bought bs)
blocks_convex [] h z = omega (arith, ints)
blocks_convex (b ∷ bs) h z =
    let one = gain_convex b.width b.price (head_of IsBlock b bs h).width.at_least z in
    let rest = blocks_convex bs (tail_of IsBlock b bs h) z in
    omega (arith, ints, one, rest)

bids_convex : (k : ℕ) (ns : List NamedBidUnit) → All (λ (n : NamedBidUnit). All IsBlock (blocks_at n.unit k)) ns →
    IsConvex (λ (z : ℤ). total (map (λ (n : NamedBidUnit). best_bought (blocks_at n.unit k) z) ns))
bids_convex k [] h z = omega (arith, ints)
bids_convex k (n ∷ ns) h z =
    let HasBlocks : NamedBidUnit → Type 0 = λ (q : NamedBidUnit). All IsBlock (blocks_at q.unit k) in
    let one = blocks_convex (blocks_at n.unit k) (head_of HasBlocks n ns h) z in
    let rest = bids_convex k ns (tail_of HasBlocks n ns h) z in
    omega (arith, ints, one, rest)

flat_convex : (m : Market) (k : ℕ) → IsMarket m → k < m.periods → IsConvex (flat m k)
flat_convex m k market lt z =
    let a = renewables_convex k m.flat z in
    let b = bids_convex k m.bids (λ i d low. let bid = market.bids i d low in
    (bid.0.blocks k [] (let long = bid.1 in omega (arith, lt, long))).blocks) z in
    omega (arith, ints, a, b)

pub added_concave : (m : Market) (whole lacking : ℤ) (k : ℕ) (low : ℤ) → IsMarket m → k < m.periods → pos 0 ≤ℤ whole →
    IsConcave (λ (i : ℕ). added m whole lacking k (low +ℤ pos i))
added_concave m whole lacking k low market lt some = record {
  falls = λ i.
      let z = low +ℤ pos i in
      let one : low +ℤ pos (suc i) ≡ (low +ℤ pos i) +ℤ pos 1 = omega (arith, ints) in
      let two : low +ℤ pos (suc (suc i)) ≡ ((low +ℤ pos i) +ℤ pos 1) +ℤ pos 1 = omega (arith, ints) in
      let f : ℤ → ℤ = added m whole lacking k in
      let at_one = ap f one in
      let at_two = ap f two in
      let g : ℤ → ℤ = flat m k in
      let convex = flat_convex m k market lt z in
      let scaled = mul-mono_of whole (g (z +ℤ pos 1) +ℤ g (z +ℤ pos 1)) (g z +ℤ g ((z +ℤ pos 1) +ℤ pos 1)) some
      convex in
      let p = mul-add whole (g (z +ℤ pos 1)) (g (z +ℤ pos 1)) in
      let q = mul-add whole (g z) (g ((z +ℤ pos 1) +ℤ pos 1)) in
      let r = next_times z lacking in
      let s = next_times (z +ℤ pos 1) lacking in
      omega (arith, ints, at_one, at_two, scaled, p, q, r, s);
}
