-- What the blocks of a bid gain at best.
use Rattle.gap_proof.proofs.Common.{◌≡◌, Bool, false, if◌then◌else◌, ℤ, pos, neg_ℤ, ◌-ℤ◌, ◌*ℤ◌, ◌≤ℤ◌, int_lt}
use Rattle.gap_proof.proofs.Common.{List, [], ◌∷◌, refl, sym, ap, ◌∙◌, arith, ints, clamps, by_lt_z, *ℤ-zero}
use Rattle.gap_proof.proofs.Common.{*ℤ_comm, int_max, mul-mono_of, Block, IsFrom, IsBlockList, price_limit}
use Rattle.gap_proof.proofs.Common.{best_bought}
use Rattle.flat_answer.specs.Choices.{added_gain}
use Rattle.flat_answer.proofs.Blocks.{gain, wanted, counts, in_bounds}

added_is : (p : ℤ) (b : Block) → added_gain p b ≡ b.width *ℤ int_max (pos 0) (b.price -ℤ p)
added_is p b =
    by_lt_z p b.price
    (λ above.
    let m : b.price -ℤ p ≡ int_max (pos 0) (b.price -ℤ p) = omega (arith, ints, clamps, above) in
    (counts p b above).won ∙ *ℤ_comm (b.price -ℤ p) b.width ∙ ap (λ (z : ℤ). b.width *ℤ z) m)
    (λ below.
    let e : int_lt p b.price ≡ false = grind (arith, ints) in
    let m : int_max (pos 0) (b.price -ℤ p) ≡ pos 0 = omega (arith, ints, clamps, below) in
    ap (λ (t : Bool). if t then (b.price -ℤ p) *ℤ b.width else pos 0) e ∙
    sym (ap (λ (z : ℤ). b.width *ℤ z) m ∙ *ℤ-zero b.width))

-- what the blocks that are wanted gain is the most that the bid gains
pub gain_is : (p : ℤ) (bs : List Block) → gain p bs ≡ best_bought bs p
gain_is p [] = refl
gain_is p (b ∷ bs) = let one = added_is p b in let rest = gain_is p bs in omega (arith, ints, one, rest)

-- all blocks of a period gain no more than their widths at the greatest gain
pub bought_limit : (p : ℤ) (bs : List Block) → IsBlockList bs → neg_ℤ price_limit ≤ℤ p →
    IsFrom (pos 0) (pos 20000000000000000) (best_bought bs p)
bought_limit p bs h low =
    let bounds = in_bounds p bs (record { each = h.blocks }) low in
    let a = bounds.gain_low in
    let b = bounds.gain_high in
    let c = bounds.high in
    let wide = h.width in
    let scaled = mul-mono_of (pos 20000000) (wanted p bs) (pos 1000000000) (omega (arith, ints))
    (omega (arith, ints, c, wide)) in
    let is = gain_is p bs in
    record { at_least = omega (arith, ints, a, is); at_most = omega (arith, ints, b, scaled, is) }
