use Rattle.text_tokens.proofs.Common.{◌≡◌, ℤ, pos, neg_ℤ, ◌-ℤ◌, Ok, unsigned_abs, ap, ◌∙◌, arith, to_z, of_z, w64, ints}
use Rattle.text_tokens.proofs.Common.{rounded, rounded_size}
use Rattle.text_tokens.proofs.Lemmas.{size-rounded, rounded_plus, rounded_minus, refused, answered}
use Rattle.text_tokens.specs.declared.decimal.NumFault.TheVariants.{TooLarge}
use Rattle.text_tokens.proofs.decimal.whole.Goals as goal

pub returns-in_default : goal.returns-in_default
returns-in_default c =
    let e = size-rounded c.args.d c.args.scale in
    refused c.args.limit (unsigned_abs (rounded c.args.d c.args.scale)) (TooLarge c.args.limit)
    (rounded c.args.d c.args.scale) (λ le. c.in_default.ensures (omega arith))

pub returns-then-d : goal.returns-then-d
returns-then-d c =
    let e = size-rounded c.args.d c.args.scale in
    let s = c.in-Some.ensures in
    let size : rounded c.args.d c.args.scale ≡ neg_ℤ (pos (rounded_size c.args.d c.args.scale)) =
    rounded_minus c.args.d c.args.scale c.if-d.true in
    let same : to_z w64 (of_z w64 (pos 0 -ℤ to_z w64 c.in-Some.size)) ≡ rounded c.args.d c.args.scale =
    omega (arith, ints, s, size) in
    ap (λ (z : ℤ). Ok z) same ∙ answered c.args.limit (unsigned_abs (rounded c.args.d c.args.scale))
    (TooLarge c.args.limit) (rounded c.args.d c.args.scale) (omega (arith, s))

pub returns-else-d : goal.returns-else-d
returns-else-d c =
    let e = size-rounded c.args.d c.args.scale in
    let s = c.in-Some.ensures in
    let size : rounded c.args.d c.args.scale ≡ pos (rounded_size c.args.d c.args.scale) =
    rounded_plus c.args.d c.args.scale c.if-d.false in
    let same : to_z w64 c.in-Some.size ≡ rounded c.args.d c.args.scale = omega (arith, ints, s, size) in
    ap (λ (z : ℤ). Ok z) same ∙ answered c.args.limit (unsigned_abs (rounded c.args.d c.args.scale))
    (TooLarge c.args.limit) (rounded c.args.d c.args.scale) (omega (arith, s))
