use Rattle.test_tiny.proofs.Common.{rules, ◌≡◌, ℤ, pos, ap, ◌∙◌, to_z-of_z, w128, int_min, cast_signed, cast_unsigned}
use Rattle.test_tiny.proofs.Common.{fold, FitsSigned, Point, line_at, least_line}
use Rattle.test_tiny.proofs.Lemmas.{least_line-fold}
use Rattle.test_tiny.proofs.envelope.least.Goals as goal

pub returns-clause-value : goal.returns-clause-value
returns-clause-value c =
    let a : FitsSigned w128 c.least_from.result = search rules in
    let b : FitsSigned w128 c.line.result = search rules in
    let price = cast_signed w128 (cast_unsigned w128 c.args.price) in
    let d : Point = record { at = pos 0; cost = pos 0 } in
    let f = λ (x : ℤ) (p : Point). int_min x (line_at price (pos c.args.power) p) in
    let e : c.least_from.result ≡ fold f (cast_signed w128 (cast_unsigned w128 c.line.result)) c.args.points.now =
    c.least_from.ensures.value in
    to_z-of_z w128 c.least_from.result a ∙ e
    ∙ ap (λ (z : ℤ). fold f z c.args.points.now) (to_z-of_z w128 c.line.result b ∙ c.line.ensures.value)
    ∙ least_line-fold c.args.points.now (pos c.args.power) price d c.requires.some
    ∙ ap (least_line c.args.points.now (pos c.args.power)) (to_z-of_z w128 c.args.price c.ranges.price)
