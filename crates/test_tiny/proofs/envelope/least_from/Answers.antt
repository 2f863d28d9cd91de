use Rattle.test_tiny.proofs.Common.{rules, arith, ◌≡◌, ℕ, ℤ, pos, ap, sym, ◌∙◌, take, length, ints, clamps, to_z-of_z}
use Rattle.test_tiny.proofs.Common.{w128, int_min, cast_signed, cast_unsigned, fold, FitsSigned, Point, line_at}
use Rattle.std.proofs.Math.Seq.{take-length}
use Rattle.std.proofs.lemmas.List.Sums.{fold_more}
use Rattle.test_tiny.proofs.envelope.least_from.Goals as goal

-- one step of the fold at a price
abbrev stepped : ℕ → ℤ → ℤ → Point → ℤ
stepped power price a p = int_min a (line_at price (pos power) p)

pub loop-point-preserved : goal.loop-point-preserved
loop-point-preserved c =
    let a : FitsSigned w128 c.min-least.result = search rules in
    let b : FitsSigned w128 c.line.result = search rules in
    let price = cast_signed w128 (cast_unsigned w128 c.args.price) in
    let start = cast_signed w128 (cast_unsigned w128 c.args.start) in
    let d : Point = record { at = pos 0; cost = pos 0 } in
    let so : cast_signed w128 c.loop-point.least-bits ≡ fold (stepped c.args.power price) start
    (take c.loop-point.point-index c.args.points.now) = c.loop-point.invariant.so_far in
    let more = fold_more (stepped c.args.power price) start c.args.points.now c.loop-point.point-index d
    c.loop-point-test.true in
    let value = c.min-least.ensures.value in
    let line = c.line.ensures.bound in
    let before = c.loop-point.invariant.bound in
    let line_low = line.at_least in
    let line_high = line.at_most in
    let low = before.at_least in
    let high = before.at_most in
    record {
      so_far =
          to_z-of_z w128 c.min-least.result a ∙ value
          ∙ ap (λ (z : ℤ). int_min z (cast_signed w128 (cast_unsigned w128 c.line.result))) so
          ∙ ap (int_min (fold (stepped c.args.power price) start (take c.loop-point.point-index c.args.points.now)))
          (to_z-of_z w128 c.line.result b ∙ c.line.ensures.value)
          ∙ sym more;
      bound = record {
        at_least = omega (arith, ints, clamps, value, line_low, low);
        at_most =
            omega (arith, ints, clamps, value, line_high, high);
      };
    }

pub returns-clause-value : goal.returns-clause-value
returns-clause-value c =
    let all : c.loop-point.point-index ≡ length c.args.points.now = omega (arith, c.loop-point-test.false) in
    let price = cast_signed w128 (cast_unsigned w128 c.args.price) in
    let start = cast_signed w128 (cast_unsigned w128 c.args.start) in
    let so : cast_signed w128 c.loop-point.least-bits ≡ fold (stepped c.args.power price) start
    (take c.loop-point.point-index c.args.points.now) = c.loop-point.invariant.so_far in
    so
    ∙ ap (λ (n : ℕ). fold (stepped c.args.power price) start (take n c.args.points.now)) all
    ∙ ap (fold (stepped c.args.power price) start) (take-length c.args.points.now)
    ∙ ap (λ (z : ℤ). fold (stepped c.args.power z) start c.args.points.now) (to_z-of_z w128 c.args.price c.ranges.price)
    ∙ ap (λ (z : ℤ). fold (stepped c.args.power c.args.price) z c.args.points.now)
    (to_z-of_z w128 c.args.start c.ranges.start)
