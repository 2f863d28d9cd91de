use Rattle.test_whole.proofs.Common.{◌≡◌, ◌<◌, length, get_or, ◌∙◌, arith, rules, to_z, of_z, pos, FitsSigned, w64}
use Rattle.test_whole.proofs.Common.{ints, to_z-of_z, Block}
use Rattle.test_whole.proofs.SmallLaws.{AreFair-more, last-more}
use Rattle.test_whole.proofs.steps.are_fair.Goals as goal

pub loop-block-preserved : goal.loop-block-preserved
loop-block-preserved c =
    let bs = c.args.blocks.now in
    let j = c.loop-block.block-index in
    let d : Block = record { width = pos 0; price = pos 0 } in
    let was = c.loop-block.invariant in
    let inside : j < length bs = omega arith in
    let fits-width : FitsSigned w64 (get_or bs j d).width = search rules in
    let fits-price : FitsSigned w64 (get_or bs j d).price = search rules in
    let e-width : to_z w64 (of_z w64 (get_or bs j d).width) ≡ (get_or bs j d).width = to_z-of_z w64 _ fits-width in
    let e-price : to_z w64 (of_z w64 (get_or bs j d).price) ≡ (get_or bs j d).price = to_z-of_z w64 _ fits-price in
    let low = was.low in
    let last = to_z w64 c.loop-block.last-bits in
    record {
      fair = AreFair-more bs j last d inside was.fair was.last (omega (arith, ints)) (omega (arith, ints))
          (omega (arith, ints)) (omega (arith, ints)) (omega (arith, ints));
      low = omega (arith, ints);
      last = λ i e next. e-price ∙ last-more bs j last d inside was.fair was.last (omega (arith, ints))
          (omega (arith, ints)) (omega (arith, ints)) (omega (arith, ints)) (omega (arith, ints)) i e next;
    }
