use Rattle.slope_list.proofs.Common.{◌≡◌, refl, arith, to_z, of_z, ◌+ℤ◌, w64, ints, to_z-of_z, Piece}
use Rattle.slope_list.proofs.Lemmas.{drawn_more, same_line}
use Rattle.slope_list.proofs.draw.write_piece.Goals as goal

pub overflow_add-out : goal.overflow_add-out
overflow_add-out c = omega (arith, ints)

pub returns-clause-drawn : goal.returns-clause-drawn
returns-clause-drawn c = λ h lo line d.
    let pen = c.args.pen in
    let ee : to_z w64 (of_z w64 c.args.end) ≡ c.args.end = to_z-of_z w64 _ c.ranges.end in
    let q : Piece = record {
      end = to_z w64 (of_z w64 c.args.end);
      slope =
          to_z w64 (of_z w64 (to_z w64 (of_z w64 c.args.slope) +ℤ to_z w64 (of_z w64 pen.span.price)));
    } in
    let es : q.slope ≡ c.args.slope +ℤ pen.span.price = omega (arith, ints) in
    drawn_more h lo c.args.out.now pen _ q c.requires.room d
    (same_line h pen.at c.args.end (c.args.slope +ℤ pen.span.price) pen.at q.end q.slope refl ee es line) refl refl
