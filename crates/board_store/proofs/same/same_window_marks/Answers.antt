use Rattle.board_store.proofs.Common.{refl, arith}
use Rattle.board_store.proofs.Lemmas.{same_lists}
use Rattle.board_store.proofs.same.same_window_marks.Goals as goal

pub returns : goal.returns
returns c =
    let len = c.if-a-b.false in
    let end = c.loop-k-test.false in (
      (λ yes. same_lists c.args.a.now c.args.b.now len (λ j d lt. c.loop-k.invariant j d (omega (arith, lt, end)))),
      λ same. refl,
    )
