use Rattle.board_store.proofs.Common.{refl, sym, ◌∙◌, arith}
use Rattle.std.proofs.lemmas.Bool.{false≢true}
use Rattle.board_store.proofs.Lemmas.{one_item, same_items}
use Rattle.board_store.proofs.same.same_bid_blocks.Goals as goal

pub returns-then-not-same_blocks : goal.returns-then-not-same_blocks
returns-then-not-same_blocks c = (
  (λ no. absurd (false≢true no)),
  λ same.
      sym c.if-not-same_blocks.true
      ∙ c.same_blocks.ensures.1 (c.as_slice.ensures ∙
      one_item c.args.a.now.items c.args.b.now.items c.loop-k.k c.get.result.now c.get-in-loop-k.result.now same
      c.get.ensures.item c.get-in-loop-k.ensures.item ∙ sym c.as_slice-in-loop-k.ensures),
)

pub returns : goal.returns
returns c =
    let len = c.if-len.false in
    let l = c.len.ensures in
    let m = c.len-2.ensures in
    let n = c.len-k-end.ensures in
    let end = c.loop-k-test.false in (
      (λ yes. same_items c.args.a.now.items c.args.b.now.items (sym l ∙ len ∙ m)
          (λ j d lt. c.loop-k.invariant j d (omega (arith, lt, end, n)))),
      λ same. refl,
    )
