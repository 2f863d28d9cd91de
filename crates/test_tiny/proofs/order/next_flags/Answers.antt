use Rattle.test_tiny.proofs.Common.{arith, ◌≡◌, suc, ◌+◌, ◌<◌, ◌≤◌, Bool, true, false, List, length, map, sym, ap, ◌∙◌}
use Rattle.test_tiny.proofs.Common.{subst, drop, length-set, slice_index_or, after_of, flag}
use Rattle.test_tiny.proofs.Lemmas.{IsTurned, new_set, old_split, turned_more, turned_all, flags-one_more, flags-lasts}
use Rattle.test_tiny.proofs.order.next_flags.Goals as goal

pub loop-index-preserved : goal.loop-index-preserved
loop-index-preserved c =
    let low : c.loop-index.index < length c.args.list.now.items =
    omega (arith, c.loop-index-test.true, c.len-index-end.ensures) in
    let on_here = subst (λ (z : Bool). slice_index_or c.loop-index.list.items c.loop-index.index z ≡ z)
    c.if-not-get.false c.get.ensures.value in
    let items = c.set-in-loop-index.ensures.items in
    record {
      turned =
          subst (λ (zs : List Bool). IsTurned false true (c.loop-index.index + 1) c.args.list.now.items zs) (sym items)
          (turned_more false true c.loop-index.index c.args.list.now.items c.loop-index.list.items low
          c.loop-index.invariant.turned on_here);
      long = ap length items ∙ length-set c.loop-index.list.items c.loop-index.index false ∙
          c.loop-index.invariant.long;
    }

pub returns-then-not-get-clause-next : goal.returns-then-not-get-clause-next
returns-then-not-get-clause-next c = λ yes.
    let low : c.loop-index.index < length c.args.list.now.items =
    omega (arith, c.loop-index-test.true, c.len-index-end.ensures) in
    let off_here = subst (λ (z : Bool). slice_index_or c.loop-index.list.items c.loop-index.index z ≡ z)
    c.if-not-get.true c.get.ensures.value in
    let index = c.loop-index.index in
    let old = c.args.list.now.items in
    let new_is = c.set.ensures.items ∙ new_set false true index old c.loop-index.list.items low
    c.loop-index.invariant.turned false true off_here in
    let old_is = old_split false true index old c.loop-index.list.items low c.loop-index.invariant.turned false
    off_here in
    ap (λ (zs : List Bool). suc (after_of 1 (map flag zs))) new_is ∙ flags-one_more index (drop (suc index) old)
    ∙ ap (λ (zs : List Bool). after_of 1 (map flag zs)) (sym old_is)

pub returns-clause-last : goal.returns-clause-last
returns-clause-last c = λ no.
    let far : length c.args.list.now.items ≤ c.loop-index.index =
    omega (arith, c.loop-index-test.false, c.len-index-end.ensures) in
    let all = turned_all false true c.loop-index.index c.args.list.now.items c.loop-index.list.items far
    c.loop-index.invariant.turned in
    ap (λ (zs : List Bool). after_of 1 (map flag zs)) all.1 ∙ flags-lasts c.loop-index.index
