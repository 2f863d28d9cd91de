use Rattle.board_store.proofs.Common.{◌≡◌, ◌+◌, ◌<◌, ◌≤◌, ℕ, suc, List, length, get_or, sym, ap, subst, ◌∙◌, arith}
use Rattle.board_store.proofs.Common.{below_more, Reserved, items_in, Block, AreSame}
use Rattle.std.proofs.lemmas.Option.{get_or_from_slice_get}
use Rattle.board_store.proofs.Lemmas.{numbers_of, count_in, count_none, count_more, same_periods_alike}
use Rattle.board_store.proofs.same.count_equal_leading_bid_numbers.Goals as goal

pub loop-k-init : goal.loop-k-init
loop-k-init c = ((λ j d lt. absurd (omega (arith, lt))), sym (count_none c.args.a.now.items), omega arith)

pub returns-then-not-same_blocks : goal.returns-then-not-same_blocks
returns-then-not-same_blocks c =
    let xs = c.args.a.now.items in
    let ys = c.args.b.now.items in
    let I = c.loop-k.invariant in
    let before = c.loop-k-test.true in
    let end = c.min-k-end.ensures in
    let l = c.len.ensures in
    let m = c.len-2.ensures in
    subst (AreSame (numbers_of xs) (numbers_of ys)) (sym I.1)
    (same_periods_alike xs ys c.loop-k.k (omega (arith, before, end, l, m)) (omega (arith, before, end, l, m)) I.0)

pub loop-k-preserved : goal.loop-k-preserved
loop-k-preserved c =
    let xs = c.args.a.now.items in
    let I = c.loop-k.invariant in
    let k = c.loop-k.k in
    let r = c.get.result.now in
    let before = c.loop-k-test.true in
    let end = c.min-k-end.ensures in
    let l = c.len.ensures in
    let m = c.len-2.ensures in
    let here : length (items_in (get_or xs k r)) ≡ length c.as_slice-blocks.result.now =
    ap (λ (x : Reserved Block). length (items_in x)) c.get.ensures.value ∙
    sym (ap (λ (bs : List Block). length bs) c.as_slice-blocks.ensures) in
    let next : k + 1 ≡ suc k = omega arith in
    let more = ap (count_in xs) next ∙ count_more xs k r (omega (arith, before, end, l, m)) in
    let few : length (items_in (get_or xs k r)) ≤ 8 = c.requires.counts k r (omega (arith, before, end, l, m)) in
    let ys = c.args.b.now.items in
    let same : items_in r ≡ items_in c.get-in-loop-k.result.now =
    sym c.as_slice-blocks.ensures ∙ c.same_blocks.ensures.0 c.if-not-same_blocks.false ∙ c.as_slice.ensures in
    let last : (d : Reserved Block) → items_in (get_or xs k d) ≡ items_in (get_or ys k d) = λ d.
    ap (λ (x : Reserved Block). items_in x) (get_or_from_slice_get xs k r d c.get.ensures.item) ∙ same
    ∙ sym (ap (λ (x : Reserved Block). items_in x)
    (get_or_from_slice_get ys k c.get-in-loop-k.result.now d c.get-in-loop-k.ensures.item)) in
    let below : (j : ℕ) (d : Reserved Block) → j < k + 1 → items_in (get_or xs j d) ≡ items_in (get_or ys j d) = λ j d.
    below_more (λ (i : ℕ). items_in (get_or xs i d) ≡ items_in (get_or ys i d)) k (λ i lt. I.0 i d lt) (last d) j in
    let so_far = I.1 in
    let bound = I.2 in
    (below, omega (arith, here, more, so_far), omega (arith, here, few, bound))

pub returns : goal.returns
returns c =
    let xs = c.args.a.now.items in
    let ys = c.args.b.now.items in
    let I = c.loop-k.invariant in
    let within = c.loop-k.auto.k-end in
    let end = c.min-k-end.ensures in
    let l = c.len.ensures in
    let m = c.len-2.ensures in
    subst (AreSame (numbers_of xs) (numbers_of ys)) (sym I.1)
    (same_periods_alike xs ys c.loop-k.k (omega (arith, within, end, l, m)) (omega (arith, within, end, l, m)) I.0)
