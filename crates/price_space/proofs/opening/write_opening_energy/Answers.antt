use Rattle.price_space.proofs.Common.{ℤ, pos, neg_ℤ, sym, subst, ◌∙◌, arith, get_or_default, IsFrom, price_limit}
use Rattle.price_space.proofs.Common.{int_at, opened}
use Rattle.price_space.proofs.Lemmas.{opened_limits, map_by_places}
use Rattle.price_space.proofs.opening.write_opening_energy.Goals as goal

pub returns-clause-prices : goal.returns-clause-prices
returns-clause-prices c =
    let last = c.loop-k-test.false in
    let end = c.len-k-end.ensures in
    let wide = c.requires.lengths in
    let same = c.loop-k.invariant.same_length in
    map_by_places (opened c.args.n) c.loop-k.into.items c.args.start.now.items (omega (arith, same, wide))
    (λ j h. c.loop-k.invariant.opened_so_far j (omega (arith, h, last, end, same)))

pub returns-clause-limits : goal.returns-clause-limits
returns-clause-limits c = λ j d h.
    let last = c.loop-k-test.false in
    let end = c.len-k-end.ensures in
    let same = c.loop-k.invariant.same_length in
    let is = get_or_default c.loop-k.into.items j d (pos 0) h ∙
    c.loop-k.invariant.opened_so_far j (omega (arith, h, last, end, same)) in
    subst (λ (z : ℤ). IsFrom (neg_ℤ price_limit) price_limit z) (sym is)
    (opened_limits c.args.n (int_at c.args.start.now.items j))
