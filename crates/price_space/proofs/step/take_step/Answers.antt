use Rattle.price_space.proofs.Common.{ℤ, pos, sym, subst, ◌∙◌, arith, get_or_default, IsFrom, price_limit, market_of}
use Rattle.price_space.proofs.Common.{proposal_of, low_of, price_after}
use Rattle.std.proofs.lemmas.List.FromFn.{fill_by_all}
use Rattle.price_space.proofs.Lemmas.{price_limits}
use Rattle.price_space.proofs.step.take_step.Goals as goal

pub returns-clause-prices : goal.returns-clause-prices
returns-clause-prices c =
    let last = c.loop-k-test.false in
    let end = c.loop-k.auto.k-end in
    let wide = c.requires.length in
    let same = c.loop-k.invariant.same_length in
    fill_by_all (price_after (market_of c.args.case.now) (proposal_of c.args.row.now) c.args.step.gap c.args.step.scale
    c.args.product)
    c.loop-k.into.items c.args.case.now.periods (pos 0) (omega (arith, same, wide))
    (λ j h. c.loop-k.invariant.stepped j (omega (arith, h, last)))

pub returns-clause-limits : goal.returns-clause-limits
returns-clause-limits c = λ j d h.
    let last = c.loop-k-test.false in
    let wide = c.requires.length in
    let same = c.loop-k.invariant.same_length in
    let is = get_or_default c.loop-k.into.items j d (pos 0) h ∙
    c.loop-k.invariant.stepped j (omega (arith, h, last, wide, same)) in
    subst (λ (z : ℤ). IsFrom (low_of c.args.product) price_limit z) (sym is)
    (price_limits (market_of c.args.case.now) (proposal_of c.args.row.now) c.args.step.gap c.args.step.scale
    c.args.product j)
