use Rattle.convex_search.proofs.Common.{ℤ, sym, subst, rules, IsNear}
use Rattle.convex_search.proofs.short.take_columns_above_threshold.Goals as goal

pub returns-clause-near : goal.returns-clause-near
returns-clause-near c = λ lt.
    let new = c.take_columns_as_best.new.search.best in
    subst (λ (v : ℤ). IsNear c.args.goal.within new.bound v) (sym c.take_columns_as_best.ensures.value)
    (subst (λ (b : ℤ). IsNear c.args.goal.within b c.args.search.now.best.value)
    (sym c.take_columns_as_best.ensures.bound)
    (c.if-not-is_bound_within_allowed_gap.ensures (search rules) lt))
