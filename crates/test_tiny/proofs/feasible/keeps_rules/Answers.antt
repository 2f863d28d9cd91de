use Rattle.test_tiny.proofs.Common.{rules, ◌≡◌, true, below_more}
use Rattle.test_tiny.proofs.feasible.keeps_rules.Goals as goal

pub loop-index-preserved : goal.loop-index-preserved
loop-index-preserved c =
    let yes : c.keeps_rules_at.result ≡ true = search rules in
    below_more _ _ c.loop-index.invariant (c.keeps_rules_at.ensures.0 yes)
