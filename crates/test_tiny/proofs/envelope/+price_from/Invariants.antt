use Rattle.test_tiny.proofs.envelope.+price_from.Given as goal

abbrev pub decreases-price_from : goal.decreases-price_from
decreases-price_from l = l.steps
