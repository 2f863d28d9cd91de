use Rattle.audit_check.proofs.Common.{refl, ap, ◌∙◌, length, length-replicate, market_of, prices_of}
use Rattle.audit_check.proofs.Lemmas.{starts, starts_within}
use Rattle.audit_check.proofs.answerer.Answerer.make.Goals as goal

pub invariant_of-result-clause-some : goal.invariant_of-result-clause-some
invariant_of-result-clause-some c = c.feasible_units_can_answer.ensures (market_of c.args.case.now) c.requires.schedules

pub invariant_of-result-clause-kept : goal.invariant_of-result-clause-kept
invariant_of-result-clause-kept c =
    starts (market_of c.args.case.now) (prices_of c.in_ok-prices.prices) c.in_ok-numbers.numbers.items c.in_ok-sums.sums
    c.args.case.now.periods c.args.case.now.periods
    c.in_ok-numbers.ensures.empty c.in_ok-sums.ensures.earned c.in_ok-sums.ensures.supply c.in_ok-sums.ensures.reserve

pub invariant_of-result-clause-within : goal.invariant_of-result-clause-within
invariant_of-result-clause-within c =
    starts_within c.args.case.now.periods c.in_ok-numbers.numbers.items c.in_ok-sums.sums c.args.case.now.periods
    c.args.case.now.periods
    c.in_ok-numbers.ensures.empty refl refl c.in_ok-sums.ensures.earned c.in_ok-sums.ensures.supply
    c.in_ok-sums.ensures.reserve

pub invariant_of-result-clause-horizon : goal.invariant_of-result-clause-horizon
invariant_of-result-clause-horizon c = ap length c.in_ok-prices.ensures.energy ∙ length-replicate _ _

pub invariant_of-result-clause-buffer : goal.invariant_of-result-clause-buffer
invariant_of-result-clause-buffer c = ap length c.in_ok-answer.ensures.on ∙ length-replicate _ _
