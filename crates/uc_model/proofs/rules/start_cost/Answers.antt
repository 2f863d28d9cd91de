use Rattle.uc_model.proofs.Common.{rules, subst, sym, IsStartCost}
use Rattle.uc_model.proofs.Lemmas.{start_costs_within}
use Rattle.uc_model.proofs.rules.start_cost.Goals as goal

pub returns-in-Some-clause-value : goal.returns-in-Some-clause-value
returns-in-Some-clause-value c = search rules

pub returns-in-None-clause-value : goal.returns-in-None-clause-value
returns-in-None-clause-value c = search rules

pub returns-in-Some-clause-limit : goal.returns-in-Some-clause-limit
returns-in-Some-clause-limit c = subst IsStartCost (sym (returns-in-Some-clause-value c))
    (start_costs_within c.args.u.now.lags.items c.args.down c.args.u.now.valid.lags)

pub returns-in-None-clause-limit : goal.returns-in-None-clause-limit
returns-in-None-clause-limit c = subst IsStartCost (sym (returns-in-None-clause-value c))
    (start_costs_within c.args.u.now.lags.items c.args.down c.args.u.now.valid.lags)
