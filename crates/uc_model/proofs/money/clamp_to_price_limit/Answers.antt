use Rattle.uc_model.proofs.Common.{rules, subst, sym, IsFrom, price_limit}
use Rattle.plain_lists.proofs.SignedLaws.{clamped_from}
use Rattle.uc_model.proofs.money.clamp_to_price_limit.Goals as goal

pub returns-clause-value : goal.returns-clause-value
returns-clause-value c = search rules

pub returns-clause-limit : goal.returns-clause-limit
returns-clause-limit c = subst (IsFrom c.args.low price_limit) (sym (returns-clause-value c))
    (clamped_from c.args.low price_limit c.args.number c.requires.at_most)
