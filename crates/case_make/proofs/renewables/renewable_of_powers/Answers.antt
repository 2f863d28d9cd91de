use Rattle.case_make.proofs.Common.{sym, subst, IsRenewableUnit}
use Rattle.case_make.proofs.Lemmas.{renewable_is, renewable_limited}
use Rattle.case_make.proofs.renewables.renewable_of_powers.Goals as goal

pub invariant_of-result : goal.invariant_of-result
invariant_of-result c =
    let powers = c.args.powers.now.items in
    record {
      valid = subst IsRenewableUnit (sym (renewable_is powers _ _ c.in_ok-least.ensures c.in_ok-most.ensures))
          (renewable_limited powers c.requires);
    }

pub returns : goal.returns
returns c = renewable_is c.args.powers.now.items _ _ c.in_ok-least.ensures c.in_ok-most.ensures
