use Rattle.plan_settle.proofs.Common.{refl, market_of, schedules_of}
use Rattle.plan_settle.proofs.Lemmas.{market_held}
use Rattle.plan_settle.proofs.fix.fix_case.Goals as goal

pub invariant_of-result : goal.invariant_of-result
invariant_of-result c =
    let base = market_held (market_of c.args.case.now) (schedules_of c.args.plan.now) c.args.case.now.valid
    c.requires in
    record {
      valid = rw (
        c.in_ok-demand.ensures,
        c.in_ok-reserves.ensures,
        c.in_ok-thermal.ensures,
        c.in_ok-flat.ensures,
        c.in_ok-bids.ensures,
      ) base;
    }

pub returns : goal.returns
returns c = rw (
  c.in_ok-demand.ensures,
  c.in_ok-reserves.ensures,
  c.in_ok-thermal.ensures,
  c.in_ok-flat.ensures,
  c.in_ok-bids.ensures,
) refl
