use Rattle.plan_check.proofs.Common.{rules, ◌<◌, Some, length, sym, ap, ◌∙◌, arith, renewable_of, schedule_of}
use Rattle.plan_check.proofs.Common.{renewable_broken, RenewableRange}
use Rattle.uc_model.specs.declared.kinds.Kind.TheVariants as kinds
use Rattle.plan_check.proofs.Lemmas.{told_none, told_first}
use Rattle.plan_check.proofs.check.check_renewable.Goals as goal

pub returns-in-Some : goal.returns-in-Some
returns-in-Some c =
    let r = renewable_of c.args.flat.now in
    let s = schedule_of c.args.response.now in
    let lt : c.loop-index.index < length c.args.response.now.on.items = search rules in
    told_first RenewableRange kinds.Renewable c.args.number (length c.args.response.now.on.items) 1
    (renewable_broken r s)
    c.loop-index.index (c.in-Some.sides.left, c.in-Some.sides.right) lt c.loop-index.invariant (sym c.in-Some.ensures) ∙
    ap Some (sym c.fault_of_rule.ensures)

pub returns : goal.returns
returns c =
    told_none RenewableRange kinds.Renewable c.args.number (length c.args.response.now.on.items) 1
    (renewable_broken (renewable_of c.args.flat.now) (schedule_of c.args.response.now))
    (λ k lt. c.loop-index.invariant k (omega (arith, lt)))
