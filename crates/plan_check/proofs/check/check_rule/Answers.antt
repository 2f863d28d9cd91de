use Rattle.plan_check.proofs.Common.{rules, ℕ, ◌+◌, ◌<◌, Some, length, sym, ap, ◌∙◌, arith, thermal_of, schedule_of}
use Rattle.plan_check.proofs.Common.{thermal_broken, told_shift}
use Rattle.uc_model.specs.declared.kinds.Kind.TheVariants as kinds
use Rattle.plan_check.proofs.Lemmas.{told_none, told_first}
use Rattle.plan_check.proofs.check.check_rule.Goals as goal

pub returns-in-Some : goal.returns-in-Some
returns-in-Some c =
    let g = thermal_of c.args.unit.now in
    let s = schedule_of c.args.response.now in
    let lt : c.loop-index.index < length c.args.response.now.on.items = search rules in
    told_first c.args.rule kinds.Thermal c.args.number (length c.args.response.now.on.items) (told_shift c.args.rule)
    (thermal_broken c.args.rule g s)
    c.loop-index.index (c.in-Some.sides.left, c.in-Some.sides.right) lt c.loop-index.invariant (sym c.in-Some.ensures)
    ∙ ap Some
    (sym (c.fault_of_rule.ensures ∙
    ap (λ (shift : ℕ). record {
      rule = c.args.rule;
      kind = kinds.Thermal;
      unit = c.args.number;
      period =
          c.loop-index.index + shift;
      left = c.in-Some.sides.left;
      right = c.in-Some.sides.right;
    })
    c.reported_period_offset.ensures.value))

pub returns : goal.returns
returns c =
    let g = thermal_of c.args.unit.now in
    let s = schedule_of c.args.response.now in
    told_none c.args.rule kinds.Thermal c.args.number (length c.args.response.now.on.items) (told_shift c.args.rule)
    (thermal_broken c.args.rule g s) (λ k lt. c.loop-index.invariant k (omega (arith, lt)))
