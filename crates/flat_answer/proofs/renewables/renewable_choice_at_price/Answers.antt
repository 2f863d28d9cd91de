use Rattle.flat_answer.proofs.Common.{pos, ℤ, ◌*ℤ◌, ◌<ℤ◌, ◌≤ℤ◌, sym, ap, ◌∙◌, arith, ints, to_z-of_z}
use Rattle.flat_answer.proofs.Powers.{sold_all, sold_least}
use Rattle.flat_answer.proofs.renewables.renewable_choice_at_price.Goals as goal

pub returns-then-price-gt0 : goal.returns-then-price-gt0
returns-then-price-gt0 c =
    let a = c.ranges.price in
    let b = c.ranges.most in
    let test = c.if-price-gt0.true in
    let paid : pos 0 <ℤ c.args.price = grind (arith, ints) in
    let power = simp to_z-of_z at c.power_choice_at_price.ensures.power in
    let earned = simp to_z-of_z at c.power_choice_at_price.ensures.earned in
    record {
      best = sold_all c.args.least c.args.most c.args.price c.power_choice_at_price.result.power paid c.requires.range
          power;
      is = earned ∙ ap (λ (z : ℤ). c.args.price *ℤ z) (sym power);
      bound = c.power_choice_at_price.ensures.bound;
    }

pub returns : goal.returns
returns c =
    let a = c.ranges.price in
    let b = c.ranges.least in
    let test = c.if-price-gt0.false in
    let unpaid : c.args.price ≤ℤ pos 0 = grind (arith, ints) in
    let power = simp to_z-of_z at c.power_choice_at_price-2.ensures.power in
    let earned = simp to_z-of_z at c.power_choice_at_price-2.ensures.earned in
    record {
      best = sold_least c.args.least c.args.most c.args.price c.power_choice_at_price-2.result.power unpaid
          c.requires.range power;
      is = earned ∙ ap (λ (z : ℤ). c.args.price *ℤ z) (sym power);
      bound = c.power_choice_at_price-2.ensures.bound;
    }
