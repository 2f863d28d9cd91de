use Rattle.plan_check.proofs.Common.{rules, ◌≡◌, ℤ, pos, ◌+ℤ◌, ◌*ℤ◌, ap, ◌∙◌, w64, FitsSigned, to_z-of_z, int_min}
use Rattle.plan_check.proofs.Common.{IsFrom}
use Rattle.plan_check.proofs.Lemmas.{product_fits, worth_fits, worth_is, worth_within, bought_within, left_fits}
use Rattle.plan_check.proofs.Lemmas.{rest_is, rest_within}
use Rattle.plan_check.proofs.costs.purchase_with_next_block.Goals as goal
use Rattle.plan_check.proofs.costs.purchase_with_next_block.Goals.{After-min-width}

-- what is bought is the lesser of the two widths, and within the limit of a block
module _ (c : After-min-width) where
  least : c.min-width.result ≡ int_min c.args.bought.rest c.args.block.now.width
  least =
      let f1 : FitsSigned w64 c.args.bought.rest = search rules in
      let f2 : FitsSigned w64 c.args.block.now.width = search rules in
      simp to_z-of_z at c.min-width.ensures.value

  limit : IsFrom (pos 0) (pos 1000000000) c.min-width.result
  limit = bought_within c.args.bought.rest c.args.block.now.width c.min-width.result c.requires.rest
      c.requires.block.width least

pub overflow_mul-result : goal.overflow_mul-result
overflow_mul-result c =
    product_fits c.args.bought.worth c.args.block.now.price c.min-width.result c.requires.worth c.requires.block.price
    (limit (goal.at.overflow_mul-result c).After-min-width)

pub overflow_add-result : goal.overflow_add-result
overflow_add-result c =
    worth_fits c.args.bought.worth c.args.block.now.price c.min-width.result c.requires.worth c.requires.block.price
    (limit (goal.at.overflow_add-result c).After-min-width)

pub overflow_sub-result : goal.overflow_sub-result
overflow_sub-result c =
    left_fits c.args.bought.rest c.args.block.now.width c.min-width.result c.requires.rest c.requires.block.width
    (least (goal.at.overflow_sub-result c).After-min-width)

pub returns-clause-worth : goal.returns-clause-worth
returns-clause-worth c =
    let d = (goal.at.returns-clause-worth c).After-min-width in
    worth_is c.args.bought.worth c.args.block.now.price c.min-width.result c.requires.worth c.requires.block.price
    (limit d) ∙ ap (λ (z : ℤ). c.args.bought.worth +ℤ (c.args.block.now.price *ℤ z)) (least d)

pub returns-clause-rest : goal.returns-clause-rest
returns-clause-rest c =
    rest_is c.args.bought.rest c.args.block.now.width c.min-width.result c.requires.rest c.requires.block.width
    (least (goal.at.returns-clause-rest c).After-min-width)

pub returns-clause-worth_limit : goal.returns-clause-worth_limit
returns-clause-worth_limit c =
    worth_within c.args.bought.worth c.args.block.now.price c.min-width.result c.requires.worth c.requires.block.price
    (limit (goal.at.returns-clause-worth_limit c).After-min-width)

pub returns-clause-rest_limit : goal.returns-clause-rest_limit
returns-clause-rest_limit c =
    rest_within c.args.bought.rest c.args.block.now.width c.min-width.result c.requires.rest c.requires.block.width
    (least (goal.at.returns-clause-rest_limit c).After-min-width)
