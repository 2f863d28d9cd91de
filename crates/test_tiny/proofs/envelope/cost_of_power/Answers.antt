use Rattle.test_tiny.proofs.Common.{rules, pos, ◌∙◌, to_z-of_z, w128, FitsSigned}
use Rattle.test_tiny.proofs.Lemmas.{envelope-found}
use Rattle.test_tiny.proofs.envelope.cost_of_power.Goals as goal

pub returns-clause-cost : goal.returns-clause-cost
returns-clause-cost c =
    let a : FitsSigned w128 c.least.result = search rules in
    let b : FitsSigned w128 c.price_from-price.result = search rules in
    let d : FitsSigned w128 c.least_price.result = search rules in
    let v = simp to_z-of_z at c.least.ensures.value in
    let p = simp to_z-of_z at c.price_from-price.ensures.price in
    to_z-of_z w128 c.least.result a
    ∙ envelope-found c.args.points.now (pos c.args.power) c.least_price.result c.price_from-price.result c.least.result
    c.halvings.result c.halvings.ensures c.least_price.ensures p v
