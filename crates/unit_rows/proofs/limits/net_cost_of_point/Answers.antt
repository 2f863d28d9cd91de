use Rattle.unit_rows.proofs.Lemmas.{net_left}
use Rattle.unit_rows.proofs.limits.net_cost_of_point.Goals as goal

pub returns-clause-value : goal.returns-clause-value
returns-clause-value c = (net_left c.requires.point c.requires.price).is

pub returns-clause-bound : goal.returns-clause-bound
returns-clause-bound c = let left = net_left c.requires.point c.requires.price in rw left.is left.within

pub overflow_mul-result : goal.overflow_mul-result
overflow_mul-result c = (net_left c.requires.point c.requires.price).product_fits

pub overflow_sub-result : goal.overflow_sub-result
overflow_sub-result c = (net_left c.requires.point c.requires.price).fits
