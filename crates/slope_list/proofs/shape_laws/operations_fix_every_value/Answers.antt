use Rattle.slope_list.proofs.Lemmas.{point_is_exact, sum_is_exact, curve_sum_is_exact, window_is_exact}
use Rattle.slope_list.proofs.shape_laws.operations_fix_every_value.Goals as goal

pub returns-clause-point : goal.returns-clause-point
returns-clause-point c = point_is_exact

pub returns-clause-sum : goal.returns-clause-sum
returns-clause-sum c = sum_is_exact

pub returns-clause-curve : goal.returns-clause-curve
returns-clause-curve c = curve_sum_is_exact

pub returns-clause-window : goal.returns-clause-window
returns-clause-window c = window_is_exact
