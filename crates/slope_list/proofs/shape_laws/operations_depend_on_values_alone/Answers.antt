use Rattle.slope_list.proofs.Lemmas.{sum_is_of_values, curve_sum_is_of_values, window_is_of_values}
use Rattle.slope_list.proofs.shape_laws.operations_depend_on_values_alone.Goals as goal

pub returns-clause-sum : goal.returns-clause-sum
returns-clause-sum c = sum_is_of_values

pub returns-clause-curve : goal.returns-clause-curve
returns-clause-curve c = curve_sum_is_of_values

pub returns-clause-window : goal.returns-clause-window
returns-clause-window c = window_is_of_values
