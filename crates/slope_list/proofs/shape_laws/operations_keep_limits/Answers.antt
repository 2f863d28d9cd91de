use Rattle.slope_list.proofs.LimitLaws.{IsWithinLimits-point, IsWithinLimits-same, IsWithinLimits-sum}
use Rattle.slope_list.proofs.LimitLaws.{IsWithinLimits-curve_sum, IsWithinLimits-window}
use Rattle.slope_list.proofs.shape_laws.operations_keep_limits.Goals as goal

pub returns-clause-point : goal.returns-clause-point
returns-clause-point c = IsWithinLimits-point

pub returns-clause-copy : goal.returns-clause-copy
returns-clause-copy c = IsWithinLimits-same

pub returns-clause-sum : goal.returns-clause-sum
returns-clause-sum c = IsWithinLimits-sum

pub returns-clause-curve : goal.returns-clause-curve
returns-clause-curve c = IsWithinLimits-curve_sum

pub returns-clause-window : goal.returns-clause-window
returns-clause-window c = IsWithinLimits-window
