use Rattle.slope_list.proofs.Lemmas.{IsConvex-point, IsConvex-same, IsConvex-line, IsConvex-reserve, IsConvex-window}
use Rattle.slope_list.proofs.Lemmas.{IsConvex-curve_sum}
use Rattle.slope_list.proofs.shape_laws.operations_keep_convexity.Goals as goal

pub returns-clause-point : goal.returns-clause-point
returns-clause-point c = IsConvex-point

pub returns-clause-copy : goal.returns-clause-copy
returns-clause-copy c = IsConvex-same

pub returns-clause-line : goal.returns-clause-line
returns-clause-line c = IsConvex-line

pub returns-clause-reserve : goal.returns-clause-reserve
returns-clause-reserve c = IsConvex-reserve

pub returns-clause-curve : goal.returns-clause-curve
returns-clause-curve c = IsConvex-curve_sum

pub returns-clause-window : goal.returns-clause-window
returns-clause-window c = IsConvex-window
