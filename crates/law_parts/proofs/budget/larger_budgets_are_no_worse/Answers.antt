use Rattle.law_parts.proofs.Chosen.{no_worse}
use Rattle.law_parts.proofs.budget.larger_budgets_are_no_worse.Goals as goal

pub returns : goal.returns
returns c = no_worse c.one_row_is_chosen.ensures c.longer_runs_begin_so.ensures
