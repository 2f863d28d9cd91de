use Rattle.uc_plan.proofs.Common.{rules}
use Rattle.uc_plan.proofs.lookup.values_by_key.Goals as goal

pub fill-requires : goal.fill-requires
fill-requires c = λ q. rw c.in_ok-by_key.ensures.empty (search rules)
