use Rattle.hull_engine.proofs.Common.{arith}
use Rattle.hull_engine.proofs.workers.useful_workers.Goals as goal

pub returns-then-asked-le-FEW_WORKERS-clause-useful : goal.returns-then-asked-le-FEW_WORKERS-clause-useful
returns-then-asked-le-FEW_WORKERS-clause-useful g c = (0, omega arith)

pub returns-clause-useful : goal.returns-clause-useful
returns-clause-useful g c = (c.processor_count.result, omega arith)
