use Rattle.unit_program.proofs.Lemmas.{serves_all}
use Rattle.unit_program.proofs.case_laws.case_bench_suffices_for_each_unit.Goals as goal

pub returns : goal.returns
returns c = serves_all c.bench_suffices_for_fewer_periods.ensures
