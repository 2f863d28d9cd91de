use Rattle.unit_rows.proofs.Common.{arith, thermal_of}
use Rattle.unit_rows.proofs.Lemmas.{begun, within_first}
use Rattle.unit_rows.proofs.table.reset_table_to_row_before_horizon.Goals as goal

pub returns-clause-first : goal.returns-clause-first
returns-clause-first c =
    (begun (thermal_of c.args.unit.now) c.clear_rows.new.table.items c.set.new.self.items c.row_before_horizon.result
    c.set.ensures.items (omega arith) c.clear_rows.ensures.none c.row_before_horizon.ensures).0

pub returns-clause-rest : goal.returns-clause-rest
returns-clause-rest c =
    (begun (thermal_of c.args.unit.now) c.clear_rows.new.table.items c.set.new.self.items c.row_before_horizon.result
    c.set.ensures.items (omega arith) c.clear_rows.ensures.none c.row_before_horizon.ensures).1

pub returns-clause-within : goal.returns-clause-within
returns-clause-within c =
    let b = begun (thermal_of c.args.unit.now) c.clear_rows.new.table.items c.set.new.self.items
    c.row_before_horizon.result
    c.set.ensures.items (omega arith) c.clear_rows.ensures.none c.row_before_horizon.ensures in
    within_first (thermal_of c.args.unit.now) c.set.new.self.items b.0 b.1
