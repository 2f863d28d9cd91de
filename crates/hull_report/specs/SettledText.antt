-- What `hull settle` tells of a settlement at prices (this project's profile).
use Rattle.std.specs.Prelude.{ℕ, ◌+◌, ℤ, ◌-ℤ◌, List, [], length, slice_index_or}
use Rattle.plain_lists.specs.Sums.{int_at}
use Rattle.uc_model.specs.Data.{Schedule, Market, unit_count}
use Rattle.uc_model.specs.Data.{thermal_names, renewable_names, bid_names}
use Rattle.price_settle.specs.Settled.{Settled}
use Rattle.report_form.specs.ReportText.{UnitLine}
use Rattle.report_form.specs.SettlementText.{SettlementReport}
use Rattle.right_report.specs.RecordReport.{lines_from}

abbrev pub no_schedule : Schedule
no_schedule = record { on = []; power = []; reserve = [] }

-- the line of the unit of a number and a name
abbrev pub settled_line : Settled → ℕ → List ℕ → UnitLine
settled_line s number name = record {
  name = name;
  earned = int_at s.earned number;
  scheduled = int_at s.scheduled number;
  payment = int_at s.payments number;
  response = slice_index_or s.responses number no_schedule;
}

-- the settlement of a plan that costs so much
unfoldable pub settlement_of : Market → ℤ → Settled → SettlementReport
settlement_of m cost s = record {
  periods = m.periods;
  units = unit_count m;
  cost = cost;
  row = s.row;
  thermal = lines_from (settled_line s) 0 (thermal_names m);
  renewable = lines_from (settled_line s) (length m.thermal) (renewable_names m);
  bids = lines_from (settled_line s) (length m.thermal + length m.flat) (bid_names m);
  surplus = s.surplus;
  payments = s.sum;
  gap = cost -ℤ s.row.value;
}
