-- What the program's report tells, as the plain report whose text is written.
use Rattle.std.specs.Prelude.{ℕ, Bool, true, false, if◌then◌else◌, List, [], ◌∷◌, map}
use Rattle.uc_model.specs.declared.kinds.Kind.{Kind}
use Rattle.uc_model.specs.declared.kinds.Kind.TheVariants as kinds
use Rattle.uc_model.specs.PlainUnits.{schedule_of}
use Rattle.uc_model.specs.PlainCases.{proposal_of}
use Rattle.report_form.specs.ReportText.{UnitLine, Report}
use Rattle.report_read.specs.declared.report.UnitLine.{UnitLine as KeptLine}
use Rattle.report_read.specs.declared.report.Report.{Report as KeptReport}

-- the line of a unit or bid, and of which kind that is
pub record Told : Type 0 where
  pub kind : Kind
  pub line : UnitLine

abbrev pub told_of : KeptLine → Told
told_of l = record {
  kind = l.kind;
  line = record {
    name = l.name.items;
    earned = l.earned;
    scheduled = l.scheduled;
    payment = l.payment;
    response = schedule_of l.response;
  };
}

-- the order of the kinds in a report; a line is of no other kind
abbrev pub rank : Kind → ℕ
rank kinds.Thermal = 0
rank kinds.Renewable = 1
rank kinds.Bid = 2
rank kinds.Case = 3

abbrev pub same_kind : Kind → Kind → Bool
same_kind kinds.Thermal kinds.Thermal = true
same_kind kinds.Renewable kinds.Renewable = true
same_kind kinds.Bid kinds.Bid = true
same_kind kinds.Case kinds.Case = true
same_kind k l = false

-- the lines of one kind
abbrev pub lines_of : Kind → List Told → List UnitLine
lines_of kind [] = []
lines_of kind (t ∷ ts) =
    if same_kind kind t.kind then t.line ∷ lines_of kind ts else lines_of kind ts

unfoldable pub report_of : KeptReport → Report
report_of r = record {
  periods = r.periods;
  units = r.units;
  budget = r.budget;
  ahead = r.ahead;
  cost = r.cost;
  rows = map proposal_of r.rows.items;
  chosen = r.chosen;
  value = r.chosen_value;
  thermal = lines_of kinds.Thermal (map told_of r.lines.items);
  renewable = lines_of kinds.Renewable (map told_of r.lines.items);
  bids = lines_of kinds.Bid (map told_of r.lines.items);
  surplus = r.surplus;
  payments = r.payments;
  gap = r.gap;
}
