-- What a right report tells of the units and bids (Gribik, Hogan and Pope 2007): each stands under
-- its name with the money and the response of its number.
use Rattle.std.specs.Prelude.{ℕ, ◌+◌, ℤ, ◌-ℤ◌, List, [], ◌∷◌, ◌++◌, map, length, slice_index_or}
use Rattle.uc_model.specs.declared.kinds.Kind.{Kind}
use Rattle.uc_model.specs.declared.kinds.Kind.TheVariants as kinds
use Rattle.uc_model.specs.Data.{Schedule, Market, unit_count}
use Rattle.uc_model.specs.Data.{thermal_names, renewable_names, bid_names}
use Rattle.uc_model.specs.PriceRule.{Proposal}
use Rattle.plain_lists.specs.Sums.{int_at}
use Rattle.price_settle.specs.declared.settlement.Settlement.{Settlement}
use Rattle.report_form.specs.ReportText.{UnitLine, Report, chosen_text}
use Rattle.right_report.specs.RecordReport.{lines_from}
use Rattle.report_read.specs.Plain.{Told}
use Rattle.report_compare.specs.ReportLines.{head_lines, rows_lines, foot_lines}

pub record Title : Type 0 where
  pub kind : Kind
  pub name : List ℕ

abbrev pub titles_of : Kind → List (List ℕ) → List Title
titles_of kind names = map (λ (name : List ℕ). record { kind = kind; name = name }) names

-- the units and bids in the order of their numbers
abbrev pub titles : Market → List Title
titles m =
    titles_of kinds.Thermal (thermal_names m)
    ++ (titles_of kinds.Renewable (renewable_names m) ++ titles_of kinds.Bid (bid_names m))

-- what all units earn at best and in the plan, what they are owed, and their responses
pub record Answers : Type 0 where
  pub earned : List ℤ
  pub scheduled : List ℤ
  pub payments : List ℤ
  pub responses : List Schedule

abbrev pub answers_of : List ℤ → Settlement → List Schedule → Answers
answers_of earned s responses = record {
  earned = earned;
  scheduled = s.scheduled.items;
  payments = s.payments.items;
  responses = responses;
}

abbrev pub idle : Schedule
idle = record { on = []; power = []; reserve = [] }

abbrev pub line_at : Answers → ℕ → List ℕ → UnitLine
line_at a number name = record {
  name = name;
  earned = int_at a.earned number;
  scheduled = int_at a.scheduled number;
  payment = int_at a.payments number;
  response = slice_index_or a.responses number idle;
}

-- the lines of the units of these titles, whose numbers count on from the first
abbrev pub told_from : Answers → ℕ → List Title → List Told
told_from a first [] = []
told_from a first (t ∷ ts) =
    record { kind = t.kind; line = line_at a first t.name } ∷ told_from a (first + 1) ts

-- the right report of these rows, answers and money
abbrev pub right_of : Market → Answers → (budget ahead : ℕ) → ℤ → List Proposal → ℕ → ℤ
    → (surplus payments : ℤ) → Report
right_of m a budget ahead cost rows chosen value surplus payments = record {
  periods = m.periods;
  units = unit_count m;
  budget = budget;
  ahead = ahead;
  cost = cost;
  rows = rows;
  chosen = chosen;
  value = value;
  thermal = lines_from (line_at a) 0 (thermal_names m);
  renewable = lines_from (line_at a) (length m.thermal) (renewable_names m);
  bids = lines_from (line_at a) (length m.thermal + length m.flat) (bid_names m);
  surplus = surplus;
  payments = payments;
  gap = cost -ℤ value;
}

-- all lines of a report, with these for its units
unfoldable pub whole_lines : Report → List (List ℕ) → List (List ℕ)
whole_lines r of_units =
    head_lines r ++ (rows_lines 1 r.rows ++ (chosen_text r.chosen r.value
    ∷ (of_units ++ foot_lines r.surplus r.payments r.gap)))
