-- What holds of texts that a sink gains, and of the text of every report that has the form of one.
use Rattle.std.specs.Prelude.{◌≡◌, ℕ, true, List, ◌++◌, length, replicate, Option}
use Rattle.std.specs.List.{All}
use Rattle.hull_io.specs.Edge.{Gains, FallsShort}
use Rattle.report_form.specs.ReportText.{UnitLine, Report, report_text}

-- the line of a renewable unit or a bid: on in each period of its power, with reserve 0
pub record IsFlatLine (l : UnitLine) : Type 0 where
  pub on : l.response.on ≡ replicate (length l.response.power) true
  pub reserve : l.response.reserve ≡ replicate (length l.response.power) 0

-- a report has them for its renewable units and bids, whose on flags and reserves aren't told
pub record HasForm (r : Report) : Type 0 where
  pub renewable : All IsFlatLine r.renewable
  pub bids : All IsFlatLine r.bids

-- the text determines the report
abbrev pub TextDeterminesReport : Type 0
TextDeterminesReport =
    (a b : Report) → HasForm a → HasForm b → report_text a ≡ report_text b → a ≡ b

-- what a sink gains adds up
pub record GainsAddUp {S : Type 0} (held : S → Option (List ℕ)) (faults : S → ℕ) (last : Option ℕ)
    : Type 0 where
  -- one text whole, and then more
  pub gains_then : {old mid new : S} (a b : List ℕ) → Gains held faults mid new b →
      Gains held faults old mid a → Gains held faults old new (a ++ b)
  -- one text whole, and then a front of more
  pub short_then : {old mid new : S} (a b : List ℕ) → FallsShort held faults last mid new b →
      Gains held faults old mid a → FallsShort held faults last old new (a ++ b)
  -- where one text was cut short, so is a longer one
  pub short_more : {old new : S} (a b : List ℕ) → FallsShort held faults last old new a →
      FallsShort held faults last old new (a ++ b)
