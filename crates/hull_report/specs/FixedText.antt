-- The text of `hull fixed` (this project's profile).
use Rattle.std.specs.Prelude.{ℕ, ◌+◌, ℤ, List, [], ◌∷◌, ◌++◌, length, codes}
use Rattle.std.specs.List.{concat, flat_map}
use Rattle.uc_model.specs.Data.{AnyUnit, Thermal, Flat, Bid, Market}
use Rattle.uc_model.specs.Data.{thermal_names, renewable_names, bid_names}
use Rattle.plain_lists.specs.Sums.{int_at}
use Rattle.report_form.specs.Numerals.{numeral, signed_numeral}
use Rattle.report_form.specs.Parts.{spaced, quoted}
use Rattle.right_report.specs.RecordReport.{lines_from}
use Rattle.right_report.specs.RightSide.{ToldSide}

-- the first seven lines: what each run chose, and the prices
unfoldable pub sides_text : ToldSide → ToldSide → List ℕ
sides_text hull fixed = concat (
    codes "hull-fixed 1\nhull proposals " ∷ numeral hull.proposals
    ∷ codes " chosen " ∷ numeral hull.chosen ∷ codes " value " ∷ signed_numeral hull.value
    ∷ codes "\nfixed proposals " ∷ numeral fixed.proposals
    ∷ codes " chosen " ∷ numeral fixed.chosen ∷ codes " value " ∷ signed_numeral fixed.value
    ∷ codes "\nhull energy" ∷ spaced hull.prices.energy
    ∷ codes "\nhull reserve" ∷ spaced hull.prices.reserve
    ∷ codes "\nfixed energy" ∷ spaced fixed.prices.energy
    ∷ codes "\nfixed reserve" ∷ spaced fixed.prices.reserve ∷ codes "\n" ∷ [])

-- a unit or a bid, and what it is paid at the prices of each run
pub record PaidLine : Type 0 where
  pub name : List ℕ
  pub hull : ℤ
  pub fixed : ℤ

unfoldable pub paid_text : List ℕ → PaidLine → List ℕ
paid_text kind p = concat (
    kind ∷ quoted p.name ∷ codes " hull " ∷ signed_numeral p.hull
    ∷ codes " fixed " ∷ signed_numeral p.fixed ∷ codes "\n" ∷ [])

-- what the line of a unit begins with
abbrev pub paid_start : AnyUnit → List ℕ
paid_start (Thermal g) = codes "unit thermal "
paid_start (Flat r) = codes "unit renewable "
paid_start (Bid b) = codes "unit bid "

-- the line of the unit of a number and a name
abbrev pub paid_line : ToldSide → ToldSide → ℕ → List ℕ → PaidLine
paid_line hull fixed number name = record {
  name = name;
  hull = int_at hull.payments number;
  fixed = int_at fixed.payments number;
}

abbrev pub thermal_paid : Market → ToldSide → ToldSide → List PaidLine
thermal_paid m hull fixed = lines_from (paid_line hull fixed) 0 (thermal_names m)

abbrev pub renewable_paid : Market → ToldSide → ToldSide → List PaidLine
renewable_paid m hull fixed =
    lines_from (paid_line hull fixed) (length m.thermal) (renewable_names m)

abbrev pub bids_paid : Market → ToldSide → ToldSide → List PaidLine
bids_paid m hull fixed =
    lines_from (paid_line hull fixed) (length m.thermal + length m.flat) (bid_names m)

-- the lines of all units and bids, in the order of their numbers
abbrev pub all_paid_text : Market → ToldSide → ToldSide → List ℕ
all_paid_text m hull fixed =
    flat_map (paid_text (codes "unit thermal ")) (thermal_paid m hull fixed)
    ++ flat_map (paid_text (codes "unit renewable ")) (renewable_paid m hull fixed)
    ++ flat_map (paid_text (codes "unit bid ")) (bids_paid m hull fixed)

-- the last four lines, with what the schedule costs
unfoldable pub sums_text : ToldSide → ToldSide → ℤ → List ℕ
sums_text hull fixed cost = concat (
    codes "payments hull " ∷ signed_numeral hull.total ∷ codes " fixed "
    ∷ signed_numeral fixed.total
    ∷ codes "\nsurplus hull " ∷ signed_numeral hull.surplus
    ∷ codes " fixed " ∷ signed_numeral fixed.surplus
    ∷ codes "\ncost " ∷ signed_numeral cost ∷ codes "\nend\n" ∷ [])

-- the whole text: `hull` of the run of the case, `fixed` of the run with commitments held
abbrev pub fixed_text : Market → ℤ → ToldSide → ToldSide → List ℕ
fixed_text m cost hull fixed =
    sides_text hull fixed ++ all_paid_text m hull fixed ++ sums_text hull fixed cost
