-- The first lines that are right for a report's own budget and number of proposals ahead.
use Rattle.std.specs.Prelude.{ℕ, ℤ, List, [], ◌∷◌, ◌++◌, codes}
use Rattle.uc_model.specs.Data.{Market, unit_count}
use Rattle.report_form.specs.ReportText.{Report}
use Rattle.report_compare.specs.ReportLines.{count_line, amount_line, number_line}

abbrev pub right_opening : Market → ℤ → Report → List (List ℕ)
right_opening m cost r =
    codes "hull-report 1\n" ∷ count_line (codes "periods ") m.periods
    ∷ count_line (codes "units ") (unit_count m) ∷ count_line (codes "budget ") r.budget
    ∷ count_line (codes "ahead ") r.ahead ∷ amount_line (codes "cost ") cost ∷ []

abbrev pub right_head : Market → ℤ → ℕ → Report → List (List ℕ)
right_head m cost proposals r = right_opening m cost r ++ number_line proposals ∷ []
