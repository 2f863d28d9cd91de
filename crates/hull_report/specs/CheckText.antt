-- The text of `hull check` (this project's profile).
use Rattle.std.specs.Prelude.{ℕ, ℤ, List, [], ◌∷◌, length, codes}
use Rattle.std.specs.List.{concat}
use Rattle.uc_model.specs.Data.{Market}
use Rattle.report_form.specs.Numerals.{numeral, signed_numeral}
use Rattle.report_form.specs.Parts.{tally}

-- only a case with bids says how many there are
unfoldable pub check_text : Market → ℤ → List ℕ
check_text m cost = concat (
    codes "hull-check 1\nperiods " ∷ numeral m.periods ∷ codes " thermal "
    ∷ numeral (length m.thermal) ∷ codes " renewable " ∷ numeral (length m.flat)
    ∷ tally (codes " bid ") (length m.bids) ∷ codes "\ncost " ∷ signed_numeral cost
    ∷ codes "\nfeasible\n" ∷ [])
