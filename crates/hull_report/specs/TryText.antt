-- The text of `hull try`: the numbers of a report of the case that a number generates (this
-- project's profile).
use Rattle.std.specs.Prelude.{ℕ, ℤ, List, [], ◌∷◌, length, codes}
use Rattle.std.specs.List.{concat}
use Rattle.report_form.specs.Numerals.{numeral, signed_numeral}
use Rattle.report_form.specs.ReportText.{Report}

unfoldable pub try_lines : (number periods thermal renewable proposals chosen : ℕ) →
    (value cost payments surplus gap : ℤ) → List ℕ
try_lines number periods thermal renewable proposals chosen value cost payments surplus gap =
    concat (
    codes "hull-try 1\nnumber " ∷ numeral number
    ∷ codes "\nperiods " ∷ numeral periods ∷ codes " thermal " ∷ numeral thermal
    ∷ codes " renewable " ∷ numeral renewable
    ∷ codes "\nproposals " ∷ numeral proposals ∷ codes "\nchosen " ∷ numeral chosen
    ∷ codes " value " ∷ signed_numeral value
    ∷ codes "\ncost " ∷ signed_numeral cost ∷ codes "\npayments " ∷ signed_numeral payments
    ∷ codes "\nsurplus " ∷ signed_numeral surplus
    ∷ codes "\ngap " ∷ signed_numeral gap ∷ codes "\n" ∷ [])

abbrev pub try_text : ℕ → Report → List ℕ
try_text number r =
    try_lines number r.periods (length r.thermal) (length r.renewable) (length r.rows) r.chosen
    r.value r.cost r.payments r.surplus r.gap
