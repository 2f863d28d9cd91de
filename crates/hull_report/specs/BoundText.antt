-- The text of `hull bound` (this project's profile).
use Rattle.std.specs.Prelude.{ℕ, ℤ, ◌-ℤ◌, List, [], ◌∷◌, codes}
use Rattle.std.specs.List.{concat}
use Rattle.report_form.specs.Numerals.{numeral, signed_numeral}

-- how many proposals there are, the chosen one and its value, the radius round its prices, the
-- rows whose mean gives the bound, the bound, and how far it is above the value
unfoldable pub bound_text : (proposals chosen : ℕ) (value : ℤ) (radius first last : ℕ)
    (bound : ℤ) → List ℕ
bound_text proposals chosen value radius first last bound = concat (
    codes "hull-bound 1\nproposals " ∷ numeral proposals
    ∷ codes "\nchosen " ∷ numeral chosen ∷ codes " value " ∷ signed_numeral value
    ∷ codes "\nradius " ∷ numeral radius
    ∷ codes "\ncertificate first " ∷ numeral first ∷ codes " last " ∷ numeral last
    ∷ codes "\nbound " ∷ signed_numeral bound
    ∷ codes "\ndistance " ∷ signed_numeral (bound -ℤ value) ∷ codes "\nend\n" ∷ [])
