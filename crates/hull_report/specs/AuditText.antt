-- The text of `hull audit` (this project's profile).
use Rattle.std.specs.Prelude.{ℕ, List, [], ◌∷◌, codes}
use Rattle.std.specs.List.{concat}
use Rattle.report_form.specs.Numerals.{numeral}

-- that a report of so many proposals is right
unfoldable pub audit_text : ℕ → List ℕ
audit_text proposals =
    concat (codes "hull-audit 1\nproposals " ∷ numeral proposals ∷ codes "\nright\n" ∷ [])
