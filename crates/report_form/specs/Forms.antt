-- A form: a text with blanks that parts fill (this project's profile).
use Rattle.std.specs.Prelude.{ℕ, ◌==◌, Bool, List, [], ◌∷◌, ◌++◌}
use Rattle.std.specs.List.{before_first, after_first}
use Rattle.report_form.specs.declared.parts.Part.{Part}
use Rattle.report_form.specs.Parts.{part_text}

-- `%` stands for a blank
abbrev pub is_blank : ℕ → Bool
is_blank byte = byte == 37

-- the text up to the first blank, the first part, and what is behind that blank with the other parts
abbrev pub filled : List ℕ → List Part → List ℕ
filled form [] = form
filled form (p ∷ ps) =
    before_first is_blank form ++ part_text p ++ filled (after_first is_blank form) ps
