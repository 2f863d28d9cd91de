-- The entries that are told (this project's profile).
use Rattle.std.specs.Prelude.{pos, int_lt, List, [], ◌∷◌, if◌then◌else◌}
use Rattle.gap_proof.specs.Mixtures.{WeighedSchedule}

-- those with some weight
abbrev pub weighed_of : List WeighedSchedule → List WeighedSchedule
weighed_of [] = []
weighed_of (e ∷ es) = if int_lt (pos 0) e.weight then (e ∷ weighed_of es) else weighed_of es
