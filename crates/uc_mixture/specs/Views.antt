-- What the reader's own types say.
use Rattle.std.specs.Prelude.{ℕ, List, map}
use Rattle.uc_text.specs.View.{members_in}
use Rattle.uc_model.specs.declared.units.NamedUnit.{NamedUnit}
use Rattle.uc_mixture.specs.Tables as plain
use Rattle.uc_mixture.specs.declared.mixtures.Head.{Head}

abbrev pub head_of : Head → plain.Head
head_of h = record { whole = h.whole; thermal = members_in h.thermal }

abbrev pub names_of : List NamedUnit → List (List ℕ)
names_of units = map (λ (n : NamedUnit). n.name.items) units
