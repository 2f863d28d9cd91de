use Rattle.hull_input.proofs.Lemmas.{any_reads}
use Rattle.hull_input.proofs.laws.some_reads_of_files_exist.Goals as goal

pub returns : goal.returns
returns g c old new name_of = any_reads (g.F.Shelf.told old) _ name_of
