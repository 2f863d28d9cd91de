use Rattle.unit_program.proofs.backtrack.+write_earlier_spells.Given as goal

abbrev pub decreases-write_earlier_spells : goal.decreases-write_earlier_spells
decreases-write_earlier_spells l = l.last
