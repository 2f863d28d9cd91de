use Rattle.test_units.proofs.answer.+write_back.Given as goal

abbrev pub decreases-write_back : goal.decreases-write_back
decreases-write_back g l = l.last
