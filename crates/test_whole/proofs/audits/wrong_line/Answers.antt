use Rattle.test_whole.proofs.audits.wrong_line.Goals as goal

pub check_report-requires-clause-feasible : goal.check_report-requires-clause-feasible
check_report-requires-clause-feasible g c = λ κs out. c.in_ok-case.ensures.feasible
