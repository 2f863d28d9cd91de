use Rattle.audit_check.proofs.audit.check_report.Goals as goal

pub returns-in-Err-clause-right : goal.returns-in-Err-clause-right
returns-in-Err-clause-right g c = (λ e. absurd cc, λ h. absurd (c.in-Err.ensures.wrong.1 h))

pub returns-in-Err-clause-wrong : goal.returns-in-Err-clause-wrong
returns-in-Err-clause-wrong g c = c.in-Err.ensures.wrong.0
