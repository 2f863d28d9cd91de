use Rattle.audit_check.proofs.Common.{sym, take-map, proposal_of}
use Rattle.audit_check.proofs.rows.first_rows.Goals as goal

pub returns : goal.returns
returns c = sym (take-map proposal_of c.args.count c.args.rows.now)
