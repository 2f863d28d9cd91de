use Rattle.report_read.proofs.Common.{ℕ, sym, subst, report_of, IsFault}
use Rattle.report_read.proofs.Lemmas.{all_takes, is_fault, left_within, never_both, one_read}
use Rattle.report_read.proofs.read.read_report.Goals as goal

pub returns-in-Ok-clause-bounds : goal.returns-in-Ok-clause-bounds
returns-in-Ok-clause-bounds c = (all_takes c.args.bytes.now (report_of c.in-Ok.report) c.in-Ok.ensures.exact).1

pub returns-in-Ok-clause-found : goal.returns-in-Ok-clause-found
returns-in-Ok-clause-found c = (all_takes c.args.bytes.now (report_of c.in-Ok.report) c.in-Ok.ensures.exact).0

pub returns-in-Ok-clause-only : goal.returns-in-Ok-clause-only
returns-in-Ok-clause-only c = λ r h e. one_read c.args.bytes.now (report_of c.in-Ok.report) r c.in-Ok.ensures.exact e h

pub line_number_with_bytes_left-requires-clause-within : goal.line_number_with_bytes_left-requires-clause-within
line_number_with_bytes_left-requires-clause-within c =
    left_within c.args.bytes.now c.in-Err-Fault.left (rw c.in-Err-Fault.field-0-is at c.in-Err-Fault.ensures.exact)

pub returns-in-Err-Fault-clause-fault : goal.returns-in-Err-Fault-clause-fault
returns-in-Err-Fault-clause-fault c =
    subst (λ (k : ℕ). IsFault c.args.bytes.now k) (sym c.line_number_with_bytes_left.ensures)
    (is_fault c.args.bytes.now c.in-Err-Fault.left (rw c.in-Err-Fault.field-0-is at c.in-Err-Fault.ensures.exact))

pub returns-in-Err-Fault-clause-only : goal.returns-in-Err-Fault-clause-only
returns-in-Err-Fault-clause-only c = λ r h e. never_both c.args.bytes.now c.in-Err-Fault.left r
    (rw c.in-Err-Fault.field-0-is at c.in-Err-Fault.ensures.exact) e h
