use Rattle.hull_fault.proofs.Common.{codes, status_of, status_told, fault_told}
use Rattle.hull_fault.proofs.Lemmas.{first_of_three, second_of_three, last_of_three}
use Rattle.hull_fault.proofs.line.write_fault.Goals as goal

pub returns-in_err-write_status : goal.returns-in_err-write_status
returns-in_err-write_status g c =
    let f = c.args.fault.now in
    first_of_three c.texts_written_in_turn_add_up.ensures (status_told (status_of f)) (fault_told f) (codes "\n") _
    c.from_residual.ensures.0 (rw c.status.ensures at c.in_err-write_status.ensures.err)

pub returns-in_err-write_fault_details : goal.returns-in_err-write_fault_details
returns-in_err-write_fault_details g c =
    let f = c.args.fault.now in
    second_of_three c.texts_written_in_turn_add_up.ensures (status_told (status_of f)) (fault_told f) (codes "\n") _
    c.from_residual-in_err-write_fault_details.ensures.0 c.in_err-write_fault_details.ensures.err
    (rw c.status.ensures at c.in_ok-write_status.ensures.ok)

pub returns : goal.returns
returns g c =
    let f = c.args.fault.now in
    last_of_three c.texts_written_in_turn_add_up.ensures (status_told (status_of f)) (fault_told f) (codes "\n") _
    c.write_whole.ensures
    c.in_ok-write_fault_details.ensures.ok
    (rw c.status.ensures at c.in_ok-write_status.ensures.ok)
