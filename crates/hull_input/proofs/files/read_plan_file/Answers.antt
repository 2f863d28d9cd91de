use Rattle.hull_input.proofs.Common.{err_from_is_err_and, Ok, refl, market_of, schedules_of, ScheduleFile, IsBytes}
use Rattle.hull_input.proofs.Common.{IsPlan}
use Rattle.hull_input.proofs.Lemmas.{refused_then, fault_then, plan_refuses}
use Rattle.hull_input.proofs.files.read_plan_file.Goals as goal

pub returns-in_err-bytes-clause-answers : goal.returns-in_err-bytes-clause-answers
returns-in_err-bytes-clause-answers g c =
    let p = err_from_is_err_and c.from_residual.result c.from_residual.ensures.1 in
    let h = c.in_err-bytes.ensures.answers in
    rw (p.1, p.2) (h.0, h.1, refused_then (IsBytes ScheduleFile h.0) (IsPlan (market_of c.args.case.now)) _ h.2)

pub returns-in_err-read_plan-clause-answers : goal.returns-in_err-read_plan-clause-answers
returns-in_err-read_plan-clause-answers g c =
    let r = c.from_residual-in_err-read_plan in
    let p = err_from_is_err_and r.result r.ensures.1 in
    let h = c.in_ok-bytes.ensures.answers in
    let bytes = c.in_ok-bytes.bytes.items in
    let m = market_of c.args.case.now in
    rw (p.1, p.2) (
      h.0,
      h.1,
      fault_then (IsBytes ScheduleFile h.0) (IsPlan m) bytes _ h.2
          (plan_refuses m bytes c.in_err-read_plan.field-0.0
          (rw c.as_slice.ensures.value at c.in_err-read_plan.ensures.answer)),
    )

pub returns-clause-answers : goal.returns-clause-answers
returns-clause-answers g c =
    let h = c.in_ok-bytes.ensures.answers in
    let is = rw c.as_slice.ensures.value at c.in_ok-read_plan.ensures.answer in
    (h.0, h.1, (Ok c.in_ok-bytes.bytes.items, h.2, (Ok (schedules_of c.in_ok-read_plan.field-0), is, refl)))
