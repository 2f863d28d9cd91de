use Rattle.hull_input.proofs.Common.{err_from_is_err_and, Ok, refl, inl, market_of, mixture_of, MixtureFile, IsBytes}
use Rattle.hull_input.proofs.Common.{IsShares, IsSharesFile, IsMixed}
use Rattle.hull_input.proofs.Lemmas.{refused_then, fault_then, shares_refuse}
use Rattle.hull_input.proofs.files.read_mixture_file.Goals as goal

pub returns-in_err-bytes-clause-answers : goal.returns-in_err-bytes-clause-answers
returns-in_err-bytes-clause-answers g c =
    let p = err_from_is_err_and c.from_residual.result c.from_residual.ensures.1 in
    let h = c.in_err-bytes.ensures.answers in
    let m = market_of c.args.case.now in
    rw (p.1, p.2) (
      h.0,
      h.1,
      refused_then (IsSharesFile m h.0) (IsMixed m) _ (refused_then (IsBytes MixtureFile h.0) (IsShares m) _ h.2),
    )

pub returns-in_err-mixture-clause-answers : goal.returns-in_err-mixture-clause-answers
returns-in_err-mixture-clause-answers g c =
    let r = c.from_residual-in_err-mixture in
    let p = err_from_is_err_and r.result r.ensures.1 in
    let h = c.in_ok-bytes.ensures.answers in
    let m = market_of c.args.case.now in
    let bytes = c.in_ok-bytes.bytes.items in
    rw (p.1, p.2) (
      h.0,
      h.1,
      refused_then (IsSharesFile m h.0) (IsMixed m) _
          (fault_then (IsBytes MixtureFile h.0) (IsShares m) bytes _ h.2
          (shares_refuse m bytes c.in_err-mixture.field-0.0
          (rw c.as_slice.ensures.value at c.in_err-mixture.ensures.answer))),
    )

pub returns-in_err-check_mixture-clause-answers : goal.returns-in_err-check_mixture-clause-answers
returns-in_err-check_mixture-clause-answers g c =
    let r = c.from_residual-in_err-check_mixture in
    let p = err_from_is_err_and r.result r.ensures.1 in
    let h = c.in_ok-bytes.ensures.answers in
    let m = market_of c.args.case.now in
    let x = mixture_of c.in_ok-mixture.mixture in
    let is = rw c.as_slice.ensures.value at c.in_ok-mixture.ensures.answer in
    rw (p.1, p.2) (
      h.0,
      h.1,
      fault_then (IsSharesFile m h.0) (IsMixed m) x _ (Ok c.in_ok-bytes.bytes.items, h.2, (Ok x, is, refl))
          (inl (c.in_err-check_mixture.field-0.0, refl, c.in_err-check_mixture.ensures.finds)),
    )

pub returns-clause-answers : goal.returns-clause-answers
returns-clause-answers g c =
    let h = c.in_ok-bytes.ensures.answers in
    let x = mixture_of c.in_ok-mixture.mixture in
    let is = rw c.as_slice.ensures.value at c.in_ok-mixture.ensures.answer in (
      h.0,
      h.1,
      (
        Ok x,
        (Ok c.in_ok-bytes.bytes.items, h.2, (Ok x, is, refl)),
        (c.in_ok-check_mixture.ensures.feasible.0 refl, c.in_ok-check_mixture.ensures.finds, refl),
      ),
    )
