use Rattle.report_compare.proofs.Common.{Decides-int_eq, slice_eq-Decides}
use Rattle.report_compare.proofs.lines.same_prices.Goals as goal

pub returns : goal.returns
returns c =
    let decided = slice_eq-Decides Decides-int_eq c.as_slice.result.now c.as_slice-2.result.now c.eq.result
    c.eq.ensures in
    rw (c.as_slice.ensures, c.as_slice-2.ensures) at decided
