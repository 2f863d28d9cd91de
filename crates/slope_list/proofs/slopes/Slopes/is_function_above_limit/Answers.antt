use Rattle.slope_list.proofs.Common.{take, sym, ap, subst, OnTrue, w64, to_z-of_z, Table, table_of, IsAbove}
use Rattle.slope_list.proofs.Common.{table_after}
use Rattle.slope_list.proofs.slopes.Slopes.is_function_above_limit.Goals as goal

pub returns-in-Some : goal.returns-in-Some
returns-in-Some c =
    let self = c.args.self.now in
    let made = c.in-Some.made in
    let e = ap (table_after self.pieces.items) c.in-Some.is in
    let b : OnTrue c.is_function_above_limit.result
    (IsAbove (table_of made.start (take made.used self.pieces.items)) c.args.shift c.args.limit)
    = rw (to_z-of_z w64 c.args.shift c.ranges.shift, to_z-of_z w64 c.args.limit c.ranges.limit, c.deref.ensures.value)
    at c.is_function_above_limit.ensures in
    subst (λ (t : Table). OnTrue c.is_function_above_limit.result (IsAbove t c.args.shift c.args.limit)) (sym e) b
