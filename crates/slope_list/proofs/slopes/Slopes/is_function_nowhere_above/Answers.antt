use Rattle.slope_list.proofs.Common.{take, sym, ap, subst, OnTrue, w64, to_z-of_z, Table, table_of, IsNowhereAbove}
use Rattle.slope_list.proofs.Common.{table_after}
use Rattle.slope_list.proofs.slopes.Slopes.is_function_nowhere_above.Goals as goal

pub returns-in-Some-made : goal.returns-in-Some-made
returns-in-Some-made c =
    let self = c.args.self.now in
    let other = c.args.other.now in
    let made = c.in-Some.made in
    let others = c.in-Some-made.others in
    let e = ap (table_after self.pieces.items) c.in-Some.is in
    let f = ap (table_after other.pieces.items) c.in-Some-made.is in
    let b : OnTrue c.is_function_nowhere_above.result
    (IsNowhereAbove (table_of made.start (take made.used self.pieces.items))
    (table_of others.start (take others.used other.pieces.items)) c.args.shift)
    = rw (to_z-of_z w64 c.args.shift c.ranges.shift, c.deref.ensures.value, c.deref-in-Some-made.ensures.value) at
    c.is_function_nowhere_above.ensures in
    subst (λ (t : Table). OnTrue c.is_function_nowhere_above.result
    (IsNowhereAbove t (table_after other.pieces.items other.made) c.args.shift)) (sym e)
    (subst (λ (t : Table). OnTrue c.is_function_nowhere_above.result
    (IsNowhereAbove (table_of made.start (take made.used self.pieces.items)) t c.args.shift)) (sym f) b)
