use Rattle.price_space.proofs.Common.{rules, true, false, FitsSigned, map, get_or, sym, subst, to_z-of_z, w128, Row}
use Rattle.price_space.proofs.Common.{proposal_of, values_of}
use Rattle.price_space.proofs.Lemmas.{value_at, picks}
use Rattle.price_space.proofs.best_row.row_of_greater_dual_value.Goals as goal

pub returns-then-rows-best : goal.returns-then-rows-best
returns-then-rows-best c =
    let rows = c.args.rows.now in
    let a = c.index-rows-best.result in
    let b = c.index-rows-later.result in
    let f : FitsSigned w128 c.index-rows-best.result.value = search rules in
    let g : FitsSigned w128 c.index-rows-later.result.value = search rules in
    let h : FitsSigned w128 (get_or c.args.rows.now c.args.best c.index-rows-best.result).value =
    subst (λ (r : Row). FitsSigned w128 r.value) c.index-rows-best.is f in
    let i : FitsSigned w128 (get_or c.args.rows.now c.args.later c.index-rows-later.result).value =
    subst (λ (r : Row). FitsSigned w128 r.value) c.index-rows-later.is g in
    let test = simp to_z-of_z at c.if-rows-best.true in
    sym (picks (values_of (map proposal_of rows)) c.args.best c.args.later (get_or rows c.args.best a).value
    (get_or rows c.args.later b).value true
    (value_at rows c.args.best a c.requires.best) (value_at rows c.args.later b c.requires.later) test)

pub returns : goal.returns
returns c =
    let rows = c.args.rows.now in
    let a = c.index-rows-best.result in
    let b = c.index-rows-later.result in
    let f : FitsSigned w128 c.index-rows-best.result.value = search rules in
    let g : FitsSigned w128 c.index-rows-later.result.value = search rules in
    let h : FitsSigned w128 (get_or c.args.rows.now c.args.best c.index-rows-best.result).value =
    subst (λ (r : Row). FitsSigned w128 r.value) c.index-rows-best.is f in
    let i : FitsSigned w128 (get_or c.args.rows.now c.args.later c.index-rows-later.result).value =
    subst (λ (r : Row). FitsSigned w128 r.value) c.index-rows-later.is g in
    let test = simp to_z-of_z at c.if-rows-best.false in
    sym (picks (values_of (map proposal_of rows)) c.args.best c.args.later (get_or rows c.args.best a).value
    (get_or rows c.args.later b).value false
    (value_at rows c.args.best a c.requires.best) (value_at rows c.args.later b c.requires.later) test)
