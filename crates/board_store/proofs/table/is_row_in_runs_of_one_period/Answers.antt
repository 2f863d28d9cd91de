use Rattle.board_store.proofs.Common.{subst, arith, length, get_or, ◌≡◌, ◌+◌, ◌≤◌, ◌&&◌, eqb, eqb-true, and_parts}
use Rattle.board_store.proofs.Lemmas.{ones_more, ones_row, AreOnes}
use Rattle.board_store.proofs.table.is_row_in_runs_of_one_period.Goals as goal

pub returns : goal.returns
returns g c =
    let all : c.loop-k.k ≡ length c.args.row.now = omega (arith, c.loop-k-test.false, c.loop-k.auto.k-end) in
    λ yes. ones_row c.args.lengths.now c.args.values.now c.args.start c.args.row.now
    (subst (AreOnes c.args.lengths.now c.args.values.now c.args.start c.args.row.now) all (c.loop-k.invariant yes))

pub loop-k-preserved : goal.loop-k-preserved
loop-k-preserved g c =
    let l = c.loop-k in
    let ls = c.args.lengths.now in
    let fits : c.args.start + length c.args.row.now ≤ length ls =
    omega (arith, c.if-start-lengths.false, c.if-row-lengths.false) in
    λ yes.
    let both = and_parts (c.is.result && eqb (get_or ls (c.args.start + l.k) 0) 1) l.same yes in
    let two = and_parts c.is.result (eqb (get_or ls (c.args.start + l.k) 0) 1) both.0 in
    ones_more ls c.args.values.now c.args.start c.args.row.now l.k c.index-values-start.result c.index-row-k.result
    (l.invariant both.1) c.requires.pairs (omega (arith, c.loop-k-test.true)) fits
    (eqb-true (get_or ls (c.args.start + l.k) 0) 1 two.1) (c.is.ensures.0 two.0) c.index-values-start.is
    c.index-row-k.is
