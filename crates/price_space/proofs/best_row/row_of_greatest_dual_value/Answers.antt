use Rattle.price_space.proofs.Common.{◌≡◌, map, length, subst, arith, proposal_of, IsFirstUpTo, values_of}
use Rattle.price_space.proofs.Lemmas.{first_more, first_is, number_is, length_values}
use Rattle.price_space.proofs.best_row.row_of_greatest_dual_value.Goals as goal

pub loop-i-preserved : goal.loop-i-preserved
loop-i-preserved c =
    first_more (values_of (map proposal_of c.args.rows.now)) c.loop-i.i c.loop-i.best
    c.row_of_greater_dual_value-best.result
    c.loop-i.invariant c.row_of_greater_dual_value-best.ensures

pub returns-clause-up_to : goal.returns-clause-up_to
returns-clause-up_to c =
    let all_ : c.loop-i.i ≡ length c.args.rows.now = omega arith in
    subst (λ i. IsFirstUpTo (values_of (map proposal_of c.args.rows.now)) i c.loop-i.best) all_ c.loop-i.invariant

pub returns-clause-first : goal.returns-clause-first
returns-clause-first c =
    let lengths = length_values c.args.rows.now in
    first_is (values_of (map proposal_of c.args.rows.now)) c.loop-i.i c.loop-i.best (omega (arith, lengths))
    c.loop-i.invariant

pub returns-clause-number : goal.returns-clause-number
returns-clause-number c =
    let all_ : c.loop-i.i ≡ length c.args.rows.now = omega arith in
    number_is c.args.rows.now c.loop-i.best
    (subst (λ i. IsFirstUpTo (values_of (map proposal_of c.args.rows.now)) i c.loop-i.best) all_ c.loop-i.invariant)
