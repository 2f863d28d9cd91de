use Rattle.std.proofs.Common.{rules, to_z, of_z}
use Rattle.gap_proof.proofs.Common.{◌≡◌, w128, unsigned_abs, subst, sym, floor_div, IsWithin}
use Rattle.gap_proof.proofs.Bounds.{quotient_within}
use Rattle.gap_proof.proofs.wide.floor_quotient.Goals as goal

-- (found at once by this search alone, and slowly by all that is tried without an answer)
pub div_euclid-requires-clause-nonzero : goal.div_euclid-requires-clause-nonzero
div_euclid-requires-clause-nonzero c = search rules

pub div_euclid-requires-clause-no_overflow : goal.div_euclid-requires-clause-no_overflow
div_euclid-requires-clause-no_overflow c = search rules

pub returns-clause-value : goal.returns-clause-value
returns-clause-value c = search rules

pub returns-clause-limit : goal.returns-clause-limit
returns-clause-limit c n h =
    let value : to_z w128 (of_z w128 c.div_euclid.result) ≡ floor_div c.args.sum (unsigned_abs c.args.weight) =
    search rules in
    subst (IsWithin n) (sym value) (quotient_within n (unsigned_abs c.args.weight) c.args.sum h)
