use Rattle.uc_mixture.proofs.Common.{FitsSigned, to_z-of_z, w64, rules}
use Rattle.uc_mixture.proofs.WeightLaws.{limit_is_low}
use Rattle.uc_mixture.proofs.weights.weight_from_decimal.Goals as goal

pub whole-requires-clause-limit : goal.whole-requires-clause-limit
whole-requires-clause-limit c =
    let fits : FitsSigned w64 c.args.most = search rules in
    let same = to_z-of_z w64 c.args.most fits in
    limit_is_low c.args.most c.unsigned_abs.result c.requires.most (rw same at c.unsigned_abs.ensures.value)
