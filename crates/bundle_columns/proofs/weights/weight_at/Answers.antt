use Rattle.bundle_columns.proofs.Common.{rules, w64, FitsSigned, to_z-of_z, ◌∙◌}
use Rattle.bundle_columns.proofs.Weighing.{weight_is}
use Rattle.bundle_columns.proofs.weights.weight_at.Goals as goal

pub returns : goal.returns
returns c =
    let fits : FitsSigned w64 c.get.result.now.weight = search rules in
    to_z-of_z w64 c.get.result.now.weight fits ∙
    weight_is c.args.entries.now.items c.args.index c.get.result.now c.get.ensures.item
