use Rattle.bundle_columns.proofs.Common.{arith, ints, rules, w64, FitsSigned, to_z-of_z, ◌∙◌, entries_of}
use Rattle.bundle_columns.proofs.Weighing.{giver_within}
use Rattle.bundle_columns.proofs.weights.move_wanted_weight.Goals as goal

pub clamp-requires : goal.clamp-requires
clamp-requires c =
    let within = giver_within (entries_of c.args.entries.now) c.args.base c.requires.shares in
    let fits : FitsSigned w64 c.weight_at-left.result = search rules in
    let is = to_z-of_z w64 c.weight_at-left.result fits ∙ c.weight_at-left.ensures in
    let low = within.at_least in
    omega (arith, ints, is, low)
