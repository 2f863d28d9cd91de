use Rattle.bundle_columns.proofs.Common.{rules, w64, FitsSigned, to_z-of_z, ◌∙◌, ap, ℤ, map, slice_set, entry_of}
use Rattle.bundle_columns.proofs.Weighing.{set_is}
use Rattle.bundle_columns.proofs.weights.set_weight.Goals as goal

pub returns : goal.returns
returns c =
    let fits : FitsSigned w64 c.args.weight = search rules in
    ap (λ (w : ℤ). map entry_of (slice_set c.args.entries.now.items c.args.index
    (record { weight = w; response = c.get_mut.result.now.response }))) (to_z-of_z w64 c.args.weight fits) ∙
    set_is c.args.entries.now.items c.args.index c.get_mut.result.now c.args.weight c.get_mut.ensures.item
