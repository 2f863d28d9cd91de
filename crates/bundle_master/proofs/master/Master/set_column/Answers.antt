use Rattle.std.proofs.Common.{◌<◌, length, ap, ◌∙◌, vec_capacity, arith}
use Rattle.bundle_master.proofs.Counts.{column_is}
use Rattle.bundle_master.specs.Shape.{Shape, with_column}
use Rattle.bundle_master.proofs.master.Master.set_column.Goals as goal

pub returns : goal.returns
returns c =
    let parts = c.self.inside in
    let within : c.args.unit < length parts.units.items =
    omega (arith, ap (λ (s : Shape). s.thermal) c.self.view_is) in
    column_is parts.periods parts.places parts.units.items (length parts.singles.items) (vec_capacity parts.singles)
    c.args.unit c.args.index c.index_mut.result.now c.set_column.new.self within
    c.index_mut.ensures.value (ap (λ u. u.count) c.set_column.ensures)
    ∙ ap (λ (s : Shape). with_column s c.args.unit c.args.index) c.self.view_is
