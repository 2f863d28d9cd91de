use Rattle.unit_rows.proofs.Common.{rules, ◌≡◌, suc, ◌+◌, ◌-◌, ◌*◌, ◌+ℤ◌, ℤ, ◌∙◌, subst, arith, to_z}
use Rattle.unit_rows.proofs.Common.{of_z, FitsSigned, w64, ints, to_z-of_z, IsWithinTimes, IsPut}
use Rattle.unit_rows.proofs.Lemmas.{if_some}
use Rattle.unit_rows.proofs.table.write_spell_end_if_no_dearer.Goals as goal

pub write_row_if_no_dearer-requires-clause-bound : goal.write_row_if_no_dearer-requires-clause-bound
write_row_if_no_dearer-requires-clause-bound c =
    let within = if_some (IsWithinTimes (suc c.args.last - c.args.first)) c.args.net c.in-Some.net c.in-Some.is
    c.requires.net_bound in
    let fits : FitsSigned w64 c.sum_of_costs.result = search rules in
    let fits_net : FitsSigned w64 c.in-Some.net = search rules in
    let fits_entry : FitsSigned w64 c.args.entry.now.cost = search rules in
    let sum : c.sum_of_costs.result ≡ c.args.entry.now.cost +ℤ c.in-Some.net = simp to_z-of_z at
    c.sum_of_costs.ensures in
    let r : IsWithinTimes (2 * c.args.last + 2) c.sum_of_costs.result = record {
      at_least = omega (arith, ints);
      at_most = omega (arith, ints);
    } in
    simp to_z-of_z r

pub returns-in-Some-clause-some : goal.returns-in-Some-clause-some
returns-in-Some-clause-some c =
    let fits : FitsSigned w64 c.sum_of_costs.result = search rules in
    let fits_net : FitsSigned w64 c.in-Some.net = search rules in
    let fits_entry : FitsSigned w64 c.args.entry.now.cost = search rules in
    let sum : c.sum_of_costs.result ≡ c.args.entry.now.cost +ℤ c.in-Some.net = simp to_z-of_z at
    c.sum_of_costs.ensures in
    let cost : to_z w64 (of_z w64 c.sum_of_costs.result) ≡ c.args.entry.now.cost +ℤ c.in-Some.net = to_z-of_z w64 _
    fits ∙
    sum in
    let put : IsPut c.args.last
    (record { cost = to_z w64 (of_z w64 c.sum_of_costs.result); first = c.args.first; before = c.args.entry.now.last })
    c.args.table.now.items c.write_row_if_no_dearer.new.table.items =
    record {
      here = c.write_row_if_no_dearer.ensures.here;
      old = c.write_row_if_no_dearer.ensures.old;
      added = c.write_row_if_no_dearer.ensures.added;
      latest = c.write_row_if_no_dearer.ensures.latest;
    } in
    rw c.in-Some.is (subst (λ (x : ℤ). IsPut c.args.last (record
    { cost = x; first = c.args.first; before = c.args.entry.now.last })
    c.args.table.now.items c.write_row_if_no_dearer.new.table.items) cost put)
