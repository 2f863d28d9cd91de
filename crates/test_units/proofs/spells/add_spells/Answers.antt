use Rattle.test_units.proofs.Common.{rules, ◌≡◌, ◌+◌, ◌*◌, ◌≤◌, ◌+ℤ◌, refl, ◌∙◌, arith, to_z, of_z, ints, to_z-of_z}
use Rattle.test_units.proofs.Common.{FitsSigned, w64, thermal_of, net_at, IsWithinTimes}
use Rattle.test_units.proofs.Lemmas.{update_skip, update_more, update_all, spell_within, no_spell_after}
use Rattle.test_units.proofs.spells.add_spells.Goals as goal
use Rattle.test_units.proofs.spells.add_spells.Goals.{in-Some, in_default}

pub sum_of_costs-requires-clause-b : goal.sum_of_costs-requires-clause-b
sum_of_costs-requires-clause-b c =
    let net = (c.net_of.ensures.some c.in-Some.net c.in-Some.is).0 in
    let within = c.requires.net_bound c.loop-last.last c.in-Some.net (omega arith) (omega arith) net in
    let fits : FitsSigned w64 c.in-Some.net = search rules in
    let r : IsWithinTimes 400 c.in-Some.net =
    record { at_least = omega (arith, ints); at_most = omega (arith, ints) } in
    simp to_z-of_z r

pub write_row_if_no_dearer-requires-clause-bound : goal.write_row_if_no_dearer-requires-clause-bound
write_row_if_no_dearer-requires-clause-bound c =
    let order : c.args.first ≤ c.loop-last.last = omega arith in
    let net = (c.net_of.ensures.some c.in-Some.net c.in-Some.is).0 in
    let within = c.requires.net_bound c.loop-last.last c.in-Some.net order (omega arith) net in
    let fits : FitsSigned w64 c.sum_of_costs.result = search rules in
    let fits_net : FitsSigned w64 c.in-Some.net = search rules in
    let fits_entry : FitsSigned w64 c.args.entry.now.cost = search rules in
    let sum : c.sum_of_costs.result ≡ c.args.entry.now.cost +ℤ c.in-Some.net = simp to_z-of_z at
    c.sum_of_costs.ensures in
    let r : IsWithinTimes (2 * c.loop-last.last + 2) c.sum_of_costs.result =
    record { at_least = omega (arith, ints, sum, order); at_most = omega (arith, ints, sum, order) } in
    simp to_z-of_z r

pub loop-last-preserved : goal.loop-last-preserved
loop-last-preserved c =
    let u = thermal_of c.args.unit.now in
    let nets = net_at c.args.costs.now in
    let order : c.args.first ≤ c.loop-last.last = omega arith in
    let length_is = c.loop-last.invariant.length_is in
    elim c.match-net_of.branch [
      | in-Some w ↦
          let net = c.net_of.ensures.some w.in-Some.net w.in-Some.is in
          let spell = spell_within u c.args.periods c.args.first c.args.until c.requires.periods c.requires.until
          c.loop-last.last c.requires.goes_on order (omega arith) net.1 in
          let fits : FitsSigned w64 w.sum_of_costs.result = search rules in
          let fits_net : FitsSigned w64 w.in-Some.net = search rules in
          let fits_entry : FitsSigned w64 c.args.entry.now.cost = search rules in
          let cost : to_z w64 (of_z w64 w.sum_of_costs.result) ≡ c.args.entry.now.cost +ℤ w.in-Some.net =
          to_z-of_z w64 _ fits ∙ w.sum_of_costs.ensures ∙ (simp to_z-of_z) in
          rw w.table-is (record {
            update = update_more u c.args.periods c.args.first c.args.entry.now.last c.args.entry.now.cost nets
                c.args.table.now.items c.loop-last.last w.in-Some.net spell net.0
                _ cost refl refl c.loop-last.table.items w.write_row_if_no_dearer.new.table.items
                c.loop-last.invariant.update
                w.write_row_if_no_dearer.ensures.others w.write_row_if_no_dearer.ensures.here
                w.write_row_if_no_dearer.ensures.old
                w.write_row_if_no_dearer.ensures.added
                w.write_row_if_no_dearer.ensures.latest
                w.write_row_if_no_dearer.ensures.within;
            length_is = w.write_row_if_no_dearer.ensures.length ∙ length_is;
          })
      | in_default w ↦
          rw w.table-is (record {
            update = update_skip u c.args.periods c.args.first c.args.entry.now.last c.args.entry.now.cost nets
                c.args.table.now.items c.loop-last.last c.loop-last.table.items
                (λ d spell net. w.in_default.not-Some d (c.net_of.ensures.none d net spell.min_up))
                c.loop-last.invariant.update;
            length_is = length_is;
          })
    ]

pub returns-clause-update : goal.returns-clause-update
returns-clause-update c =
    update_all (thermal_of c.args.unit.now) c.args.periods c.args.first c.args.entry.now.last c.args.entry.now.cost
    (net_at c.args.costs.now) c.args.table.now.items c.loop-last.last c.loop-last.table.items
    (λ l above spell. no_spell_after (thermal_of c.args.unit.now) c.args.periods c.args.first c.args.until
    c.requires.periods c.requires.until l (omega (arith, above)) spell) c.loop-last.invariant.update
