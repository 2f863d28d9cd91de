use Rattle.uc_mixture.proofs.Common.{List, map, sym, subst, arith, err_from_is_err_and, All, All-nil, All-push}
use Rattle.uc_mixture.proofs.Common.{map_push, counted, members_in, WeighedSchedule, entries_of, AreEntries}
use Rattle.gap_proof.specs.declared.mixtures.Entry.{Entry}
use Rattle.plain_lists.specs.Reserved.{Reserved}
use Rattle.uc_mixture.proofs.Loops.{unit_goes_on, unit_ends, units_done, units_begin}
use Rattle.uc_mixture.proofs.units.read_units.Goals as goal

pub loop-unit-init : goal.loop-unit-init
loop-unit-init c = record {
  count = rw c.in_ok-lists.ensures.empty (omega arith);
  room = omega (arith, c.in_ok-lists.ensures.room);
  fits = subst (λ (l : List (Reserved Entry)). All
      (λ (es : List WeighedSchedule). AreEntries c.args.frame.periods c.args.frame.whole es) (map entries_of l))
      (sym c.in_ok-lists.ensures.empty)
      (All-nil (λ (es : List WeighedSchedule). AreEntries c.args.frame.periods c.args.frame.whole es));
  so_far = rw c.in_ok-lists.ensures.empty (units_begin c.args.frame (members_in c.args.object) c.args.units.now);
}

pub returns-in_err-entries-clause-value : goal.returns-in_err-entries-clause-value
returns-in_err-entries-clause-value c =
    let p = err_from_is_err_and c.from_residual-in_err-entries.result c.from_residual-in_err-entries.ensures.1 in
    rw (p.1, p.2) (unit_ends c.in_err-entries.field-0.0 c.args.frame (members_in c.args.object)
    c.fault_site_of_thermal_unit-at.result
    c.args.units.now c.loop-unit.unit-index c.unit-item.result c.as_str.result.now c.loop-unit.lists.items
    c.len.result c.loop-unit-test.true c.unit-item.is c.fault_site_of_thermal_unit-at.ensures c.len.ensures
    c.as_str.ensures
    (c.in_err-entries.ensures.value (members_in c.args.object) c.in_ok-values.ensures) c.loop-unit.invariant.so_far)

pub loop-unit-preserved : goal.loop-unit-preserved
loop-unit-preserved c = record {
  count = counted c.loop-unit.lists.items c.push.new.self.items c.in_ok-entries.entries c.loop-unit.unit-index
      c.push.ensures.items c.loop-unit.invariant.count;
  room = omega (arith, c.push.ensures.spare, c.loop-unit.invariant.room);
  fits = rw (c.push.ensures.items, map_push entries_of c.loop-unit.lists.items c.in_ok-entries.entries)
      (All-push (λ (es : List WeighedSchedule). AreEntries c.args.frame.periods c.args.frame.whole es)
      (map entries_of c.loop-unit.lists.items) (entries_of c.in_ok-entries.entries) c.loop-unit.invariant.fits
      c.in_ok-entries.ensures.fits);
  so_far = rw c.push.ensures.items (unit_goes_on c.args.frame (members_in c.args.object)
      c.fault_site_of_thermal_unit-at.result
      c.args.units.now c.loop-unit.unit-index c.unit-item.result c.as_str.result.now c.loop-unit.lists.items
      c.len.result c.in_ok-entries.entries c.loop-unit-test.true c.unit-item.is c.fault_site_of_thermal_unit-at.ensures
      c.len.ensures
      c.as_str.ensures (c.in_ok-entries.ensures.value (members_in c.args.object) c.in_ok-values.ensures)
      c.loop-unit.invariant.so_far);
}

pub returns-clause-value : goal.returns-clause-value
returns-clause-value c = units_done c.args.frame (members_in c.args.object) c.args.units.now c.loop-unit.unit-index
    c.loop-unit.lists.items c.loop-unit-test.false c.loop-unit.invariant.so_far
