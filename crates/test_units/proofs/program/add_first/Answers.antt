use Rattle.test_units.proofs.Common.{◌≡◌, suc, ◌-◌, arith, on_ok_weaker, thermal_of, prices_of, ◌*◌, ◌+◌, ℕ, subst, ap}
use Rattle.test_units.proofs.Common.{length, IsWithinTimes, AreWithin, sym}
use Rattle.test_units.proofs.Lemmas.{filled_skip, filled_more}
use Rattle.test_units.proofs.program.add_first.Goals as goal

pub returns-in-Some-clause-filled : goal.returns-in-Some-clause-filled
returns-in-Some-clause-filled g c =
    let z : suc (c.args.first - 1) ≡ c.args.first = omega arith in
    let least = rw (c.as_slice.ensures, z) at c.in-Some.ensures.some in
    on_ok_weaker c.add_spells_from.result
    (λ added. filled_more (thermal_of c.args.unit.now) (prices_of c.args.prices.now) c.args.first c.args.table.now.items
    c.requires.filled c.in-Some.entry.last c.in-Some.entry.cost c.add_spells_from.new.table.items c.requires.one
    least added)
    c.add_spells_from.ensures.added

pub returns-in-None-clause-filled : goal.returns-in-None-clause-filled
returns-in-None-clause-filled g c =
    let z : suc (c.args.first - 1) ≡ c.args.first = omega arith in
    filled_skip (thermal_of c.args.unit.now) (prices_of c.args.prices.now) c.args.first c.args.table.now.items
    c.requires.filled
    (rw (c.as_slice.ensures, z) at c.in-None.ensures.none)

pub least_entry-requires-clause-end : goal.least_entry-requires-clause-end
least_entry-requires-clause-end g c =
    let one = c.requires.one in
    let first = c.requires.first in
    let horizon = c.requires.horizon in
    omega (arith, one, first, horizon)

pub least_entry-requires-clause-room : goal.least_entry-requires-clause-room
least_entry-requires-clause-room g c =
    let first = c.requires.first in
    let room = c.requires.room in
    let same = ap length c.as_slice.ensures in
    omega (arith, first, room, same)

pub add_spells_from-requires-clause-bound : goal.add_spells_from-requires-clause-bound
add_spells_from-requires-clause-bound g c =
    let one = c.requires.one in
    let e : 2 * (c.args.first - 1) + 3 ≡ 2 * c.args.first + 1 = omega (arith, one) in
    subst (λ (n : ℕ). IsWithinTimes n c.in-Some.entry.cost) e c.in-Some.ensures.bound

pub least_entry-requires-clause-within : goal.least_entry-requires-clause-within
least_entry-requires-clause-within g c = subst AreWithin (sym c.as_slice.ensures) c.requires.filled.within
