use Rattle.unit_table.proofs.Common.{◌≡◌, ℕ, ◌<◌, List, length, refl, ap, ◌∙◌, arith, length-set, live_at}
use Rattle.unit_table.proofs.Lemmas.{none_kept, one_kept, one_off, all_kept, first_inside, off_from}
use Rattle.unit_table.proofs.roster.Roster.keep.Goals as goal
use Rattle.unit_table.proofs.roster.Roster.keep.Goals.{then-running_spell_of_first_period}
use Rattle.unit_table.proofs.roster.Roster.keep.Goals.{else-running_spell_of_first_period}

pub loop-index-init : goal.loop-index-init
loop-index-init c = record {
  kept = λ until list. none_kept (live_at c.args.spells.now) until c.args.self.now list;
  low = omega arith;
  same_length = refl;
  count_same = refl;
}

pub running_spell_of_first_period-requires : goal.running_spell_of_first_period-requires
running_spell_of_first_period-requires c =
    let list = c.requires.roster in
    let below = first_inside (live_at c.args.spells.now) list.0 c.args.self.now list.2 c.loop-index.index
    c.loop-index.kept c.loop-index.self.firsts.items
    (c.loop-index.invariant.kept list.0 list.2) (omega arith) c.get-first.result.now
    c.get-first.ensures.item in
    omega arith

pub loop-index-preserved : goal.loop-index-preserved
loop-index-preserved c =
    let live = live_at c.args.spells.now in
    let old = c.args.self.now in
    let p = c.loop-index.index in
    let q = c.loop-index.kept in
    let items = c.loop-index.self.firsts.items in
    let first = c.get-first.result.now in
    let count_same = c.loop-index.invariant.count_same in
    let same_length = c.loop-index.invariant.same_length in
    let inside : p < old.count = omega arith in
    elim c.if-running_spell_of_first_period.branch [
      | then-running_spell_of_first_period w ↦
          let set = w.set.ensures.items in
          let same : length w.set.new.self.items ≡ length items = ap (λ (xs : List ℕ). length xs) set ∙
          length-set items q first in
          rw w.self-is (rw w.kept-is (record {
            kept = λ until list. one_kept live until old list p q items (c.loop-index.invariant.kept until list) inside
                first c.get-first.ensures.item w.set.new.self.items set same;
            low = omega arith;
            same_length = cc;
            count_same = count_same;
          }))
      | else-running_spell_of_first_period w ↦
          rw w.self-is (rw w.kept-is (record {
            kept = λ until list. one_off live until old list p q items (c.loop-index.invariant.kept until list) inside
                first c.get-first.ensures.item
                (off_from c.args.spells.now first c.running_spell_of_first_period.result.now
                c.running_spell_of_first_period.ensures w.if-running_spell_of_first_period.false);
            low = omega arith;
            same_length = same_length;
            count_same = count_same;
          }))
    ]

pub returns-clause-roster : goal.returns-clause-roster
returns-clause-roster c = λ until list.
    all_kept (live_at c.args.spells.now) until c.args.self.now list c.loop-index.index _
    (omega arith) (omega arith) (c.loop-index.invariant.kept until list)
