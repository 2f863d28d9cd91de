use Rattle.bundle_columns.proofs.Common.{◌≤◌, List, length, ap, sym, ◌++◌, ◌∷◌, [], ◌∙◌, arith}
use Rattle.bundle_columns.proofs.Common.{entries_of, entry_of, item_of}
use Rattle.bundle_columns.proofs.Common.{map_item, WeighedSchedule, length-map, take_all}
use Rattle.uc_model.specs.declared.limits.TheConstants.{MOST_PERIODS}
use Rattle.bundle_columns.specs.Written.{weighed_of}
use Rattle.bundle_columns.proofs.Telling.{weighed_more}
use Rattle.bundle_columns.proofs.written.entries_with_weight.Goals as goal

pub push_entry_if_weighted-requires-clause-periods : goal.push_entry_if_weighted-requires-clause-periods
push_entry_if_weighted-requires-clause-periods c =
    item_of (λ (e : WeighedSchedule). length e.schedule.on ≤ MOST_PERIODS) (entries_of c.args.from.now)
    c.loop-index.index
    (entry_of c.get.result.now) c.requires.periods
    (map_item entry_of c.args.from.now.items c.loop-index.index c.get.result.now c.get.ensures.item)

pub loop-index-preserved : goal.loop-index-preserved
loop-index-preserved c =
    let es = entries_of c.args.from.now in
    let k = c.loop-index.index in
    let e = entry_of c.get.result.now in
    let room = c.loop-index.invariant.room in
    let spare = c.in_ok-push_entry_if_weighted.ensures.spare in
    record {
      so_far = c.in_ok-push_entry_if_weighted.ensures.entries ∙
          ap (λ (l : List WeighedSchedule). l ++ weighed_of (e ∷ [])) c.loop-index.invariant.so_far ∙
          sym (weighed_more es k e (map_item entry_of c.args.from.now.items k c.get.result.now c.get.ensures.item));
      room = omega (arith, room, spare);
    }

pub returns : goal.returns
returns c =
    let es = entries_of c.args.from.now in
    let count = length-map c.args.from.now.items entry_of in
    let end = c.len-index-end.ensures in
    let last = c.loop-index-test.false in
    c.loop-index.invariant.so_far ∙ ap weighed_of (take_all c.loop-index.index es (omega (arith, count, end, last)))
