use Rattle.bundle_columns.proofs.Common.{◌≡◌, length, refl, ◌∙◌, arith, entries_of, entry_of}
use Rattle.bundle_columns.proofs.Common.{length-map, map_item, zip_item, WeighedSchedule}
use Rattle.bundle_columns.proofs.Copying.{one_copied, item_there, splice_all}
use Rattle.std.proofs.lemmas.List.{length-set}
use Rattle.plain_lists.proofs.ListLaws.{length_same}
use Rattle.bundle_columns.proofs.copies.copy_mixture_entries.Goals as goal

abbrev IsLike : WeighedSchedule → WeighedSchedule → Type 0
IsLike a b = length a.schedule.on ≡ length b.schedule.on

pub loop-index-init : goal.loop-index-init
loop-index-init c =
    let from = length-map c.args.from.now.items entry_of in
    let into = length-map c.args.into.now.items entry_of in
    let same = length_same IsLike (entries_of c.args.from.now) (entries_of c.args.into.now) c.requires in
    record { so_far = refl; count = omega (arith, from, into, same) }

pub copy_mixture_entry-requires : goal.copy_mixture_entry-requires
copy_mixture_entry-requires c =
    let from = entries_of c.args.from.now in
    let into = entries_of c.args.into.now in
    let k = c.loop-index.index in
    let there = item_there k from into (entries_of c.loop-index.into) (entry_of c.get_mut.result.now)
    c.loop-index.invariant.so_far (length_same IsLike from into c.requires)
    (map_item entry_of c.loop-index.into.items k c.get_mut.result.now c.get_mut.ensures.item) in
    zip_item IsLike from into k (entry_of c.get.result.now) (entry_of c.get_mut.result.now) c.requires
    (map_item entry_of c.args.from.now.items k c.get.result.now c.get.ensures.item) there

pub loop-index-preserved : goal.loop-index-preserved
loop-index-preserved c =
    let from = entries_of c.args.from.now in
    let into = entries_of c.args.into.now in
    let k = c.loop-index.index in
    record {
      so_far = one_copied entry_of k from into c.loop-index.into.items c.copy_mixture_entry.new.into
          (entry_of c.get.result.now) c.loop-index.invariant.so_far (length_same IsLike from into c.requires)
          (map_item entry_of c.args.from.now.items k c.get.result.now c.get.ensures.item) c.copy_mixture_entry.ensures;
      count = length-set _ _ _ ∙ c.loop-index.invariant.count;
    }

pub returns : goal.returns
returns c =
    let from = entries_of c.args.from.now in
    let into = entries_of c.args.into.now in
    let count = length-map c.args.from.now.items entry_of in
    let end = c.len-index-end.ensures in
    let last = c.loop-index-test.false in
    c.loop-index.invariant.so_far ∙
    splice_all c.loop-index.index from into (length_same IsLike from into c.requires) (omega (arith, count, end, last))
