use Rattle.bundle_columns.proofs.Common.{◌≡◌, ℕ, length, map, refl, sym, ◌∙◌, arith, entries_of, mixture_of, List}
use Rattle.bundle_columns.proofs.Common.{length-map, map_item, WeighedSchedule, market_of, Some, slice_get}
use Rattle.bundle_columns.proofs.Common.{Market, MixtureLists, IsKept}
use Rattle.bundle_columns.proofs.Copying.{one_copied, item_there, splice_all, right_item, kept_alike}
use Rattle.bundle_columns.proofs.Keeping.{AreKeptOf}
use Rattle.bundle_columns.specs.Copies.{AreAlike}
use Rattle.std.proofs.lemmas.List.{length-set}
use Rattle.plain_lists.proofs.ListLaws.{length_same}
use Rattle.bundle_columns.proofs.copies.copy_mixture.Goals as goal

same_units : (m : Market) (places : ℕ) (x y : MixtureLists) → IsKept m places x → IsKept m places y →
    length x.entries ≡ length y.entries
same_units m places x y h i =
    sym (length_same (AreKeptOf m.periods places) m.thermal x.entries h.kept) ∙
    length_same (AreKeptOf m.periods places) m.thermal y.entries i.kept

alike : (m : Market) (places : ℕ) (x y : MixtureLists) (k : ℕ) (a b : List WeighedSchedule) → IsKept m places x →
    IsKept m places y → slice_get x.entries k ≡ Some a → slice_get y.entries k ≡ Some b → AreAlike a b
alike m places x y k a b h i at there =
    let R = AreKeptOf m.periods places in
    let one = right_item R m.thermal x.entries k a h.kept at in
    let other = right_item R m.thermal y.entries k b i.kept there in
    kept_alike m.periods places one.0.unit other.0.unit a b one.2 other.2

pub loop-number-init : goal.loop-number-init
loop-number-init c =
    let from = length-map c.args.from.now.thermal.items entries_of in
    let into = length-map c.args.into.now.thermal.items entries_of in
    let same = same_units (market_of c.args.case.now) c.args.places (mixture_of c.args.from.now)
    (mixture_of c.args.into.now) c.requires.from c.requires.into in
    record { so_far = refl; count = omega (arith, from, into, same); weight = refl }

pub copy_mixture_entries-requires : goal.copy_mixture_entries-requires
copy_mixture_entries-requires c =
    let m = market_of c.args.case.now in
    let x = mixture_of c.args.from.now in
    let y = mixture_of c.args.into.now in
    let k = c.loop-number.number in
    let there = item_there k x.entries y.entries (map entries_of c.loop-number.into.thermal.items)
    (entries_of c.get_mut.result.now) c.loop-number.invariant.so_far
    (same_units m c.args.places x y c.requires.from c.requires.into)
    (map_item entries_of c.loop-number.into.thermal.items k c.get_mut.result.now c.get_mut.ensures.item) in
    alike m c.args.places x y k (entries_of c.get.result.now) (entries_of c.get_mut.result.now) c.requires.from
    c.requires.into (map_item entries_of c.args.from.now.thermal.items k c.get.result.now c.get.ensures.item) there

pub loop-number-preserved : goal.loop-number-preserved
loop-number-preserved c =
    let x = mixture_of c.args.from.now in
    let y = mixture_of c.args.into.now in
    let k = c.loop-number.number in
    record {
      so_far = one_copied entries_of k x.entries y.entries c.loop-number.into.thermal.items
          c.copy_mixture_entries.new.into
          (entries_of c.get.result.now) c.loop-number.invariant.so_far
          (same_units (market_of c.args.case.now) c.args.places x y c.requires.from c.requires.into)
          (map_item entries_of c.args.from.now.thermal.items k c.get.result.now c.get.ensures.item)
          c.copy_mixture_entries.ensures;
      count = length-set _ _ _ ∙ c.loop-number.invariant.count;
      weight = c.loop-number.invariant.weight;
    }

pub returns : goal.returns
returns c =
    let x = mixture_of c.args.from.now in
    let y = mixture_of c.args.into.now in
    let count = length-map c.args.from.now.thermal.items entries_of in
    let end = c.len-number-end.ensures in
    let last = c.loop-number-test.false in
    let same = same_units (market_of c.args.case.now) c.args.places x y c.requires.from c.requires.into in
    let whole : c.loop-number.into.weight ≡ c.args.from.now.weight =
    c.loop-number.invariant.weight ∙ c.requires.into.whole ∙ sym c.requires.from.whole in
    let entries : map entries_of c.loop-number.into.thermal.items ≡ x.entries =
    c.loop-number.invariant.so_far ∙ splice_all c.loop-number.number x.entries y.entries same
    (omega (arith, count, end, last)) in
    λ j. record { whole = whole j; entries = entries j }
