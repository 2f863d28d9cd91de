use Rattle.bundle_columns.proofs.Common.{◌≡◌, length, AreShares, most_whole, StaysKept, subst, sym, ◌∙◌}
use Rattle.bundle_columns.proofs.Common.{entries_of, Entry}
use Rattle.plain_lists.specs.Reserved.{Reserved}
use Rattle.bundle_columns.proofs.Weighing.{stays_on}
use Rattle.bundle_columns.proofs.weights.redistribute_entry_weights.Goals as goal
use Rattle.bundle_columns.proofs.weights.redistribute_entry_weights.Goals.{then-index-base, else-index-base}

record IsOn (first now : Reserved Entry) : Type 0 where
  stays : StaysKept (entries_of first) (entries_of now)
  shares : AreShares most_whole (entries_of now)
  count : length now.items ≡ length first.items

pub loop-index-preserved : goal.loop-index-preserved
loop-index-preserved c =
    let P : Reserved Entry → Type 0 = IsOn c.move_all_weight_to_entry.new.entries in
    let h = c.loop-index.invariant in
    let all : P c.if-index-base.entries = elim c.if-index-base.branch [
      | then-index-base w ↦ subst P (sym w.entries-is) (record {
        stays = stays_on (entries_of c.move_all_weight_to_entry.new.entries) (entries_of c.loop-index.entries)
            (entries_of w.move_wanted_weight.new.entries) h.stays w.move_wanted_weight.ensures.stays;
        shares = w.move_wanted_weight.ensures.shares;
        count = w.move_wanted_weight.ensures.count ∙ h.count;
      })
      | else-index-base w ↦ subst P (sym w.entries-is) (record { stays = h.stays; shares = h.shares; count = h.count })
    ] in
    record { stays = all.stays; shares = all.shares; count = all.count }

pub returns-clause-stays : goal.returns-clause-stays
returns-clause-stays c =
    stays_on (entries_of c.args.entries.now) (entries_of c.move_all_weight_to_entry.new.entries)
    (entries_of c.loop-index.entries)
    c.move_all_weight_to_entry.ensures.stays c.loop-index.invariant.stays
