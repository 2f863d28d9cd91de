use Rattle.bundle_columns.proofs.Common.{arith, ints, rules, w64, FitsSigned, to_z-of_z, ◌∙◌, entries_of}
use Rattle.bundle_columns.proofs.Weighing.{giver_within, stays_on}
use Rattle.bundle_columns.proofs.weights.move_all_weight_to_entry.Goals as goal

pub move_weight-requires-clause-amount : goal.move_weight-requires-clause-amount
move_weight-requires-clause-amount c =
    let within = giver_within (entries_of c.loop-index.entries) c.loop-index.index c.loop-index.invariant.shares in
    let fits : FitsSigned w64 c.weight_at-amount.result = search rules in
    let is = to_z-of_z w64 c.weight_at-amount.result fits ∙ c.weight_at-amount.ensures in
    let low = within.at_least in
    record { at_least = omega (arith, ints, is, low); at_most = omega (arith, ints, is) }

pub loop-index-preserved : goal.loop-index-preserved
loop-index-preserved c =
    let count = c.loop-index.invariant.count in
    let more = c.move_weight.ensures.count in
    record {
      stays = stays_on (entries_of c.args.entries.now) (entries_of c.loop-index.entries) (entries_of
          c.move_weight.new.entries)
          c.loop-index.invariant.stays c.move_weight.ensures.stays;
      shares = c.move_weight.ensures.shares;
      count = omega (arith, count, more);
    }
