use Rattle.bundle_columns.proofs.Rescheduling.{schedule_set}
use Rattle.bundle_columns.proofs.pool.write_schedule_of_entry.Goals as goal

pub returns : goal.returns
returns c = schedule_set c.args.entries.now.items c.args.index c.get_mut.result.now _ _ c.get_mut.ensures.item
    c.copy_response.ensures
