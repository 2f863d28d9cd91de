use Rattle.report_read.proofs.Common.{◌≡◌, ◌-◌, ◌≤◌, spaced, items_at}
use Rattle.report_read.proofs.Loops.{with_front}
use Rattle.report_read.proofs.items.parse_spaced_items.Given as goal

abbrev pub invariant-loop : goal.invariant-loop
invariant-loop g l =
    let item = spaced (g.F.ValueForm.found l.item) in
    record {
      reads : with_front l.list.items (items_at item (l.count - l.counter) l.rest) ≡ items_at item l.count l.bytes;
      room : l.count - l.counter ≤ l.list.spare;
    }
