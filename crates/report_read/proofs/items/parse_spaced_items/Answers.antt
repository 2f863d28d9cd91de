use Rattle.report_read.proofs.Common.{arith, spaced, items_at}
use Rattle.report_read.proofs.Lemmas.{item_goes_on, item_fails, items_done}
use Rattle.report_read.proofs.items.parse_spaced_items.Goals as goal

pub returns-in_err-next : goal.returns-in_err-next
returns-in_err-next g c =
    let item = spaced (g.F.ValueForm.found c.args.item) in
    rw c.from_residual.ensures (item_fails item c.loop.list.items c.args.count c.loop.counter c.loop.rest.now
    (items_at item c.args.count c.args.bytes.now) c.loop-test.true c.in_err-next.ensures c.loop.invariant.reads)

pub loop-preserved : goal.loop-preserved
loop-preserved g c =
    let item = spaced (g.F.ValueForm.found c.args.item) in
    record {
      reads = rw c.push.ensures.items (item_goes_on item c.loop.list.items c.args.count c.loop.counter c.loop.rest.now
          c.in_ok-next.next c.in_ok-next.after.now (items_at item c.args.count c.args.bytes.now)
          c.loop-test.true c.in_ok-next.ensures c.loop.invariant.reads);
      room = omega (arith, c.push.ensures.spare, c.loop.invariant.room);
    }

pub returns : goal.returns
returns g c =
    let item = spaced (g.F.ValueForm.found c.args.item) in
    items_done item c.loop.list.items c.args.count c.loop.counter c.loop.rest.now
    (items_at item c.args.count c.args.bytes.now) c.loop-test.false c.loop.invariant.reads
