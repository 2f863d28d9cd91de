use Rattle.uc_text.proofs.Common.{refl}
use Rattle.uc_text.proofs.Lemmas.{next_item}
use Rattle.uc_text.proofs.list.ListBranch.items.Goals as goal

pub loop-preserved : goal.loop-preserved
loop-preserved c =
    let bytes = c.args.self.bytes.now in
    next_item bytes c.loop.items.items c.push.new.self.items _ c.loop.rest.now c.skip_value-rest.result.now
    c.args.self.count
    c.loop.counter _ c.in_ok-push.ensures.items refl (c.skip_value-rest.ensures bytes) c.loop-test.true c.loop.invariant
