use Rattle.uc_text.proofs.Common.{refl}
use Rattle.uc_text.proofs.Lemmas.{next_member}
use Rattle.uc_text.proofs.object.ObjectBranch.members.Goals as goal

pub loop-preserved : goal.loop-preserved
loop-preserved c =
    let bytes = c.args.self.bytes.now in
    next_member bytes c.loop.members.items c.push.new.self.items _ c.loop.rest.now c.skip_value.result.now
    c.skip_value-rest.result.now c.args.self.count c.loop.counter _
    c.in_ok-push.ensures.items c.text.ensures refl (c.skip_value.ensures bytes) (c.skip_value-rest.ensures bytes)
    c.loop-test.true
    c.loop.invariant
