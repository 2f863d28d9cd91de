use Rattle.uc_plan.proofs.Common.{refl, member_view}
use Rattle.uc_plan.proofs.Lemmas.{none_yet, put_member}
use Rattle.uc_plan.proofs.lookup.Values.fill.Goals as goal

pub loop-done-init : goal.loop-done-init
loop-done-init c = λ q. rw (none_yet q c.args.members.now, c.requires q) refl

pub loop-done-preserved : goal.loop-done-preserved
loop-done-preserved c = λ q.
    let m = c.index-members-members.result in
    put_member q (member_view m).name c.args.members.now c.loop-done.done m m.value _ _ c.loop-done-test.true
    c.index-members-members.is refl refl (c.in_ok-put.ensures q) (c.loop-done.invariant q)
