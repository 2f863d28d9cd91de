use Rattle.uc_text.proofs.Common.{◌≡◌, ◌-◌, ◌++◌, pairs, values, members_in, member_views}
use Rattle.uc_text.proofs.object.ObjectBranch.members.Given as goal

abbrev pub invariant-loop : goal.invariant-loop
invariant-loop l = member_views l.members.items ++ pairs (l.self.count - l.counter)
    (values l.self.bytes.now l.rest) ≡ members_in l.self
