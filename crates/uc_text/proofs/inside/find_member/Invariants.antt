use Rattle.uc_text.proofs.Common.{◌≡◌, drop, member_views}
unfoldable use Rattle.uc_text.specs.Inside.{value_under}
use Rattle.uc_text.proofs.inside.find_member.Given as goal

abbrev pub invariant-loop-member : goal.invariant-loop-member
invariant-loop-member l = value_under l.key (member_views (drop l.member-index l.members)) ≡ value_under l.key
    (member_views l.members)
