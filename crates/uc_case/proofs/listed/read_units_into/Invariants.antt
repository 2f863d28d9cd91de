use Rattle.uc_case.proofs.Common.{◌≡◌, ◌+◌, ◌≤◌, length, drop, map, All, member_views, site, each, position}
use Rattle.uc_case.proofs.Common.{each_member}
use Rattle.uc_case.proofs.listed.read_units_into.Given as goal

abbrev pub invariant-loop-member : goal.invariant-loop-member
invariant-loop-member g l = record {
  count : length l.list.items ≡ l.member-index;
  room : length l.members ≤ l.list.spare + l.member-index;
  fits : All (λ n. g.N.Listed.Keeps l.periods n) (map g.N.Listed.plain_of l.list.items);
  so_far : each (λ before. (g.N.Listed.reading l.periods) (site l.at.field l.at.kind (position before)))
      (map g.N.Listed.plain_of l.list.items) (member_views (drop l.member-index l.members)) ≡ each_member l.at.field
      l.at.kind (g.N.Listed.reading l.periods) (member_views l.members);
}
