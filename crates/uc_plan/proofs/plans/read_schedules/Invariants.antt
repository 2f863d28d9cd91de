use Rattle.uc_plan.proofs.Common.{◌≡◌, ◌+◌, members_in}
use Rattle.uc_plan.proofs.Lemmas.{Front}
use Rattle.uc_plan.proofs.plans.read_schedules.Given as goal

abbrev pub invariant-loop-named : goal.invariant-loop-named
invariant-loop-named g l = record {
  count : l.unit ≡ l.named-index;
  room : l.plan.spare + l.named-index ≡ l.fn.plan.spare;
  front : Front _ g.N.Named.name_of l.periods l.kind (members_in l.object) l.units l.named-index l.fn.plan.items
      l.plan.items;
}
