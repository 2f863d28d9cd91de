use Rattle.plan_check.proofs.Common.{◌≡◌, ◌*◌, pos, map, take, IsFrom, schedule_of, powers_at, reserves_at}
use Rattle.plan_check.proofs.totals.totals_at.Given as goal

abbrev pub invariant-loop-response : goal.invariant-loop-response
invariant-loop-response l = record {
  power : l.totals.power ≡ powers_at (map schedule_of (take l.response-index l.responses)) l.index;
  reserve : l.totals.reserve ≡ reserves_at (map schedule_of (take l.response-index l.responses)) l.index;
  power_limit : IsFrom (pos 0) (pos (4294967296 * l.response-index)) l.totals.power;
  reserve_limit : IsFrom (pos 0) (pos (4294967296 * l.response-index)) l.totals.reserve;
}
