use Rattle.plan_check.proofs.Common.{◌≡◌, ◌*◌, pos, ◌+ℤ◌, drop, worth_of, IsFrom}
use Rattle.plan_check.proofs.costs.worth_of_bought_power.Given as goal

abbrev pub invariant-loop-block : goal.invariant-loop-block
invariant-loop-block l = record {
  is : worth_of l.blocks l.power ≡ l.bought.worth +ℤ worth_of (drop l.block-index l.blocks) l.bought.rest;
  worth_limit : IsFrom (pos 0) (pos (10000000000000000 * l.block-index)) l.bought.worth;
  rest_limit : IsFrom (pos 0) (pos 4294967296) l.bought.rest;
}
