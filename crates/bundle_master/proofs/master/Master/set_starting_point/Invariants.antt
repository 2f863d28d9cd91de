use Rattle.std.proofs.Common.{◌≡◌}
use Rattle.bundle_master.proofs.master.Master.set_starting_point.Given as goal

abbrev pub invariant-loop : goal.invariant-loop
invariant-loop l = l.self ≡ l.initial.self
