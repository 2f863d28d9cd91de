use Rattle.test_tiny.proofs.Common.{◌≡◌, suc, length, thermal_of, schedule_of, prices_of, schedules_after, IsWithin}
use Rattle.test_tiny.proofs.Common.{IsKept}
use Rattle.test_tiny.proofs.trying.try_from.Given as goal

abbrev pub invariant-tries : goal.invariant-tries
invariant-tries l = record {
  long : length l.candidate.on.items ≡ length l.prices.energy.items;
  room : length l.kept.response.on.items ≡ length l.prices.energy.items;
  within : IsWithin l.most (schedule_of l.candidate);
  so_far : IsKept (thermal_of l.unit) (prices_of l.prices) l.most
      (suc (schedules_after l.most (schedule_of l.candidate))) l.found (schedule_of l.kept.response) l.kept.earned;
}

abbrev pub decreases-tries : goal.decreases-tries
decreases-tries l = schedules_after l.most (schedule_of l.candidate)
