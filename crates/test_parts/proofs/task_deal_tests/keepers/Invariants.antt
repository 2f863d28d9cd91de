use Rattle.test_parts.proofs.Common.{◌≡◌, ◌≤◌, All, length}
use Rattle.test_parts.proofs.task_deal_tests.keepers.Given as goal

abbrev pub invariant-loop : goal.invariant-loop
invariant-loop l = (length l.jobs.items ≡ l.counter) × All (λ job. l.room ≤ job.numbers.spare) l.jobs.items
