use Rattle.test_parts.proofs.Common.{rules, ◌≡◌, ◌≤◌, ◌∷◌, ◌++◌, [], ap, length, length-append, arith, All-push}
use Rattle.test_parts.proofs.Common.{All-same}
use Rattle.test_parts.specs.declared.task_deal_tests.Keeper.{Keeper}
use Rattle.test_parts.proofs.task_deal_tests.keepers.Goals as goal

pub loop-preserved : goal.loop-preserved
loop-preserved c =
    let job : Keeper = record { numbers = c.in_ok-numbers.numbers } in
    let e : c.push.new.self.items ≡ c.loop.jobs.items ++ job ∷ [] = search rules in (
      omega (arith, c.loop.invariant.0, ap length e, length-append c.loop.jobs.items (job ∷ [])),
      All-same (λ (k : Keeper). c.args.room ≤ k.numbers.spare) _ _ e
          (All-push (λ (k : Keeper). c.args.room ≤ k.numbers.spare) c.loop.jobs.items job c.loop.invariant.1
          c.in_ok-numbers.ensures.room),
    )
