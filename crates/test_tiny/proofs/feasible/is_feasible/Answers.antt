use Rattle.test_tiny.proofs.Common.{length, thermal_of, schedule_of}
use Rattle.test_tiny.proofs.FeasibleLaws.{feasible_by_places, places_keep_rules}
use Rattle.test_tiny.proofs.feasible.is_feasible.Goals as goal

pub returns-then-may_stop_at_once : goal.returns-then-may_stop_at_once
returns-then-may_stop_at_once c =
    let g = thermal_of c.args.unit.now in
    let s = schedule_of c.args.response.now in (
      λ yes. feasible_by_places g s (length g.window) c.args.response.now.valid c.requires
          (c.may_stop_at_once.ensures.0 c.if-may_stop_at_once.true) (c.keeps_rules.ensures.0 yes),
      λ h. c.keeps_rules.ensures.1 (places_keep_rules g s (length g.window) h),
    )
