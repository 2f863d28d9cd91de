use Rattle.uc_plan.proofs.Common.{◌≡◌, ℕ, ◌-◌, List, length, drop, option_map, view, member_views, value_under}
use Rattle.indexmap.specs.IndexMap.{get_by_text}
use Rattle.uc_plan.proofs.lookup.Values.fill.Given as goal

abbrev pub invariant-loop-done : goal.invariant-loop-done
invariant-loop-done l = (q : List ℕ) → option_map view (get_by_text l.self.by_key q) ≡ value_under q
    (member_views (drop (length l.members - l.done) l.members))
